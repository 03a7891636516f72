use Rattle.std.proofs.Common.{◌≡◌, drop}
use Rattle.checks.specs.Check.{crc, crc_from}
use Rattle.checks.proofs.crc_of.Given as goal

abbrev pub invariant-loop-x : goal.invariant-loop-x
invariant-loop-x l = crc l.bytes ≡ crc_from l.register.bits (drop l.x-index l.bytes)
