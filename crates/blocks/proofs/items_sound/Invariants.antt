-- Invariant: the items from the one before i on are sound exactly if all n are.
use Rattle.std.proofs.Common.{◌≡◌}
use Rattle.blocks.proofs.Tests.{rest, from_before}
use Rattle.blocks.proofs.items_sound.Given as goal

abbrev pub invariant-loop-i : goal.invariant-loop-i
invariant-loop-i l = from_before l.s l.block l.n l.i ≡ rest l.s l.block 1 l.n
