-- Invariant: the blocks of the ranges before i are noted.
use Rattle.std.proofs.Common.{◌-◌, get_or}
use Rattle.prefixes.proofs.Passes.{Passing}
use Rattle.prefixes.proofs.TakingMethod.pass.Given as goal

abbrev pub invariant-loop-i : goal.invariant-loop-i
invariant-loop-i l = Passing l.set l.initial.pairs l.i (get_or l.set 0 0 - l.i) l.pairs
