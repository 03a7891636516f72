-- Invariant: every range before `at` ends below x.
use Rattle.prefixes.specs.Steps.{Begins}
use Rattle.prefixes.proofs.place_from.Given as goal

abbrev pub invariant-loop-at : goal.invariant-loop-at
invariant-loop-at l = Begins l.set l.at l.x
