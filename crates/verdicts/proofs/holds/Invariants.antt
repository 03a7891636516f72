-- The numbers that are searched: the high ends.
use Rattle.verdicts.specs.Steps.{high_in}
use Rattle.verdicts.proofs.holds.Given as goal

abbrev pub ghost-first_reaching : goal.ghost-first_reaching
ghost-first_reaching a = high_in a.number.1.now a.number.0.now
