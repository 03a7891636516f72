-- The numbers that are searched: the highs of the items.
use Rattle.std.proofs.Common.{◌*◌, ◌+◌, get_or, ℕ}
use Rattle.searches.proofs.first_from.Given as goal

abbrev pub ghost-first_reaching : goal.ghost-first_reaching
ghost-first_reaching a = λ (k : ℕ). get_or a.number.0.now (a.number.1.now * k + 2) 0
