use Rattle.std.proofs.Common.{rules}
use Rattle.verdicts.proofs.Searching.{rising}
use Rattle.verdicts.proofs.holds.Goals as goal

pub first_reaching-i-requires : goal.first_reaching-i-requires
first_reaching-i-requires c = search (rules, rising)
