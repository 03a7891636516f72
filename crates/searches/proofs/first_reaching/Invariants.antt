-- Invariant: each number before low is below x, and that at high is not. Measure: the steps that what is open takes at most.
use Rattle.std.proofs.Common.{◌-◌}
use Rattle.searches.proofs.Halving.{Open, steps}
use Rattle.searches.proofs.first_reaching.Given as goal

abbrev pub invariant-loop-low : goal.invariant-loop-low
invariant-loop-low g l = Open g.numbers l.n l.x l.low l.high

abbrev pub decreases-loop-low : goal.decreases-loop-low
decreases-loop-low g l = steps (l.high - l.low)
