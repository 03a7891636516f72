-- Invariant: the blocks before `at` are noted. Measure: the numbers behind `at`.
use Rattle.std.proofs.Common.{◌-◌}
use Rattle.prefixes.proofs.Passes.{Taking}
use Rattle.prefixes.proofs.Pairs.take_range.Given as goal

abbrev pub invariant-loop-low : goal.invariant-loop-low
invariant-loop-low l = Taking l.low l.high l.initial.self l.at l.self

abbrev pub decreases-loop-low : goal.decreases-loop-low
decreases-loop-low l = l.high - l.at
