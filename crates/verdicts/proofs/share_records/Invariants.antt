-- The two runs share a number exactly where what is left of them does. Measure: the ranges left of both.
use Rattle.std.proofs.Common.{◌+◌, ◌-◌, ◌≤◌}
use Rattle.verdicts.proofs.Walking.{Walk}
use Rattle.verdicts.proofs.share_records.Given as goal

abbrev pub invariant-loop-i : goal.invariant-loop-i
invariant-loop-i l = record {
  within : l.i ≤ l.n;
  within_too : l.j ≤ l.m;
  left : Walk l.first l.p l.n l.second l.q l.m l.bytes l.i l.j;
}

abbrev pub decreases-loop-i : goal.decreases-loop-i
decreases-loop-i l = (l.n - l.i) + (l.m - l.j)
