use Rattle.std.proofs.Common.{◌≡◌, ◌*◌, ◌≤◌, drop}
use Rattle.checks.specs.Check.{fletcher}
use Rattle.checks.specs.Steps.{go_on}
use Rattle.checks.proofs.fletcher_of.Given as goal

abbrev pub invariant-loop-x : goal.invariant-loop-x
invariant-loop-x l = record {
  first : l.sums.a ≤ 255 * l.x-index;
  second : l.sums.b ≤ 8415 * l.x-index;
  on : fletcher 0 0 l.bytes ≡ go_on l.sums (drop l.x-index l.bytes);
}
