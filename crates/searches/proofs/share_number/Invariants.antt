-- Invariant: the sets share a number exactly if the ranges left of both do (`Left`). Measure: the ranges left of both together.
use Rattle.std.proofs.Common.{◌+◌, ◌*◌, ◌≤◌, length, get_or}
use Rattle.searches.proofs.Walking.{Left, in_words}
use Rattle.searches.proofs.share_number.Given as goal

abbrev pub invariant-loop-left : goal.invariant-loop-left
invariant-loop-left l = record {
  first : l.i + 2 * l.left ≤ length l.a;
  second : l.j + 2 * l.others ≤ length l.b;
  rest : Left (in_words l.a) (in_words l.b) (get_or l.a 0 0) 1 (get_or l.b 0 0) 1 l.i l.left l.j l.others;
}

abbrev pub decreases-loop-left : goal.decreases-loop-left
decreases-loop-left l = l.left + l.others
