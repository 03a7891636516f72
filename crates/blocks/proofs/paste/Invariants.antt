-- Invariant: the words before k are written, and every other one is as it was.
use Rattle.std.proofs.Common.{◌≡◌, ◌+◌, ◌<◌, ◌≤◌, ℕ, length, get_or}
use Rattle.blocks.proofs.paste.Given as goal

abbrev pub invariant-loop-k : goal.invariant-loop-k
invariant-loop-k l = record {
  len : length l.block ≡ length l.initial.block;
  before : (j : ℕ) → j < l.at → get_or l.block j 0 ≡ get_or l.initial.block j 0;
  here : (j : ℕ) → j < l.k → get_or l.block (l.at + j) 0 ≡ get_or l.new j 0;
  after : (j : ℕ) → l.at + l.k ≤ j → get_or l.block j 0 ≡ get_or l.initial.block j 0;
}
