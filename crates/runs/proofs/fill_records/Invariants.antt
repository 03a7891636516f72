-- Putting the words of the records left where the next item goes gives the whole.
use Rattle.std.proofs.Common.{◌+◌, ◌-◌, ◌*◌, ◌≡◌, length, drop}
use Rattle.blocks.specs.Blocks.{words_of}
use Rattle.numbers.specs.Numbers.{patch}
use Rattle.runs.specs.Runs.{entries_in}
use Rattle.runs.proofs.fill_records.Given as goal

abbrev pub invariant-loop-i : goal.invariant-loop-i
invariant-loop-i l = record {
  same : length l.out ≡ length l.initial.out;
  whole : patch 0 (words_of (entries_in l.kind l.s l.n l.bytes)) l.initial.out
      ≡ patch (l.s * l.i) (words_of (entries_in l.kind l.s (l.n - l.i) (drop ((8 * l.s + 5) * l.i) l.bytes))) l.out;
}
