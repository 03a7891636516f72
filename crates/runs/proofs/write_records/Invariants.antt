-- Writing the items left where the next record goes gives the whole.
use Rattle.std.proofs.Common.{◌+◌, ◌-◌, ◌*◌, ◌≡◌, length, drop}
use Rattle.blocks.specs.Blocks.{items_of}
use Rattle.numbers.specs.Numbers.{patch}
use Rattle.checks.specs.Check.{new_mark}
use Rattle.runs.specs.Runs.{run_of}
use Rattle.runs.proofs.write_records.Given as goal

abbrev pub invariant-loop-i : goal.invariant-loop-i
invariant-loop-i l = record {
  same : length l.bytes ≡ length l.initial.bytes;
  whole : patch 0 (run_of new_mark l.kind (items_of l.s l.n l.words)) l.initial.bytes
      ≡ patch ((8 * l.s + 5) * l.i) (run_of new_mark l.kind (items_of l.s (l.n - l.i) (drop (l.s * l.i) l.words))) l.bytes;
}
