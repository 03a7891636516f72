-- The records so far are in the bytes, and the first refusal of those left is that of the whole run.
use Rattle.std.proofs.Common.{◌+◌, ◌-◌, ◌*◌, ◌≤◌, length, drop}
use Rattle.std.specs.Prelude.{Result}
use mathlib.Core.Option.{none}
use Rattle.answers.specs.Steps.{FirstOf}
use Rattle.answers.specs.declared.Refusal.{Refusal}
use Rattle.records.specs.Reads.{previous}
use Rattle.runs.specs.Runs.{run_refusals}
use Rattle.runs.proofs.judge_run.Given as goal

abbrev pub invariant-loop-i : goal.invariant-loop-i
invariant-loop-i l = record {
  within : l.from + (8 * l.s + 5) * l.i ≤ length l.bytes;
  whole : (r : Result (Unit {0}) Refusal)
      → FirstOf (run_refusals l.mark l.kind l.s (l.n - l.i) (l.from + (8 * l.s + 5) * l.i) (previous l.s l.before) (drop
      (l.from + (8 * l.s + 5) * l.i) l.bytes)) r
      → FirstOf (run_refusals l.mark l.kind l.s l.n l.from none (drop l.from l.bytes)) r;
}
