-- What the steps of the code promise each other. No public promise names these.
use Rattle.std.specs.Prelude.{ℕ, ◌+◌, ◌*◌, ◌≤◌, ◌≡◌, List, length, drop, Result, Ok, Err}
use Rattle.std.proofs.Math.Option.{none}
use Rattle.answers.specs.declared.Refusal.{Refusal}
use Rattle.answers.specs.Answers.{Clear}
use Rattle.answers.specs.Steps.{FirstOf}
use Rattle.runs.specs.Runs.{run_refusals}

-- a run judged: no refusal and the place behind it, which is in the bytes; or its first refusal
pub record RunPassed (mark kind s n from : ℕ) (b : List ℕ) (place : ℕ) : Type 0 where
  pub clear : Clear (run_refusals mark kind s n from none (drop from b))
  pub behind : place ≡ from + (8 * s + 5) * n
  pub within : place ≤ length b

abbrev pub RunJudged : ℕ → ℕ → ℕ → ℕ → ℕ → List ℕ → Result ℕ Refusal → Type 0
RunJudged mark kind s n from b (Ok place) = RunPassed mark kind s n from b place
RunJudged mark kind s n from b (Err f) = FirstOf (run_refusals mark kind s n from none (drop from b)) (Err f)

-- n records and their n items have the room
pub record Fills (s n : ℕ) (b out : List ℕ) : Type 0 where
  pub two : 2 ≤ s
  pub four : s ≤ 4
  pub held : (8 * s + 5) * n ≤ length b
  pub room : s * n ≤ length out
