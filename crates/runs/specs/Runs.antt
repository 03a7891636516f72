-- A run of item records of one kind, s words an item, and several runs one behind the other: their bytes, their entries, and the
-- refusals of reading them.
use Rattle.std.specs.Prelude.{ℕ, zero, suc, ◌+◌, ◌*◌, ◌≤◌, List, [], ◌∷◌, ◌++◌, length, drop}
use Rattle.std.proofs.Math.Option.{Option, none, some}
use Rattle.entries.specs.Entries.{Entry, Sound}
use Rattle.answers.specs.Answers.{at}
use Rattle.answers.specs.Answers.{Finding}
use Rattle.blocks.specs.Blocks.{Shaped}
use Rattle.records.specs.Records.{item_record, item_verdict, entry_in}

-- [B3, B4, B5] a run as it may stand in a form: sound entries of s words each, no more than the limit
pub record Fine (s limit : ℕ) (es : List Entry) : Type 0 where
  pub sound : Sound es
  pub shaped : Shaped s es
  pub within : length es ≤ limit

-- [Y10] the records of the entries, one after the other
unfoldable pub run_of : ℕ → ℕ → List Entry → List ℕ
run_of mark kind [] = []
run_of mark kind (e ∷ es) = item_record mark kind e ++ run_of mark kind es

-- the entries in n records
unfoldable pub entries_in : ℕ → ℕ → ℕ → List ℕ → List Entry
entries_in kind s zero b = []
entries_in kind s (suc n) b = entry_in kind s b ∷ entries_in kind s n (drop (8 * s + 5) b)

-- [Y13, Y14] n records are due at place p, where the bytes b are left: «For each record in turn», with its place
unfoldable pub run_refusals : ℕ → ℕ → ℕ → ℕ → ℕ → Option Entry → List ℕ → List Finding
run_refusals mark kind s zero p before b = []
run_refusals mark kind s (suc n) p before b =
    at p (item_verdict mark kind s before b) ∷ run_refusals mark kind s n (p + (8 * s + 5)) (some (entry_in kind s b)) (drop (8 * s + 5) b)

-- the sum of counts, and the number of elements of each list
abbrev pub total : List ℕ → ℕ
total [] = 0
total (n ∷ ns) = n + total ns

abbrev pub lengths : {A : Type 0} → List (List A) → List ℕ
lengths [] = []
lengths (x ∷ xs) = length x ∷ lengths xs

-- a run of each kind
unfoldable pub runs_of : ℕ → List ℕ → List (List Entry) → List ℕ
runs_of mark [] runs = []
runs_of mark (kind ∷ kinds) [] = []
runs_of mark (kind ∷ kinds) (es ∷ runs) = run_of mark kind es ++ runs_of mark kinds runs

-- the entries of a run of each kind, by their counts
unfoldable pub runs_in : ℕ → List ℕ → List ℕ → List ℕ → List (List Entry)
runs_in s [] counts b = []
runs_in s (kind ∷ kinds) [] b = []
runs_in s (kind ∷ kinds) (n ∷ counts) b = entries_in kind s n b ∷ runs_in s kinds counts (drop ((8 * s + 5) * n) b)

-- each run is judged from its own first record
unfoldable pub runs_refusals : ℕ → ℕ → ℕ → List ℕ → List ℕ → List ℕ → List Finding
runs_refusals mark s p [] counts b = []
runs_refusals mark s p (kind ∷ kinds) [] b = []
runs_refusals mark s p (kind ∷ kinds) (n ∷ counts) b =
    run_refusals mark kind s n p none b ++ runs_refusals mark s (p + (8 * s + 5) * n) kinds counts (drop ((8 * s + 5) * n) b)
