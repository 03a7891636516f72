-- What the steps of the code promise each other. No public promise names these.
use Rattle.std.specs.Prelude.{ℕ, ◌+◌, ◌*◌, ◌<◌, ◌≤◌, ◌≡◌, List, [], ◌∷◌, ◌++◌, length, take, drop}
use Rattle.std.proofs.Math.Option.{none}
use Rattle.entries.specs.Entries.{Entry, Sound}
use Rattle.answers.specs.Answers.{Finding}
use Rattle.blocks.specs.Blocks.{set_layout}
use Rattle.blocks.specs.declared.Layout.{Layout}
use Rattle.numbers.specs.Numbers.{past2, num8}
use Rattle.records.specs.Steps.{StartKind, ItemKind, AsTheyAre}
use Rattle.verdicts.specs.declared.Form.{Form}
use Rattle.runs.specs.Runs.{entries_in, run_refusals}
use Rattle.verdicts.specs.Forms.{start_size, trailing, overlap}

-- how many runs a form has, and the layout of their blocks: one run, or two of ranges
pub data Shape : ℕ → Layout → Type 0 where
  lone : {l : Layout} → Shape 1 l
  pair : Shape 2 set_layout

-- the kinds of a form, and its layout; two runs are of kinds that hold words as they are
pub record FormKind (f : Form) : Type 0 where
  pub start : StartKind f.start f.runs
  pub first : ItemKind f.first f.layout.width
  pub second : ItemKind f.second f.layout.width
  pub shape : Shape f.runs f.layout
  pub small : f.layout.limit < past2
  pub plain : (f.runs ≡ 1 → ⊥) → AsTheyAre f.first × AsTheyAre f.second

-- what stands or is lent for the first and the second run, the second not where there is one run
abbrev pub each_of : {A : Type 0} → Form → A → A → List A
each_of f x y = take f.runs (x ∷ y ∷ [])

-- the length of an item record, and the place where the second run begins behind n items
abbrev pub item_size : Form → ℕ
item_size f = 8 * f.layout.width + 5

abbrev pub second_at : Form → ℕ → ℕ
second_at f n = start_size f + item_size f * n

-- the entries of the runs, where n and m are the counts
abbrev pub runs_here : Form → ℕ → ℕ → List ℕ → List (List Entry)
runs_here f n m b = each_of f (entries_in f.first f.layout.width n (drop (start_size f) b)) (entries_in f.second f.layout.width m (drop
    (second_at f n) b))

-- the refusals behind the start
abbrev pub behind_start : ℕ → Form → ℕ → ℕ → List ℕ → List Finding
behind_start mark f n m b =
    run_refusals mark f.first f.layout.width n (start_size f) none (drop (start_size f) b)
    ++ (run_refusals mark f.second f.layout.width m (second_at f n) none (drop (second_at f n) b)
    ++ (trailing (second_at f n + item_size f * m) b ∷ overlap (runs_here f n m b) ∷ []))

-- n range records stand from place p on, their ranges are sound, and their kind holds words as they are
pub record OneRun (kind p n : ℕ) (b : List ℕ) : Type 0 where
  pub held : p + 21 * n ≤ length b
  pub sound : Sound (entries_in kind 2 n (drop p b))
  pub plain : AsTheyAre kind

-- the high end in the record k places on from p
abbrev pub high_in : ℕ → List ℕ → ℕ → ℕ
high_in p b k = num8 b (p + 21 * k + 11)
