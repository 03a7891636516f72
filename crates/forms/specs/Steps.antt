-- What the steps of the code promise each other. No public promise names these.
use Rattle.std.specs.Prelude.{ℕ, ◌+◌, ◌*◌, ◌<◌, ◌≤◌, ◌≡◌, List, ltb, length, get_or, drop}
use Rattle.entries.specs.Build.{pick}
use Rattle.numbers.specs.Numbers.{past2}
use Rattle.runs.specs.Steps.{Fills}
use Rattle.verdicts.specs.declared.Form.{Form}
use Rattle.verdicts.specs.Forms.{start_size}
use Rattle.verdicts.specs.Steps.{Shape, FormKind, item_size, second_at}

-- a run of n records from place p on, and a block with room for its items
pub record Stored (s n p : ℕ) (b out : List ℕ) : Type 0 where
  pub there : p ≤ length b
  pub some : 1 ≤ length out
  pub fills : Fills s n (drop p b) (drop 1 out)

-- the runs of a form, and a block for each
pub record Stores (f : Form) (n m : ℕ) (b out out2 : List ℕ) : Type 0 where
  pub first : Stored f.layout.width n (start_size f) b out
  pub second : (f.runs ≡ 1 → ⊥) → Stored f.layout.width m (second_at f n) b out2
  pub shape : Shape f.runs f.layout

-- the count in the second block of a form, 0 where there is one run
abbrev pub count_held : ℕ → List ℕ → ℕ
count_held runs w = pick (ltb 1 runs) (get_or w 0 0) 0

-- what two counts together are below, and what the bytes of so many items are at most
abbrev pub two_counts : ℕ
two_counts = 131072

abbrev pub most_bytes : ℕ
most_bytes = 4849664

-- blocks with n and m items, and bytes with room for their form
pub record Puts (f : Form) (n m : ℕ) (w w2 b : List ℕ) : Type 0 where
  pub kind : FormKind f
  pub small : n < past2
  pub small_too : m < past2
  pub held : second_at f n + item_size f * m ≤ length b
  pub room : 1 + f.layout.width * n ≤ length w
  pub room_too : (f.runs ≡ 1 → ⊥) → 1 + f.layout.width * m ≤ length w2
