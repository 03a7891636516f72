-- What the steps of the code promise each other. No public promise names these.
use Rattle.std.specs.Prelude.{◌≡◌, List, [], ℕ, ◌+◌, ◌*◌, ◌≤◌, ◌<◌, length}
use Rattle.entries.specs.Entries.{Entry, Sound}
use Rattle.blocks.specs.declared.Layout.{Layout}
use Rattle.blocks.specs.Blocks.{entries_of, Shaped}
use Rattle.sweeps.specs.Sweeps.{sweep_result, Fit, Input, Bounded}
use Rattle.sweeps.specs.declared.Plan.{Plan}
use Rattle.operations.specs.declared.Layouts.{Layouts}

-- more than the items of any layout: sums of a few counts stay far below 2^64
abbrev pub many : ℕ
many = 65536

-- the result of a plan of two inputs
abbrev pub result_two : Plan → List ℕ → List ℕ → List Entry
result_two plan a b = sweep_result plan.table plan.out (entries_of plan.a a) (entries_of plan.b b) []

-- two judged inputs
pub record AnyOk (plan : Plan) (a b : List ℕ) : Type 0 where
  pub first : Input plan.a a
  pub second : Input plan.b b
  pub third : plan.c ≡ 2
  pub fit : Fit plan.table plan.out plan.a plan.b 2

-- two judged inputs, and an output of L words; the result has at most bound items
pub record StoreOk (plan : Plan) (limit bound : ℕ) (a b : List ℕ) (L : ℕ) : Type 0 where
  pub first : Input plan.a a
  pub second : Input plan.b b
  pub third : plan.c ≡ 2
  pub fit : Fit plan.table plan.out plan.a plan.b 2
  pub most : length (result_two plan a b) ≤ bound
  pub small : limit < many
  pub some : 0 < L

-- a layout of an input: its values have at most two words
pub record Small (l : Layout) : Type 0 where
  pub two : 2 ≤ l.width
  pub four : l.width ≤ 4
  pub few : l.limit < many

-- a table on two sound lists: the output has its values, and it has at most weight times the first's items and the second's
pub record TwoFit (t : ℕ) (l : Layouts) (weight : ℕ) : Type 0 where
  pub fit : Fit t l.out.width l.first.width l.second.width 2
  pub first : Small l.first
  pub second : Small l.second
  pub few : l.out.limit < many
  pub small : weight ≤ 2
  pub bound : (es fs : List Entry) → Sound es → Sound fs → Bounded es → Bounded fs → Shaped l.first.width es → Shaped l.second.width fs
      → length (sweep_result t l.out.width es fs []) ≤ weight * length es + length fs

-- a table on one sound list: at most one item more
pub record OneFit (t : ℕ) (first out : Layout) : Type 0 where
  pub fit : Fit t out.width first.width 2 2
  pub from : Small first
  pub few : out.limit < many
  pub bound : (es : List Entry) → Sound es → Bounded es → length (sweep_result t out.width es [] []) ≤ length es + 1
