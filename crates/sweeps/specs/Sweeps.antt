-- What one sweep over three lists makes of them: for any table of their memberships, the one sound list of the numbers that the
-- table accepts. No public promise names these: each operation is said by its own definition, and a law of proofs/Tables
-- says that the sweep with its table gives it.
use Rattle.std.specs.Prelude.{◌≡◌, Bool, true, false, not, List, [], ◌∷◌, ◌++◌, ℕ, ◌+◌, ◌*◌, ◌-◌, ◌/◌, ◌%◌, ◌^◌, ◌≤◌, ◌<◌, ltb, eqb, length, get_or, take}
use Rattle.std.specs.Int.{from_bool}
use Rattle.std.proofs.Math.Option.{Option, none, some}
use Rattle.entries.specs.Entries.{Value, Entry, value_at, Sound}
use Rattle.entries.specs.Build.{pick, andb, build, cuts_of}
use Rattle.entries.specs.Sets.{has, orb, lessb, xorb, past_m}
use Rattle.blocks.specs.Blocks.{entries_of, Lent}
use Rattle.sweeps.specs.declared.Plan.{Plan}

-- 1 for true
abbrev pub bit : Bool → ℕ
bit = from_bool

-- the table of a test of three memberships a, b, c, one bit for each case: bit a + 2b + 4c
abbrev pub table_of : (Bool → Bool → Bool → Bool) → ℕ
table_of f =
    bit (f false false false)
    + 2 * bit (f true false false)
    + 4 * bit (f false true false)
    + 8 * bit (f true true false)
    + 16 * bit (f false false true)
    + 32 * bit (f true false true)
    + 64 * bit (f false true true)
    + 128 * bit (f true true true)

-- The tables of the operations on two lists, of those on one, and of a bulletin. Union and overlay: in either.
abbrev pub in_either : ℕ
in_either = table_of (λ a b c. orb a b)

-- intersection and restriction: in both
abbrev pub in_both : ℕ
in_both = table_of (λ a b c. andb a b)

-- difference: in the first and not in the second
abbrev pub first_alone : ℕ
first_alone = table_of (λ a b c. lessb a b)

-- symmetric difference: in exactly one
abbrev pub just_one : ℕ
just_one = table_of (λ a b c. xorb a b)

-- complement: not in the set
abbrev pub not_first : ℕ
not_first = table_of (λ a b c. not a)

-- the numbers that have a value: in the map
abbrev pub in_first : ℕ
in_first = table_of (λ a b c. a)

-- a bulletin, of the list, what is released and what is withdrawn: without the third, then joined with the second
abbrev pub amending : ℕ
amending = table_of (λ a b c. orb (lessb a c) b)

-- bit a + 2b + 4c of the table
unfoldable pub accepts : ℕ → Bool → Bool → Bool → Bool
accepts t a b c = eqb (t / 2 ^ (bit a + 2 * bit b + 4 * bit c) % 2) 1

-- the value of the first list that has one
abbrev pub first_of : Option Value → Option Value → Option Value → Value
first_of (some v) p q = v
first_of none (some v) q = v
first_of none none (some v) = v
first_of none none none = []

-- the value for an output of s words an item
unfoldable pub mixed : ℕ → ℕ → Option Value → Option Value → Option Value → Option Value
mixed t s o p q = pick (accepts t (has o) (has p) (has q)) (some (take (s - 2) (first_of o p q))) none

-- the function that a sweep lists: nothing above M
unfoldable pub swept : ℕ → ℕ → List Entry → List Entry → List Entry → ℕ → Option Value
swept t s es fs gs x = pick (ltb x past_m) (mixed t s (value_at es x) (value_at fs x) (value_at gs x)) none

-- the one sound list of that function
unfoldable pub sweep_result : ℕ → ℕ → List Entry → List Entry → List Entry → List Entry
sweep_result t s es fs gs = build (swept t s es fs gs) (past_m ∷ cuts_of es ++ (cuts_of fs ++ cuts_of gs))

-- the same of the entries that three blocks say
abbrev pub result_of : Plan → List ℕ → List ℕ → List ℕ → List Entry
result_of plan a b c = sweep_result plan.table plan.out (entries_of plan.a a) (entries_of plan.b b) (entries_of plan.c c)

-- a judged block of s words an item, at most two of them its value
pub record Input (s : ℕ) (w : List ℕ) : Type 0 where
  pub two : 2 ≤ s
  pub four : s ≤ 4
  pub some : 0 < length w
  pub held : 1 + s * get_or w 0 0 ≤ length w
  pub sound : Sound (entries_of s w)
  pub words : Lent w

-- three inputs
pub record Inputs (sa sb sc : ℕ) (a b c : List ℕ) : Type 0 where
  pub first : Input sa a
  pub second : Input sb b
  pub third : Input sc c

-- no entry names a number above M
abbrev pub Bounded : List Entry → Type 0
Bounded es = (x : ℕ) → past_m ≤ x → value_at es x ≡ none

-- the words an item of the first input that has the number
abbrev pub width_of : ℕ → ℕ → ℕ → Bool → Bool → Bool → ℕ
width_of sa sb sc true b c = sa
width_of sa sb sc false true c = sb
width_of sa sb sc false false true = sc
width_of sa sb sc false false false = 2

-- an output of s words an item, which have their value wherever the table accepts (`fit_set`, `fit_overlay`, `fit_restriction` in proofs/Tables)
pub record Fit (t s sa sb sc : ℕ) : Type 0 where
  pub two : 2 ≤ s
  pub four : s ≤ 4
  pub wide : (a b c : Bool) → accepts t a b c ≡ true → s ≤ width_of sa sb sc a b c
