-- Answers in the numbers of the table of refusals, and outcomes: what a call answers and what it leaves in everything lent to it.
use Rattle.std.specs.Prelude.{◌≡◌, Bool, true, false, List, [], ◌∷◌, ℕ, zero, suc, ◌-◌, eqb}
use Rattle.std.proofs.Math.Option.{Option, none, some}
use Rattle.entries.specs.Build.{pick}

-- the highest number of the table of refusals, that of Align
abbrev pub last_number : ℕ
last_number = 16

-- [R0] given, with the values that the question asks for; or refused, with a number and a place
pub data Answer : Type 0 where
  given : List ℕ → Answer
  refused : ℕ → ℕ → Answer

-- an answer, and the words or bytes of each block or buffer lent to be written, as they then are, in the order of the call
pub data Outcome : Type 0 where
  outcome : Answer → List (List ℕ) → Outcome

-- [R0] refused with a number and a place: everything lent is as it was, even where a call has two blocks to write
abbrev pub refuse : ℕ → ℕ → List (List ℕ) → Outcome
refuse number place lent = outcome (refused number place) lent

-- By a verdict on the block at a position: 0, go on; else refused with that number and the position as its place.
abbrev pub judged : ℕ → ℕ → List (List ℕ) → Outcome → Outcome
judged zero position lent x = x
judged (suc v) position lent x = refuse (suc v) position lent

-- a refusal that may apply: its number in the table, or 0 where it does not apply, and its place
pub record Finding : Type 0 where
  pub number : ℕ
  pub place : ℕ

-- one with this number at this place
abbrev pub at : ℕ → ℕ → Finding
at place number = record { number = number; place = place }

-- [R17] the refusals that may apply, in their order, of which the first is given; and what follows if none does
abbrev pub in_turn : List Finding → List (List ℕ) → Outcome → Outcome
in_turn [] lent x = x
in_turn (f ∷ fs) lent x = judged f.number f.place lent (in_turn fs lent x)

-- no refusal applies
abbrev pub Clear : List Finding → Type 0
Clear [] = Unit {0}
Clear (f ∷ fs) = (f.number ≡ 0) × Clear fs

-- the answer of a question that is true (1) or not (0)
abbrev pub truth : Bool → Answer
truth true = given (1 ∷ [])
truth false = given (0 ∷ [])

-- [W1] the answer of a question about a member: 1 or 0, and how many ranges lie wholly below it
abbrev pub seated : Bool → ℕ → Answer
seated true below = given (1 ∷ below ∷ [])
seated false below = given (0 ∷ below ∷ [])

-- a number, or none
abbrev pub optional : Option ℕ → Answer
optional (some n) = given (n ∷ [])
optional none = given []

-- [S3] empty, or the size less one
abbrev pub less_one : ℕ → Answer
less_one n = pick (eqb n 0) (given []) (given ((n - 1) ∷ []))

-- a test that gives a refusal's number where it holds, and 0 where it does not
abbrev pub applies : Bool → ℕ → ℕ
applies t number = pick t number 0

-- [R20] what is handed back where a call is accepted, and what where it is refused
abbrev pub handed : {A : Type 0} → Outcome → A → A → A
handed (outcome (given xs) lent) part empty = part
handed (outcome (refused n p) lent) part empty = empty

-- [R0] a refused outcome leaves what was lent
abbrev pub Keeps : List (List ℕ) → Outcome → Type 0
Keeps lent (outcome (given xs) after) = Unit {0}
Keeps lent (outcome (refused n p) after) = after ≡ lent
