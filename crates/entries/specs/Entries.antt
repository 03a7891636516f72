-- Entries and lists of entries: what they name, and when they are sound.
-- A value is a list of words: none in a set, one in a map.
use Rattle.std.specs.Prelude.{◌≡◌, ◌≢◌, Bool, true, false, List, [], ◌∷◌, ℕ, suc, ◌≤◌, ◌<◌, leb}
use Rattle.std.proofs.Math.Option.{Option, none, some}

-- what holds of each of a list
abbrev pub Each : {A : Type 0} → (A → Type 0) → List A → Type 0
Each P [] = Unit {0}
Each P (x ∷ xs) = P x × Each P xs

-- [B6] a value is any words: none in a set, one in a map
abbrev pub Value : Type 0
Value = List ℕ

-- [B2] a range and its value; both ends belong to it
pub record Entry : Type 0 where
  pub low : ℕ
  pub high : ℕ
  pub value : Value

-- the entry with these parts
abbrev pub entry : ℕ → ℕ → Value → Entry
entry l h v = record { low = l; high = h; value = v }

-- the first of two where it is there, else the second
abbrev pub or_else : {A : Type 0} → Option A → Option A → Option A
or_else none p = p
or_else (some a) p = some a

-- the value where both tests pass
abbrev pub both : Bool → Bool → Value → Option Value
both true true v = some v
both true false v = none
both false t v = none

-- the value that an entry gives to the number x
abbrev pub at : Entry → ℕ → Option Value
at e x = both (leb e.low x) (leb x e.high) e.value

-- [B6] the value that a list gives to x: a number in no entry has no value
abbrev pub value_at : List Entry → ℕ → Option Value
value_at [] x = none
value_at (e ∷ es) x = or_else (at e x) (value_at es x)

-- [B4, B5] q may stand right after p: its low exceeds the high before it, and where it exceeds it by exactly 1 the two values differ.
-- Where no entry has a value, in a set, this is: its low is at least the high before it plus 2 (`plain_sound` in proofs/Plain).
abbrev pub After : Entry → Entry → Type 0
After p q = (p.high < q.low) × (q.low ≡ suc p.high → p.value ≢ q.value)

-- the first of a list, if there is one, may stand right after p
abbrev pub Link : Entry → List Entry → Type 0
Link p [] = Unit {0}
Link p (q ∷ qs) = After p q

-- [B4, B5] each low is at most its high, and each entry may stand after the one before it
abbrev pub Sound : List Entry → Type 0
Sound [] = Unit {0}
Sound (e ∷ es) = (e.low ≤ e.high) × Link e es × Sound es

-- es is sound and gives every number the value that F gives it
pub record ListOf (F : ℕ → Option Value) (es : List Entry) : Type 0 where
  pub sound : Sound es
  pub names : (x : ℕ) → value_at es x ≡ F x
