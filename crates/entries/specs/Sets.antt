-- Sets of numbers, as lists of entries whose value carries nothing, and the operations on them.
use Rattle.std.specs.Prelude.{◌≡◌, Bool, true, false, not, List, [], ◌∷◌, ℕ, leb}
use Rattle.std.proofs.Math.Option.{Option, none, some}
use Rattle.entries.specs.Entries.{Value, Entry, value_at}
use Rattle.entries.specs.Build.{andb, build, cuts_of, combine}

-- the last number, 2^64 - 1
abbrev pub M : ℕ
M = 18446744073709551615

-- the number past the last, 2^64: every lent word is below it
abbrev pub past_m : ℕ
past_m = 18446744073709551616

-- no entry carries a value
abbrev pub Plain : List Entry → Type 0
Plain [] = Unit {0}
Plain (e ∷ es) = (e.value ≡ []) × Plain es

-- there is a value
abbrev pub has : Option Value → Bool
has none = false
has (some v) = true

-- the value of a member of a set, which carries nothing, and that of a number that is none
abbrev pub mark : Bool → Option Value
mark true = some []
mark false = none

-- [S1] is x a member
abbrev pub member : List Entry → ℕ → Bool
member es x = has (value_at es x)

-- at least one holds
abbrev pub orb : Bool → Bool → Bool
orb true b = true
orb false b = b

-- the first holds and the second does not
abbrev pub lessb : Bool → Bool → Bool
lessb a b = andb a (not b)

-- exactly one holds
abbrev pub xorb : Bool → Bool → Bool
xorb true b = not b
xorb false b = b

-- [S13] The one sound list of exactly the numbers whose two memberships g accepts. [S14]: how many ranges it can have, by laws of
-- proofs/Limits.
abbrev pub set_op : (Bool → Bool → Bool) → List Entry → List Entry → List Entry
set_op g = combine (λ o p. mark (g (has o) (has p)))

-- [S11] the numbers of either
unfoldable pub union : List Entry → List Entry → List Entry
union = set_op orb

-- [S11] the numbers of both
unfoldable pub intersection : List Entry → List Entry → List Entry
intersection = set_op andb

-- [S11] the numbers of the first that are not in the second
unfoldable pub difference : List Entry → List Entry → List Entry
difference = set_op lessb

-- [S11] the numbers of exactly one
unfoldable pub symmetric_difference : List Entry → List Entry → List Entry
symmetric_difference = set_op xorb

-- [S12] the numbers of 0..M that are not in the set
unfoldable pub complement : List Entry → List Entry
complement es = build (λ x. mark (lessb (leb x M) (member es x))) (past_m ∷ cuts_of es)
