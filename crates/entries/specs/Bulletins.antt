-- Bulletins: what one makes of a list, and what two make of each other.
use Rattle.std.specs.Prelude.{◌≡◌, Bool, false, List, ℕ, ltb, length}
use Rattle.entries.specs.Entries.{Entry}
use Rattle.entries.specs.Build.{andb}
use Rattle.entries.specs.Sets.{member, orb, lessb, union, intersection, difference}

-- [U2, U3] A list without what is withdrawn, then joined with what is released. Both halves of a fold have this form too: R1 without
-- W2, joined with R2, and W1 without R2, joined with W2.
abbrev pub amended : List Entry → List Entry → List Entry → List Entry
amended s r w = union (difference s w) r

-- the same at one number (`amended_is` in proofs/Bulletins): in s and not in w, or in r
abbrev pub amend : Bool → Bool → Bool → Bool
amend s r w = orb (lessb s w) r

-- [U1] no number in common
abbrev pub Apart : List Entry → List Entry → Type 0
Apart a b = (x : ℕ) → andb (member a x) (member b x) ≡ false

-- [U1] Two sets share a number: they have an intersection. Those of a bulletin do not.
unfoldable pub shareb : List Entry → List Entry → Bool
shareb r w = ltb 0 (length (intersection r w))
