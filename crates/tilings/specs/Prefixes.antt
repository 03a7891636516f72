-- Prefix blocks: 2^e numbers from a multiple of 2^e on. The blocks of a set, taken from its ranges one after another, and the plain method
-- for audit, which cuts the whole line into halves.
use Rattle.std.specs.Prelude.{◌≡◌, Bool, true, false, List, [], ◌∷◌, ◌++◌, ℕ, zero, suc, ◌+◌, ◌-◌, ◌%◌, ◌^◌, ◌≤◌, leb, ltb, eqb}
use Rattle.std.proofs.Math.Option.{Option, none, some}
use Rattle.entries.specs.Entries.{Entry, entry}
use Rattle.entries.specs.Build.{pick, andb}
use Rattle.entries.specs.Sets.{M, orb, complement}
use Rattle.entries.specs.Questions.{least_member}

-- [P1] a block: its first number, and the exponent e of its 2^e numbers
pub record Prefix : Type 0 where
  pub start : ℕ
  pub exponent : ℕ

-- the block with these parts
abbrev pub prefix : ℕ → ℕ → Prefix
prefix s e = record { start = s; exponent = e }

-- [P1] the exponent of the whole line 0..M, the greatest of any block
abbrev pub whole : ℕ
whole = 64

-- [P1] 2^e numbers of 0..M, e from 0 to 64, starting at a multiple of 2^e
pub record Block (p : Prefix) : Type 0 where
  pub in_line : p.start ≤ M
  pub small : p.exponent ≤ whole
  pub aligned : p.start % 2 ^ p.exponent ≡ 0

-- x is one of the 2^e numbers from the start on
abbrev pub holds : Prefix → ℕ → Bool
holds p x = andb (leb p.start x) (ltb x (p.start + 2 ^ p.exponent))

-- [P4] the numbers that a list of blocks names
abbrev pub named : List Prefix → ℕ → Bool
named [] x = false
named (p ∷ ps) x = orb (holds p x) (named ps x)

-- [P2] rising order: each block ends before the next begins
abbrev pub InOrder : List Prefix → Type 0
InOrder [] = Unit {0}
InOrder (p ∷ []) = Unit {0}
InOrder (p ∷ q ∷ ps) = (p.start + 2 ^ p.exponent ≤ q.start) × InOrder (q ∷ ps)

-- [P3] The largest block that fits at the low end p of n numbers: the greatest exponent, of those up to e, whose power divides p (every
-- power divides 0) and is at most n (`largest_is` in proofs/Powers).
unfoldable pub largest : ℕ → ℕ → ℕ → ℕ
largest zero p n = 0
largest (suc e) p n = pick (andb (eqb (p % 2 ^ suc e) 0) (leb (2 ^ suc e) n)) (suc e) (largest e p n)

-- the block from p on with the exponent e, and what comes behind it
abbrev pub block_then : ℕ → ℕ → (ℕ → List Prefix) → List Prefix
block_then p e rest = prefix p e ∷ rest e

-- [P3] from the n numbers from p on, the largest block that fits, repeatedly; in at most k steps, of which n are enough
unfoldable pub taken : ℕ → ℕ → ℕ → List Prefix
taken zero p n = []
taken (suc k) p zero = []
taken (suc k) p (suc n) = block_then p (largest whole p (suc n)) (λ e. taken k (p + 2 ^ e) (suc n - 2 ^ e))

-- [P3] from the n numbers from p on
abbrev pub taken_all : ℕ → ℕ → List Prefix
taken_all p n = taken n p n

-- [P2, P3] the blocks of a set, from each range in turn
unfoldable pub prefixes : List Entry → List Prefix
prefixes [] = []
prefixes (e ∷ es) = taken_all e.low (suc e.high - e.low) ++ prefixes es

-- there is no such number below t
abbrev pub none_below : ℕ → Option ℕ → Bool
none_below t none = true
none_below t (some y) = leb t y

-- [P5] a block is wholly out: the least member at or above its start, if there is one, is behind it
abbrev pub wholly_out : List Entry → ℕ → ℕ → Bool
wholly_out es e s = none_below (s + 2 ^ e) (least_member es s)

-- [P5] and wholly in: it is wholly out of the complement
abbrev pub wholly_in : List Entry → ℕ → ℕ → Bool
wholly_in es e s = wholly_out (complement es) e s

-- [P5] a block wholly out is dropped, wholly in kept, and else cut into halves; these are behind a function, so that they are computed only then
abbrev pub kept_of : Bool → Bool → Prefix → (Unit {0} → List Prefix) → List Prefix
kept_of true t p halves = []
kept_of false true p halves = p ∷ []
kept_of false false p halves = halves tt

-- [P5] the plain method for audit, on the block of 2^e numbers from s on; one number is wholly in or wholly out, and has no halves
unfoldable pub audit : List Entry → ℕ → ℕ → List Prefix
audit es zero s = kept_of (wholly_out es 0 s) (wholly_in es 0 s) (prefix s 0) (λ u. [])
audit es (suc e) s =
    kept_of (wholly_out es (suc e) s) (wholly_in es (suc e) s) (prefix s (suc e)) (λ u. audit es e s ++ audit es e (s + 2 ^ e))

-- [P5] from the whole line on
abbrev pub audited : List Entry → List Prefix
audited es = audit es whole 0

-- [P4] the most blocks that one range has: 63 at either end ({1..M-1} has as many)
abbrev pub most : ℕ
most = 126

-- [P2] A pair (start, e) is stored as a range is, in two words: the start where a range has its low, e where it has its high.
abbrev pub pairs_of : List Prefix → List Entry
pairs_of [] = []
pairs_of (p ∷ ps) = entry p.start p.exponent [] ∷ pairs_of ps
