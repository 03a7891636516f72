-- The questions about a list of entries, each as its requirement says it.
use Rattle.std.specs.Prelude.{Bool, true, false, List, [], ◌∷◌, ℕ, zero, suc, ◌+◌, ◌-◌, max, leb, ltb}
use Rattle.std.proofs.Math.Option.{Option, none, some}
use Rattle.entries.specs.Entries.{Entry}
use Rattle.entries.specs.Build.{pick, andb}

-- [S2] the range at index i, or none if i is at least n
abbrev pub range_at : List Entry → ℕ → Option Entry
range_at [] i = none
range_at (e ∷ es) zero = some e
range_at (e ∷ es) (suc i) = range_at es i

-- [S3] how many numbers the ranges hold (`size_counts` in proofs/Questions: as many as there are members)
abbrev pub size_of : List Entry → ℕ
size_of [] = 0
size_of (e ∷ es) = (suc e.high - e.low) + size_of es

-- [S4] the least member at or above x, or none (`least_member_lem`)
abbrev pub least_member : List Entry → ℕ → Option ℕ
least_member [] x = none
least_member (e ∷ es) x = pick (leb x e.high) (some (max x e.low)) (least_member es x)

-- the entries that a test keeps, in order
abbrev pub filter : (Entry → Bool) → List Entry → List Entry
filter keep [] = []
filter keep (e ∷ es) = pick (keep e) (e ∷ filter keep es) (filter keep es)

-- [S6] all ranges that share a number with a..b
abbrev pub meeting : ℕ → ℕ → List Entry → List Entry
meeting a b = filter (λ e. andb (leb e.low b) (leb a e.high))

-- the ranges wholly below a
abbrev pub wholly_below : ℕ → List Entry → List Entry
wholly_below a = filter (λ e. ltb e.high a)

-- a list that names nothing
abbrev pub is_empty : List Entry → Bool
is_empty [] = true
is_empty (e ∷ es) = false

-- a truth value as a number, 1 or 0
abbrev pub bit : Bool → ℕ
bit true = 1
bit false = 0

-- how many numbers below N a test accepts
abbrev pub count : (ℕ → Bool) → ℕ → ℕ
count m zero = 0
count m (suc x) = bit (m x) + count m x
