-- Fitting: the gaps of a window, and the place that first fit and best fit choose for a run of k numbers.
-- Which starts are allowed is a parameter: `up s` is the least allowed start at or above s.
use Rattle.std.specs.Prelude.{Bool, List, [], ◌∷◌, ℕ, suc, ◌+◌, ◌*◌, ◌-◌, ◌/◌, ◌^◌, leb}
use Rattle.std.proofs.Math.Option.{Option, none, some}
use Rattle.entries.specs.Entries.{Entry, entry}
use Rattle.entries.specs.Build.{pick}
use Rattle.entries.specs.Sets.{difference}
use Rattle.entries.specs.Questions.{filter}

-- [F1] the runs of non-members in the window that cannot be made longer there: the ranges of the window a..b without the members
-- (`gaps_are` in proofs/Meaning: these are exactly those runs)
unfoldable pub gaps : ℕ → ℕ → List Entry → List Entry
gaps a b es = difference (entry a b [] ∷ []) es

-- how many numbers a gap has
abbrev pub numbers : Entry → ℕ
numbers g = suc g.high - g.low

-- whether a run of k from the least allowed start in a gap ends in it
abbrev pub fits : (ℕ → ℕ) → ℕ → Entry → Bool
fits up k g = leb (up g.low + k) (suc g.high)

-- First fit takes the first of the gaps that a run fits in.
abbrev pub first_gap : List Entry → Option Entry
first_gap [] = none
first_gap (g ∷ gs) = some g

-- the shorter of two gaps, the first on a tie
abbrev pub shorter : Entry → Option Entry → Entry
shorter g none = g
shorter g (some h) = pick (leb (numbers g) (numbers h)) g h

-- Best fit takes the shortest gap, the lowest such gap on a tie.
abbrev pub shortest_gap : List Entry → Option Entry
shortest_gap [] = none
shortest_gap (g ∷ gs) = some (shorter g (shortest_gap gs))

-- the least allowed start in a gap
abbrev pub start_in : (ℕ → ℕ) → Option Entry → Option ℕ
start_in up none = none
start_in up (some g) = some (up g.low)

-- the place for a run of k in the window a..b: the start in the gap that is chosen from those that the run fits in, if there are any
unfoldable pub place_in : (ℕ → ℕ) → (List Entry → Option Entry) → ℕ → ℕ → ℕ → List Entry → Option ℕ
place_in up choose a b k es = start_in up (choose (filter (fits up k) (gaps a b es)))

-- every start is allowed
abbrev pub anywhere : ℕ → ℕ
anywhere s = s

-- [F2] the least s such that s to s+k-1 all lie in the window and are non-members (`first_fit_lem` in proofs/Meaning)
abbrev pub first_fit : ℕ → ℕ → ℕ → List Entry → Option ℕ
first_fit = place_in anywhere first_gap

-- [F3] the low end of the shortest gap of at least k numbers, the lowest such gap on a tie (`best_fit_lem` in proofs/Meaning)
abbrev pub best_fit : ℕ → ℕ → ℕ → List Entry → Option ℕ
best_fit = place_in anywhere shortest_gap

-- [A3, A4] only multiples of 2^j are allowed: the least of them at or above s (`multiples` in proofs/Multiples)
unfoldable pub aligned : ℕ → ℕ → ℕ
aligned j s = (s + (2 ^ j - 1)) / 2 ^ j * 2 ^ j
