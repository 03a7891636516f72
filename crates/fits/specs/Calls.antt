-- What each call of fitting answers and leaves, from the words lent to it alone.
use Rattle.std.proofs.Math.Option.{Option, none, some}
use Rattle.std.specs.Prelude.{List, [], ◌∷◌, ◌++◌, ℕ, ◌+◌, ◌-◌, eqb, ltb, length}
use Rattle.entries.specs.Entries.{Entry}
use Rattle.answers.specs.Answers.{Finding}
use Rattle.answers.specs.Answers.{Outcome, outcome, given, at, applies, in_turn}
use Rattle.blocks.specs.Blocks.{set_layout, entries_of, block_of}
use Rattle.blocks.specs.Calls.{input, backwards, room}
use Rattle.edits.specs.Calls.{edited}
use Rattle.fits.specs.Fits.{first_gap, shortest_gap, place_in, first_fit, best_fit, aligned}

-- [R6] a run of 0 numbers is asked for
abbrev pub zero_run : ℕ → Finding
zero_run k = at 0 (applies (eqb k 0) 6)

-- 7 where there is no place
abbrev pub gapless : Option ℕ → ℕ
gapless none = 7
gapless (some s) = 0

-- [R7] no free run as asked for exists in the window: there is no place for it
abbrev pub no_gap : Option ℕ → Finding
no_gap place = at 0 (gapless place)

-- the place where there is one
abbrev pub place_of : Option ℕ → ℕ
place_of none = 0
place_of (some s) = s

-- [R17] a run of k asked for in the window a..b: 1, 2, 3 of the block, then 4, 6,
abbrev pub ask_refusals : List ℕ → ℕ → ℕ → ℕ → List Finding
ask_refusals w a b k = input 0 set_layout w ∷ backwards a b ∷ zero_run k ∷ []

-- [R17] and then 7, by the place that was found
abbrev pub fit_refusals : List ℕ → ℕ → ℕ → ℕ → Option ℕ → List Finding
fit_refusals w a b k place = ask_refusals w a b k ++ (no_gap place ∷ [])

-- the place is the answer, and nothing is written
abbrev pub answered : ℕ → Outcome
answered s = outcome (given (s ∷ [])) []

-- [F4] a fit as a question
unfoldable pub fit_call : (ℕ → ℕ → ℕ → List Entry → Option ℕ) → List ℕ → ℕ → ℕ → ℕ → Outcome
fit_call fit w a b k = in_turn (fit_refusals w a b k (fit a b k (entries_of 2 w))) [] (answered (place_of (fit a b k (entries_of 2 w))))

-- [F4] the set with s to s+k-1 in it
abbrev pub reserved_at : List ℕ → ℕ → ℕ → List Entry
reserved_at w s k = edited set_layout w s (s + k - 1) (some [])

-- [F5] of a reservation: the place is chosen first, and room is then judged for that place only
abbrev pub reserve_refusals : List ℕ → ℕ → ℕ → ℕ → Option ℕ → List Finding
reserve_refusals w a b k place = fit_refusals w a b k place ++ (room 0 set_layout (length w) (reserved_at w (place_of place) k) ∷ [])

-- [F4] a reservation returns s, and the block has s to s+k-1 in it
abbrev pub reserved_with : List ℕ → ℕ → ℕ → Outcome
reserved_with w s k = outcome (given (s ∷ [])) (block_of (length w) (reserved_at w s k) ∷ [])

-- [F4, F5] a fit as a reservation
unfoldable pub reserve_call : (ℕ → ℕ → ℕ → List Entry → Option ℕ) → List ℕ → ℕ → ℕ → ℕ → Outcome
reserve_call fit w a b k =
    in_turn (reserve_refusals w a b k (fit a b k (entries_of 2 w))) (w ∷ []) (reserved_with w (place_of (fit a b k (entries_of 2 w))) k)

-- [F2] first fit, as a question
abbrev pub first_fit_call : List ℕ → ℕ → ℕ → ℕ → Outcome
first_fit_call = fit_call first_fit

-- [F3] best fit, as a question
abbrev pub best_fit_call : List ℕ → ℕ → ℕ → ℕ → Outcome
best_fit_call = fit_call best_fit

-- [F2, F4] first fit, as a reservation
abbrev pub reserve_first_call : List ℕ → ℕ → ℕ → ℕ → Outcome
reserve_first_call = reserve_call first_fit

-- [F3, F4] best fit, as a reservation
abbrev pub reserve_best_call : List ℕ → ℕ → ℕ → ℕ → Outcome
reserve_best_call = reserve_call best_fit

-- ALIGNED: the start is to be a multiple of 2^j
-- [A1] j is from 0 to 63: 2^63 is the greatest power of two in a word
abbrev pub last_power : ℕ
last_power = 63

-- [A2] j is above that
abbrev pub too_high : ℕ → Finding
too_high j = at 0 (applies (ltb last_power j) 16)

-- [A2] a run of k asked for so: 1, 2, 3 of the block, then 4, 6, and just after it 16,
abbrev pub align_refusals : List ℕ → ℕ → ℕ → ℕ → ℕ → List Finding
align_refusals w a b k j = ask_refusals w a b k ++ (too_high j ∷ [])

-- [A2] then 7, by the place that was found,
abbrev pub fit_aligned_refusals : List ℕ → ℕ → ℕ → ℕ → ℕ → Option ℕ → List Finding
fit_aligned_refusals w a b k j place = align_refusals w a b k j ++ (no_gap place ∷ [])

-- [A2, F5] and of a reservation then 5, for that place only
abbrev pub reserve_aligned_refusals : List ℕ → ℕ → ℕ → ℕ → ℕ → Option ℕ → List Finding
reserve_aligned_refusals w a b k j place =
    fit_aligned_refusals w a b k j place ++ (room 0 set_layout (length w) (reserved_at w (place_of place) k) ∷ [])

-- [A3, A4, A5] the place in the gap that is chosen, or none
abbrev pub aligned_place : (List Entry → Option Entry) → List ℕ → ℕ → ℕ → ℕ → ℕ → Option ℕ
aligned_place choose w a b k j = place_in (aligned j) choose a b k (entries_of 2 w)

-- [A1, A2] an aligned fit as a question
unfoldable pub fit_aligned_call : (List Entry → Option Entry) → List ℕ → ℕ → ℕ → ℕ → ℕ → Outcome
fit_aligned_call choose w a b k j =
    in_turn (fit_aligned_refusals w a b k j (aligned_place choose w a b k j)) [] (answered (place_of (aligned_place choose w a b k j)))

-- [A1, A2] an aligned fit as a reservation
unfoldable pub reserve_aligned_call : (List Entry → Option Entry) → List ℕ → ℕ → ℕ → ℕ → ℕ → Outcome
reserve_aligned_call choose w a b k j =
    in_turn (reserve_aligned_refusals w a b k j (aligned_place choose w a b k j)) (w ∷ []) (reserved_with w (place_of (aligned_place choose w a b k j)) k)

-- [A3] first fit, as a question
abbrev pub first_fit_aligned_call : List ℕ → ℕ → ℕ → ℕ → ℕ → Outcome
first_fit_aligned_call = fit_aligned_call first_gap

-- [A4] best fit, as a question
abbrev pub best_fit_aligned_call : List ℕ → ℕ → ℕ → ℕ → ℕ → Outcome
best_fit_aligned_call = fit_aligned_call shortest_gap

-- [A3] first fit, as a reservation
abbrev pub reserve_first_aligned_call : List ℕ → ℕ → ℕ → ℕ → ℕ → Outcome
reserve_first_aligned_call = reserve_aligned_call first_gap

-- [A4] best fit, as a reservation
abbrev pub reserve_best_aligned_call : List ℕ → ℕ → ℕ → ℕ → ℕ → Outcome
reserve_best_aligned_call = reserve_aligned_call shortest_gap
