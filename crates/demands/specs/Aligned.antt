-- ALIGNED FITS AND RESERVATIONS, said of the calls' own outcomes. `choose` is first_gap for first fit, shortest_gap for best fit.
use Rattle.std.specs.Prelude.{◌≡◌, true, List, [], ◌∷◌, ℕ, ◌+◌, ◌-◌, ◌≤◌, ◌<◌, length}
use Rattle.std.proofs.Math.Option.{Option}
use Rattle.entries.specs.Entries.{Entry}
use Rattle.entries.specs.Build.{pick}
use Rattle.answers.specs.Answers.{outcome, given, refuse, Keeps}
use Rattle.blocks.specs.Blocks.{set_layout, capacity, entries_of}
use Rattle.fits.specs.Fits.{aligned, place_in, first_gap, shortest_gap, first_fit, best_fit}
use Rattle.fits.specs.Meaning.{FreeRun}
use Rattle.fits.specs.Starts.{Multiple, FirstFrom, BestFrom}
use Rattle.fits.specs.Calls.{first_fit_call, best_fit_call, reserve_first_call, reserve_best_call, reserved_at, last_power, fit_aligned_call, reserve_aligned_call}
use Rattle.fits.specs.Calls.{first_fit_aligned_call, best_fit_aligned_call, reserve_first_aligned_call, reserve_best_aligned_call}
use Rattle.demands.specs.Plain.{Iff, In, SoundSet, SameForm, answers, SetLeft, between}
use Rattle.demands.specs.Outcomes.{Accepts, RunAsked}
use Rattle.demands.specs.Stored.{SameOutcome}

-- an aligned run is rightly asked for: a run is (`RunAsked`), and j is at most 63
pub record AlignedAsked (w : List ℕ) (a b k j : ℕ) : Type 0 where
  pub run : RunAsked w a b k
  pub power : j ≤ last_power

-- there is a multiple of 2^j from which k numbers in a row are free: they all lie in the window, and none is a member
pub record AlignedSomewhere (w : List ℕ) (a b k j : ℕ) : Type 0 where
  pub start : ℕ
  pub multiple : Multiple j start
  pub run : FreeRun a b (entries_of set_layout.width w) start (start + k - 1)

-- [A3] FIRST FIT: the call answers s exactly if the run is rightly asked for, and s is the least multiple of 2^j from which k numbers are all free
-- and in the window
abbrev pub FirstFitAligned : Type 0
FirstFitAligned = (w : List ℕ) (a b k j s : ℕ)
    → Iff (first_fit_aligned_call w a b k j ≡ answers (s ∷ []))
    (AlignedAsked w a b k j × FirstFrom (Multiple j) a b k (entries_of set_layout.width w) s)

-- [A4] BEST FIT: the call answers s exactly if the run is rightly asked for, and s is the least multiple of 2^j in the shortest gap that holds k
-- numbers from a multiple of 2^j on, the lowest such gap on a tie
abbrev pub BestFitAligned : Type 0
BestFitAligned = (w : List ℕ) (a b k j s : ℕ)
    → Iff (best_fit_aligned_call w a b k j ≡ answers (s ∷ []))
    (AlignedAsked w a b k j × BestFrom (Multiple j) a b k (entries_of set_layout.width w) s)

-- [A5] NO GAP EXACTLY: each of the four calls is refused with 7 exactly if the run is rightly asked for and there is no such multiple
abbrev pub NoGapAligned : Type 0
NoGapAligned = (w : List ℕ) (a b k j : ℕ)
    → Iff (first_fit_aligned_call w a b k j ≡ refuse 7 0 []) (AlignedAsked w a b k j × (AlignedSomewhere w a b k j → ⊥))
    × Iff (best_fit_aligned_call w a b k j ≡ refuse 7 0 []) (AlignedAsked w a b k j × (AlignedSomewhere w a b k j → ⊥))
    × Iff (reserve_first_aligned_call w a b k j ≡ refuse 7 0 (w ∷ [])) (AlignedAsked w a b k j × (AlignedSomewhere w a b k j → ⊥))
    × Iff (reserve_best_aligned_call w a b k j ≡ refuse 7 0 (w ∷ [])) (AlignedAsked w a b k j × (AlignedSomewhere w a b k j → ⊥))

-- [A3, A4, A5] ACCEPTED EXACTLY, of the questions: the run is rightly asked for, and there is one
abbrev pub FitAlignedAccepted : Type 0
FitAlignedAccepted = (w : List ℕ) (a b k j : ℕ)
    → Iff (Accepts (first_fit_aligned_call w a b k j)) (AlignedAsked w a b k j × AlignedSomewhere w a b k j)
    × Iff (Accepts (best_fit_aligned_call w a b k j)) (AlignedAsked w a b k j × AlignedSomewhere w a b k j)

-- [A2] ALIGN EXACTLY: a fit and a reservation are refused with 16 exactly if the block is sound, the window is in order, the run has at least one
-- number, and j is above 63
abbrev pub AlignExactly : Type 0
AlignExactly = (choose : List Entry → Option Entry) (w : List ℕ) (a b k j : ℕ)
    → Iff (fit_aligned_call choose w a b k j ≡ refuse 16 0 []) (RunAsked w a b k × (last_power < j))
    × Iff (reserve_aligned_call choose w a b k j ≡ refuse 16 0 (w ∷ [])) (RunAsked w a b k × (last_power < j))

-- [A2, R4] with 4, whatever j is, exactly if the block is sound and the window's low end is above its high end
abbrev pub AlignedBackwards : Type 0
AlignedBackwards = (choose : List Entry → Option Entry) (w : List ℕ) (a b k j : ℕ)
    → Iff (fit_aligned_call choose w a b k j ≡ refuse 4 0 []) (SoundSet w × (b < a))
    × Iff (reserve_aligned_call choose w a b k j ≡ refuse 4 0 (w ∷ [])) (SoundSet w × (b < a))

-- [A2, R6] with 6, whatever j is, exactly if the block is sound, the window is in order, and a run of 0 numbers is asked for
abbrev pub AlignedZeroRun : Type 0
AlignedZeroRun = (choose : List Entry → Option Entry) (w : List ℕ) (a b k j : ℕ)
    → Iff (fit_aligned_call choose w a b k j ≡ refuse 6 0 []) (SoundSet w × (a ≤ b) × (k ≡ 0))
    × Iff (reserve_aligned_call choose w a b k j ≡ refuse 6 0 (w ∷ [])) (SoundSet w × (a ≤ b) × (k ≡ 0))

-- [A1, F4, R0] a reservation, refused, keeps the block
abbrev pub ReserveAlignedKeeps : Type 0
ReserveAlignedKeeps = (choose : List Entry → Option Entry) (w : List ℕ) (a b k j : ℕ) → Keeps (w ∷ []) (reserve_aligned_call choose w a b k j)

-- [A1, F4, F5, D2] accepted, it answers the place s that the question answers, and inserts exactly s to s+k-1
abbrev pub ReserveAligned : Type 0
ReserveAligned = (choose : List Entry → Option Entry) (w : List ℕ) (a b k j s : ℕ) (after : List ℕ)
    → reserve_aligned_call choose w a b k j ≡ outcome (given (s ∷ [])) (after ∷ [])
    → (fit_aligned_call choose w a b k j ≡ answers (s ∷ [])) × SetLeft (length w) (λ x. pick (between s (s + k - 1) x) true (In w x)) after

-- the question answers a place, and the set with the run at that place is within the block's capacity,
pub record AlignedReservable (choose : List Entry → Option Entry) (w : List ℕ) (a b k j : ℕ) : Type 0 where
  pub place : ℕ
  pub answered : fit_aligned_call choose w a b k j ≡ answers (place ∷ [])
  pub room : length (reserved_at w place k) ≤ capacity set_layout (length w)

-- or has more ranges than that
pub record AlignedNoRoom (choose : List Entry → Option Entry) (w : List ℕ) (a b k j : ℕ) : Type 0 where
  pub place : ℕ
  pub answered : fit_aligned_call choose w a b k j ≡ answers (place ∷ [])
  pub short : capacity set_layout (length w) < length (reserved_at w place k)

-- [A1, F5, R5] a reservation is accepted exactly in the first case, and refused for want of room exactly in the second: for the place that is chosen,
-- and for no other
abbrev pub ReserveAlignedRoom : Type 0
ReserveAlignedRoom = (choose : List Entry → Option Entry) (w : List ℕ) (a b k j : ℕ)
    → Iff (Accepts (reserve_aligned_call choose w a b k j)) (AlignedReservable choose w a b k j)
    × Iff (reserve_aligned_call choose w a b k j ≡ refuse 5 0 (w ∷ [])) (AlignedNoRoom choose w a b k j)

-- [A1, B7, R0] later words of the block are not read
abbrev pub LaterAligned : Type 0
LaterAligned = (w v : List ℕ) → SameForm set_layout w v → (choose : List Entry → Option Entry) (a b k j : ℕ)
    → (fit_aligned_call choose w a b k j ≡ fit_aligned_call choose v a b k j)
    × SameOutcome (w ∷ []) (v ∷ []) (reserve_aligned_call choose w a b k j) (reserve_aligned_call choose v a b k j)

-- [A6] WITH J = 0 the definitions are those of first fit and of best fit,
abbrev pub AlignedZero : Type 0
AlignedZero = (place_in (aligned 0) first_gap ≡ first_fit) × (place_in (aligned 0) shortest_gap ≡ best_fit)

-- [A6] and each call has the outcome of its call without j
abbrev pub AlignedZeroCalls : Type 0
AlignedZeroCalls = (w : List ℕ) (a b k : ℕ)
    → (first_fit_aligned_call w a b k 0 ≡ first_fit_call w a b k)
    × (best_fit_aligned_call w a b k 0 ≡ best_fit_call w a b k)
    × (reserve_first_aligned_call w a b k 0 ≡ reserve_first_call w a b k)
    × (reserve_best_aligned_call w a b k 0 ≡ reserve_best_call w a b k)
