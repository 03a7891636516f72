-- FITS AND RESERVATIONS, said of the calls' own answers.
use Rattle.std.specs.Prelude.{◌≡◌, true, List, [], ◌∷◌, ℕ, ◌+◌, ◌-◌, ◌<◌, length}
use Rattle.std.proofs.Math.Option.{Option, some}
use Rattle.entries.specs.Entries.{Entry}
use Rattle.entries.specs.Build.{pick}
use Rattle.answers.specs.Answers.{outcome, given, refuse, Keeps}
use Rattle.blocks.specs.Blocks.{set_layout, capacity, entries_of}
use Rattle.fits.specs.Calls.{reserved_at, fit_call, first_fit_call, best_fit_call, reserve_call}
use Rattle.fits.specs.Meaning.{FirstOf, BestOf}
use Rattle.demands.specs.Plain.{Iff, In, answers, SetLeft, between}

-- [F2] the answer of the call is the first fit
abbrev pub FirstFit : Type 0
FirstFit = (w : List ℕ) (a b k s : ℕ) → first_fit_call w a b k ≡ answers (s ∷ []) → FirstOf a b k (entries_of set_layout.width w) (some s)

-- [F3] the answer of the call is the best fit
abbrev pub BestFit : Type 0
BestFit = (w : List ℕ) (a b k s : ℕ) → best_fit_call w a b k ≡ answers (s ∷ []) → BestOf a b k (entries_of set_layout.width w) (some s)

-- [F4, R0] a reservation, refused, keeps the block
abbrev pub ReserveKeeps : Type 0
ReserveKeeps = (fit : ℕ → ℕ → ℕ → List Entry → Option ℕ) (w : List ℕ) (a b k : ℕ) → Keeps (w ∷ []) (reserve_call fit w a b k)

-- [F4, F5, D2] accepted, it answers the place s that the question answers, and inserts exactly s to s+k-1
abbrev pub Reserve : Type 0
Reserve = (fit : ℕ → ℕ → ℕ → List Entry → Option ℕ) (w : List ℕ) (a b k s : ℕ) (after : List ℕ)
    → reserve_call fit w a b k ≡ outcome (given (s ∷ [])) (after ∷ [])
    → (fit_call fit w a b k ≡ answers (s ∷ [])) × SetLeft (length w) (λ x. pick (between s (s + k - 1) x) true (In w x)) after

-- the question answers a place, and the set that a reservation there would leave has more ranges than the block's capacity
pub record NoRoomAt (fit : ℕ → ℕ → ℕ → List Entry → Option ℕ) (w : List ℕ) (a b k : ℕ) : Type 0 where
  pub place : ℕ
  pub answered : fit_call fit w a b k ≡ answers (place ∷ [])
  pub short : capacity set_layout (length w) < length (reserved_at w place k)

-- [R5, F5] a reservation is refused for want of room exactly there
abbrev pub ReserveRoom : Type 0
ReserveRoom = (fit : ℕ → ℕ → ℕ → List Entry → Option ℕ) (w : List ℕ) (a b k : ℕ)
    → Iff (reserve_call fit w a b k ≡ refuse 5 0 (w ∷ [])) (NoRoomAt fit w a b k)
