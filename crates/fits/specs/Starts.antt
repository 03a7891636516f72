-- What first fit and best fit mean where only some starts are allowed, such as the multiples of a power of two. The laws of proofs/Meaning
-- are said once, over any allowed starts.
use Rattle.std.specs.Prelude.{◌≡◌, List, ℕ, suc, ◌+◌, ◌-◌, ◌%◌, ◌^◌, ◌≤◌}
use Rattle.std.proofs.Math.Option.{Option, none, some}
use Rattle.entries.specs.Entries.{Entry}
use Rattle.fits.specs.Meaning.{FreeRun, IsGap}

-- [A3, A4] Allowed starts: up s is the least allowed start at or above s
pub record LeastUp (up : ℕ → ℕ) (Allowed : ℕ → Type 0) : Type 1 where
  pub above : (s : ℕ) → s ≤ up s
  pub allowed : (s : ℕ) → Allowed (up s)
  pub least : (s t : ℕ) → s ≤ t → Allowed t → up s ≤ t

-- [A1] «the start must be a multiple of 2^j»
abbrev pub Multiple : ℕ → ℕ → Type 0
Multiple j t = t % 2 ^ j ≡ 0

-- [A3] First fit, for any allowed starts: s is the least of them from which k numbers are all free and in the window.
pub record FirstFrom (Allowed : ℕ → Type 0) (a b k : ℕ) (es : List Entry) (s : ℕ) : Type 0 where
  pub allowed : Allowed s
  pub run : FreeRun a b es s (s + k - 1)
  pub least : (t : ℕ) → Allowed t → FreeRun a b es t (t + k - 1) → s ≤ t

-- [A3, A5] The same of an answer: s, or that there is none.
abbrev pub FirstAt : (ℕ → Type 0) → ℕ → ℕ → ℕ → List Entry → Option ℕ → Type 0
FirstAt Allowed a b k es (some s) = FirstFrom Allowed a b k es s
FirstAt Allowed a b k es none = (t : ℕ) → Allowed t → FreeRun a b es t (t + k - 1) → ⊥

-- [A4] A run of k from the allowed start t on lies in l..h.
pub record Holds (Allowed : ℕ → Type 0) (k l h t : ℕ) : Type 0 where
  pub allowed : Allowed t
  pub from : l ≤ t
  pub upto : t + k ≤ suc h

-- [A4] Best fit, for any allowed starts: the least of them in the shortest gap that holds a run of k from one of them, the lowest such gap
-- on a tie.
pub record BestFrom (Allowed : ℕ → Type 0) (a b k : ℕ) (es : List Entry) (s : ℕ) : Type 0 where
  pub low : ℕ
  pub high : ℕ
  pub gap : IsGap a b es low high
  pub holds : Holds Allowed k low high s
  pub least : (t : ℕ) → Holds Allowed k low high t → s ≤ t
  pub shortest : (l h t : ℕ) → IsGap a b es l h → Holds Allowed k l h t → suc high - low ≤ suc h - l
  pub lowest : (l h t : ℕ) → IsGap a b es l h → Holds Allowed k l h t → suc h - l ≡ suc high - low → low ≤ l

-- [A4, A5] The same of an answer: s, or that no gap holds such a run.
abbrev pub BestAt : (ℕ → Type 0) → ℕ → ℕ → ℕ → List Entry → Option ℕ → Type 0
BestAt Allowed a b k es (some s) = BestFrom Allowed a b k es s
BestAt Allowed a b k es none = (l h t : ℕ) → IsGap a b es l h → Holds Allowed k l h t → ⊥
