-- What gaps, first fit and best fit mean, in the words of the requirements. The laws that say so of specs/Fits stand in proofs/Meaning.
use Rattle.std.specs.Prelude.{◌≡◌, false, List, [], ◌∷◌, ℕ, suc, ◌+◌, ◌-◌, ◌≤◌}
use Rattle.std.proofs.Math.Option.{Option, none, some}
use Rattle.answers.specs.Answers.{given, refused, Outcome, outcome}
use Rattle.entries.specs.Entries.{Entry}
use Rattle.entries.specs.Sets.{member}

-- [F1] a run of non-members in the window a..b: the numbers l to h
pub record FreeRun (a b : ℕ) (es : List Entry) (l h : ℕ) : Type 0 where
  pub some : l ≤ h
  pub from : a ≤ l
  pub upto : h ≤ b
  pub free : (x : ℕ) → l ≤ x → x ≤ h → member es x ≡ false

-- [F1] a gap is a run of non-members in the window that cannot be made longer there
pub record IsGap (a b : ℕ) (es : List Entry) (l h : ℕ) : Type 0 where
  pub run : FreeRun a b es l h
  pub longest : (i j : ℕ) → FreeRun a b es i j → i ≤ l → h ≤ j → (i ≡ l) × (j ≡ h)

-- [F2] s is the least such that s to s+k-1 all lie in the window and are non-members
pub record FirstFit (a b k : ℕ) (es : List Entry) (s : ℕ) : Type 0 where
  pub run : FreeRun a b es s (s + k - 1)
  pub least : (t : ℕ) → FreeRun a b es t (t + k - 1) → s ≤ t

-- [F2, R7] first fit answers s; none exactly if there is no such s
abbrev pub FirstOf : ℕ → ℕ → ℕ → List Entry → Option ℕ → Type 0
FirstOf a b k es (some s) = FirstFit a b k es s
FirstOf a b k es none = (t : ℕ) → FreeRun a b es t (t + k - 1) → ⊥

-- [F3] s is the low end of the shortest gap of at least k numbers, the lowest such gap on a tie
pub record BestFit (a b k : ℕ) (es : List Entry) (s : ℕ) : Type 0 where
  pub high : ℕ
  pub gap : IsGap a b es s high
  pub enough : k ≤ suc high - s
  pub shortest : (l h : ℕ) → IsGap a b es l h → k ≤ suc h - l → suc high - s ≤ suc h - l
  pub lowest : (l h : ℕ) → IsGap a b es l h → k ≤ suc h - l → suc h - l ≡ suc high - s → s ≤ l

-- [F3, R7] best fit answers s; none exactly if there is no gap of at least k numbers
abbrev pub BestOf : ℕ → ℕ → ℕ → List Entry → Option ℕ → Type 0
BestOf a b k es (some s) = BestFit a b k es s
BestOf a b k es none = (l h : ℕ) → IsGap a b es l h → k ≤ suc h - l → ⊥

-- [F4] an outcome that, accepted, answers s: of a reservation, which is the question followed by the insertion
abbrev pub answering : ℕ → Outcome → Outcome
answering s (outcome (given xs) lent) = outcome (given (s ∷ [])) lent
answering s (outcome (refused n p) lent) = outcome (refused n p) lent
