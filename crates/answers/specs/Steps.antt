-- What code that tries the refusals of a call in turn promises. No public promise names these.
use Rattle.std.specs.Prelude.{◌≡◌, List, [], ◌∷◌, ℕ, zero, suc, ◌<◌, Result, Ok, Err, IfOk}
use Rattle.answers.specs.declared.Refusal.{Refusal}
use Rattle.answers.specs.Answers.{Finding, Outcome, outcome, in_turn, Clear}
use Rattle.answers.specs.Says.{refusal_says}

-- by what was found: refused with it, or what follows
abbrev pub by : Result (Unit {0}) Refusal → List (List ℕ) → Outcome → Outcome
by (Ok u) lent x = x
by (Err f) lent x = outcome (refusal_says f) lent

-- r is the first of fs that applies, or none of them does
pub record FirstOf (fs : List Finding) (r : Result (Unit {0}) Refusal) : Type 0 where
  pub turn : (lent : List (List ℕ)) (x : Outcome) → by r lent x ≡ in_turn fs lent x
  pub clear : IfOk r (λ u. Clear fs)

-- the number of finding i, counted from 0, and its place; 0 past the last
abbrev pub number_at : List Finding → ℕ → ℕ
number_at [] i = 0
number_at (f ∷ fs) zero = f.number
number_at (f ∷ fs) (suc i) = number_at fs i

abbrev pub place_at : List Finding → ℕ → ℕ
place_at [] i = 0
place_at (f ∷ fs) zero = f.place
place_at (f ∷ fs) (suc i) = place_at fs i

-- finding i is the first that applies
pub record Applies (fs : List Finding) (i : ℕ) : Type 0 where
  pub before : (k : ℕ) → k < i → number_at fs k ≡ 0
  pub here : number_at fs i ≡ 0 → ⊥

-- the first finding that applies has a number n and a place p
pub record Named (fs : List Finding) (n p : ℕ) : Type 0 where
  pub index : ℕ
  pub first : Applies fs index
  pub number : number_at fs index ≡ n
  pub place : place_at fs index ≡ p
