-- Lists of findings: which numbers they can have, and the first that applies in two lists, one behind the other.
use mathlib.Core.Path.{◌≡◌, refl, ◌∙◌, ap₂, subst}
use mathlib.Core.Bool.{Bool, true, false}
use mathlib.Core.Logic.{◌⊎◌, inl, inr}
use mathlib.Core.List.{List, [], ◌∷◌, ◌++◌}
use Prim.Native.Nat.{ℕ, zero, suc, ◌<◌}
use native.Mathlib.Omega.{arith}
use Rattle.entries.specs.Entries.{Each}
use Rattle.answers.specs.Answers.{Finding}
use Rattle.answers.specs.Answers.{Outcome, outcome, refused, refuse, applies, in_turn, Clear}
use Rattle.answers.specs.Steps.{number_at, place_at, Applies, Named}
use Rattle.answers.proofs.Turns.{clear_at, refused_at}
use Rattle.entries.specs.Build.{pick}

-- P holds of a number that is that of a refusal, 0 being none
abbrev pub Where : (ℕ → Type 0) → ℕ → Type 0
Where P n = (n ≡ 0 → ⊥) → P n

-- and of the number of every finding that applies
abbrev pub Numbered : (ℕ → Type 0) → List Finding → Type 0
Numbered P fs = Each (λ (f : Finding). Where P f.number) fs

-- a number chosen by a test
pub chosen : (P : ℕ → Type 0) (t : Bool) (n m : ℕ) → P n → P m → P (pick t n m)
chosen P true n m p q = p
chosen P false n m p q = q

-- no refusal has no number
pub not_any : (P : ℕ → Type 0) → Where P 0
not_any P n = absurd (n refl)

-- a test that gives its number, where it is one of them
pub applied : (P : ℕ → Type 0) (t : Bool) (n : ℕ) → P n → Where P (applies t n)
applied P t n p = chosen (Where P) t n 0 (λ z. p) (not_any P)

-- two lists, one behind the other
pub numbered_both : (P : ℕ → Type 0) (fs gs : List Finding) → Numbered P fs → Numbered P gs → Numbered P (fs ++ gs)
numbered_both P [] gs a b = b
numbered_both P (f ∷ fs) gs a b = (a.0, numbered_both P fs gs a.1 b)

-- what follows from what holds of them
pub numbered_so : (P Q : ℕ → Type 0) → ((n : ℕ) → P n → Q n) → (fs : List Finding) → Numbered P fs → Numbered Q fs
numbered_so P Q h [] a = tt
numbered_so P Q h (f ∷ fs) a = (λ z. h f.number (a.0 z), numbered_so P Q h fs a.1)

-- the number of the first that applies is one of theirs
pub named_number : (P : ℕ → Type 0) (fs : List Finding) {n p : ℕ} → Numbered P fs → Named fs n p → P n
named_number P fs a m = subst P m.number (go fs a m.index m.first.here)
  where
    go : (gs : List Finding) → Numbered P gs → (i : ℕ) → (number_at gs i ≡ 0 → ⊥) → P (number_at gs i)
    go [] b i h = absurd (h refl)
    go (g ∷ gs) b zero h = b.0 h
    go (g ∷ gs) b (suc i) h = go gs b.1 i h

-- where one applies, they are not clear
pub named_applies : (fs : List Finding) {n p : ℕ} → Named fs n p → Clear fs → ⊥
named_applies fs m c = m.first.here (clear_at fs c m.index)

-- behind a list that is clear, the first that applies is that of the next
pub named_join : (fs gs : List Finding) {n p : ℕ} → Clear fs → Named gs n p → Named (fs ++ gs) n p
named_join [] gs c m = m
named_join (f ∷ fs) gs {n} {p} c m =
    let k = named_join fs gs c.1 m in
    record { index = suc k.index; first = record { before = before k.first; here = k.first.here }; number = k.number; place = k.place }
  where
    before : {i : ℕ} → Applies (fs ++ gs) i → (j : ℕ) → j < suc i → number_at (f ∷ fs ++ gs) j ≡ 0
    before a zero h = c.0
    before a (suc j) h = a.before j (omega arith)

-- the first that applies is one of the first list; or that is clear, and it is the first of the second
pub named_split : (fs gs : List Finding) {n p : ℕ} → Named (fs ++ gs) n p → Named fs n p ⊎ (Clear fs × Named gs n p)
named_split [] gs m = inr (tt, m)
named_split (f ∷ fs) gs {n} {p} m = go m.index m.first m.number m.place (λ k. named_split fs gs k)
  where
    back : f.number ≡ 0 → Named fs n p ⊎ (Clear fs × Named gs n p) → Named (f ∷ fs) n p ⊎ (Clear (f ∷ fs) × Named gs n p)
    back z (inl k) = inl (named_join (f ∷ []) fs (z, tt) k)
    back z (inr k) = inr ((z, k.0), k.1)

    go : (i : ℕ) → Applies (f ∷ fs ++ gs) i → number_at (f ∷ fs ++ gs) i ≡ n → place_at (f ∷ fs ++ gs) i ≡ p
        → (Named (fs ++ gs) n p → Named fs n p ⊎ (Clear fs × Named gs n p)) → Named (f ∷ fs) n p ⊎ (Clear (f ∷ fs) × Named gs n p)
    go zero a q r rest = inl (record { index = 0; first = record { before = λ k h. absurd (omega arith); here = a.here }; number = q; place = r })
    go (suc i) a q r rest =
        back (a.before 0 (omega arith))
        (rest (record { index = i; first = record { before = λ k h. a.before (suc k) (omega arith); here = a.here }; number = q; place = r }))

-- a call whose first refusal is this one is refused with it
pub named_refused : (fs : List Finding) (lent : List (List ℕ)) (x : Outcome) {n p : ℕ} → Named fs n p → in_turn fs lent x ≡ refuse n p lent
named_refused fs lent x m =
    refused_at fs lent x m.index m.first ∙ ap₂ (λ (n p : ℕ). outcome (refused n p) lent) m.number m.place
