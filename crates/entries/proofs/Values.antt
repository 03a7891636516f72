-- The test that two values are the same words, with what each answer tells.
use mathlib.Core.Path.{◌≡◌, refl, sym, ◌∙◌, ap, ap₂}
use mathlib.Core.Logic.{◌≢◌}
use mathlib.Core.Bool.{Bool, true, false}
use mathlib.Core.List.{List, [], ◌∷◌}
use Prim.Native.Nat.{ℕ}
use native.Mathlib.Omega.{arith}
use lib.Dec.{eqb}
use borrow.Author.Tests.{eqb-true, eq-eqb}
use Rattle.entries.specs.Build.{andb, same_words}

pub true≢false : true ≡ false → ⊥
true≢false e = let z : ◌≡◌ {A = ℕ} 0 1 = cc in omega arith

pub and_true : (t u : Bool) → andb t u ≡ true → (t ≡ true) × (u ≡ true)
and_true true u h = (refl, h)
and_true false u h = absurd (true≢false (sym h))

pub words_true : (a b : List ℕ) → same_words a b ≡ true → a ≡ b
words_true [] [] h = refl
words_true [] (y ∷ ys) h = absurd (true≢false (sym h))
words_true (x ∷ xs) [] h = absurd (true≢false (sym h))
words_true (x ∷ xs) (y ∷ ys) h = let k = and_true (eqb x y) (same_words xs ys) h in ap₂ ◌∷◌ (eqb-true x y k.0) (words_true xs ys k.1)

pub words_refl : (a : List ℕ) → same_words a a ≡ true
words_refl [] = refl
words_refl (x ∷ xs) = rw (eq-eqb x x refl) (words_refl xs)

pub words_false : (a b : List ℕ) → same_words a b ≡ false → a ≢ b
words_false a b h e = true≢false (sym (words_refl a) ∙ ap (same_words a) e ∙ h)
