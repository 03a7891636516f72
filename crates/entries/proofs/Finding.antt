-- What the first entry that ends at or past x tells: the value at x, and the least member from x on;
-- and in a set, that the number right behind a range is in none.
use mathlib.Core.Path.{◌≡◌, refl}
use mathlib.Core.Option.{none, some}
use mathlib.Core.List.{List, [], ◌∷◌}
use Prim.Native.Nat.{ℕ, zero, suc, ◌≤◌, ◌<◌, max}
use native.Mathlib.Omega.{arith}
use native.Mathlib.Decide.{dec_lt}
use lib.ListN.{length, get_or}
use borrow.Author.Tests.{le-leb, lt-leb}
use Rattle.entries.proofs.Windows.{Passed}
use Rattle.entries.specs.Questions.{least_member}
use Rattle.entries.specs.Entries.{value_at, Entry, Sound}
use Rattle.entries.specs.Sets.{Plain}
use Rattle.entries.proofs.Index.{rises, sound_ok}
use Rattle.entries.proofs.Append.{value_index, value_gap}
use Rattle.entries.proofs.Plain.{gap_of}

module _ (d : Entry) where
  tail : (e : Entry) (es : List Entry) (x i : ℕ) → Passed d (e ∷ es) x (suc i) → Passed d es x i
  tail e es x i n = record { within = omega (arith, n.within); before = λ k p. n.before (suc k) (omega arith); from = λ p. n.from (omega arith) }

  pub found_in : (es : List Entry) (x i : ℕ) → Sound es → Passed d es x i → i < length es → (get_or es i d).low ≤ x → value_at es x ≡ some (get_or es i d).value
  found_in es x i s n h l = value_index es i d s h x l (n.from h)

  pub found_under : (es : List Entry) (x i : ℕ) → Sound es → Passed d es x i → i < length es → x < (get_or es i d).low → value_at es x ≡ none
  found_under es x i s n h l = value_gap es i d s x n.before (λ p. l)

  pub found_end : (es : List Entry) (x i : ℕ) → Sound es → Passed d es x i → length es ≤ i → value_at es x ≡ none
  found_end es x i s n h = value_gap es i d s x n.before (λ p. absurd (omega arith))

  pub least_at : (es : List Entry) (x i : ℕ) → Passed d es x i → i < length es → least_member es x ≡ some (max x (get_or es i d).low)
  least_at [] x i n h = absurd (omega arith)
  least_at (e ∷ es) x zero n h = rw (le-leb x e.high (n.from h))
  least_at (e ∷ es) x (suc i) n h = rw (lt-leb x e.high (n.before zero (omega arith))) (least_at es x i (tail e es x i n) (omega arith))

  pub least_end : (es : List Entry) (x i : ℕ) → Passed d es x i → length es ≤ i → least_member es x ≡ none
  least_end [] x i n h = refl
  least_end (e ∷ es) x zero n h = absurd (omega arith)
  least_end (e ∷ es) x (suc i) n h = rw (lt-leb x e.high (n.before zero (omega arith))) (least_end es x i (tail e es x i n) (omega arith))

  -- in a set the number right behind a range is in no range
  apart_next : (es : List Entry) (i : ℕ) → Plain es → Sound es → suc i < length es → suc (get_or es i d).high < (get_or es (suc i) d).low
  apart_next [] i f s h = absurd (omega arith)
  apart_next (e ∷ []) zero f s h = absurd (omega arith)
  apart_next (e ∷ g ∷ es) zero f s h = omega (arith, gap_of e (g ∷ es) f s.1)
  apart_next (e ∷ es) (suc i) f s h = apart_next es i f.1 s.2 (omega arith)

  pub behind_free : (es : List Entry) (i : ℕ) → Plain es → Sound es → i < length es → value_at es (suc (get_or es i d).high) ≡ none
  behind_free es i f s h = value_gap es (suc i) d s (suc (get_or es i d).high) (λ j p. before j p (dec_lt j i)) (λ p. apart_next es i f s p)
    where
      before : (j : ℕ) → j < suc i → Dec (j < i) → (get_or es j d).high < suc (get_or es i d).high
      before j p (yes q) = omega (arith, rises d es s j i q h, sound_ok d es s i h)
      before j p (no q) = let k : j ≡ i = omega arith in rw k (omega arith)
