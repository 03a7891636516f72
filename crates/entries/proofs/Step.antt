-- A sweep's step: a list that names F below x, made to name F below h + 1.
use mathlib.Core.Path.{◌≡◌, refl, sym, ◌∙◌, ap}
use mathlib.Core.Option.{Option, none, some}
use mathlib.Core.List.{List, [], ◌∷◌, ◌++◌}
use Prim.Native.Nat.{ℕ, suc, ◌≤◌, ◌<◌}
use native.Mathlib.Omega.{arith}
use native.Mathlib.Decide.{dec_lt}
use Rattle.entries.specs.Entries.{Value, Entry, or_else, value_at, Sound, ListOf, entry}
use Rattle.entries.proofs.Sides.{Side, under, inside, past, side, val_in, val_past, val_under}
use Rattle.entries.proofs.Append.{value_append, Seam, sound_append, sound_left, sound_right, sound_seam, seam_head, none_left, or_else_none}

pub record Upto (F : ℕ → Option Value) (x : ℕ) (es : List Entry) : Type 0 where
  pub sound : Sound es
  pub below : (y : ℕ) → y < x → value_at es y ≡ F y
  pub above : (y : ℕ) → x ≤ y → value_at es y ≡ none

pub upto_start : (F : ℕ → Option Value) → Upto F 0 []
upto_start F = record { sound = tt; below = λ y p. absurd (omega arith); above = λ y p. refl }

pub upto_end : (F : ℕ → Option Value) (N : ℕ) (es : List Entry) → Upto F N es → ((y : ℕ) → N ≤ y → F y ≡ none) → ListOf F es
upto_end F N es u end = record { sound = u.sound; names = λ y. go y (dec_lt y N) }
  where
    go : (y : ℕ) → Dec (y < N) → value_at es y ≡ F y
    go y (yes p) = u.below y p
    go y (no p) = u.above y (omega arith) ∙ sym (end y (omega arith))

module _ (F : ℕ → Option Value) (x h : ℕ) (le : x ≤ h) where
  pub step_none : (es : List Entry) → Upto F x es → ((y : ℕ) → x ≤ y → y ≤ h → F y ≡ none) → Upto F (suc h) es
  step_none es u k = record { sound = u.sound; below = λ y p. go y p (dec_lt y x); above = λ y p. u.above y (omega arith) }
    where
      go : (y : ℕ) → y < suc h → Dec (y < x) → value_at es y ≡ F y
      go y p (yes q) = u.below y q
      go y p (no q) = u.above y (omega arith) ∙ sym (k y (omega arith) (omega arith))

  -- a new entry
  pub step_new : (es : List Entry) (v : Value) → Upto F x es → ((y : ℕ) → x ≤ y → y ≤ h → F y ≡ some v)
      → Seam es (entry x h v ∷ []) → Upto F (suc h) (es ++ entry x h v ∷ [])
  step_new es v u k m = record {
    sound = sound_append es (e ∷ []) u.sound (le, tt, tt) m;
    below = λ y p. value_append es (e ∷ []) y ∙ go y p (dec_lt y x);
    above = λ y p. value_append es (e ∷ []) y ∙ rw (u.above y (omega arith)) (val_past e [] y p);
  }
    where
      e : Entry
      e = entry x h v

      go : (y : ℕ) → y < suc h → Dec (y < x) → or_else (value_at es y) (value_at (e ∷ []) y) ≡ F y
      go y p (yes q) = rw (val_under e [] y q, or_else_none (value_at es y)) (u.below y q)
      go y p (no q) = rw (u.above y (omega arith), val_in e [] y (omega arith) (omega arith)) (sym (k y (omega arith) (omega arith)))

  -- the last entry's high raised
  pub step_raise : (a : List Entry) (l : Entry) → Upto F x (a ++ l ∷ []) → suc l.high ≡ x
      → ((y : ℕ) → x ≤ y → y ≤ h → F y ≡ some l.value) → Upto F (suc h) (a ++ entry l.low h l.value ∷ [])
  step_raise a l u q k = record {
    sound = sound_append a (e ∷ []) (sound_left a (l ∷ []) u.sound) (omega (arith, ok), tt, tt)
        (seam_head a l e [] [] refl refl (sound_seam a (l ∷ []) u.sound));
    below = λ y p. go y p (dec_lt y x);
    above = λ y p. value_append a (e ∷ []) y ∙ rw (empty y (omega arith)) (val_past e [] y p);
  }
    where
      ok : l.low ≤ l.high
      ok = (sound_right a (l ∷ []) u.sound).0

      e : Entry
      e = entry l.low h l.value

      empty : (y : ℕ) → x ≤ y → value_at a y ≡ none
      empty y p = none_left a l [] u.sound y (omega (arith, ok))

      alike : (y : ℕ) → y < x → Side l y → value_at (e ∷ []) y ≡ value_at (l ∷ []) y
      alike y p (under s) = val_under e [] y s ∙ sym (val_under l [] y s)
      alike y p (inside s t) = val_in e [] y s (omega arith) ∙ sym (val_in l [] y s t)
      alike y p (past s) = absurd (omega arith)

      go : (y : ℕ) → y < suc h → Dec (y < x) → value_at (a ++ e ∷ []) y ≡ F y
      go y p (yes r) = value_append a (e ∷ []) y ∙ ap (or_else (value_at a y)) (alike y r (side l y)) ∙ sym (value_append a (l ∷ []) y) ∙ u.below y r
      go y p (no r) = value_append a (e ∷ []) y
          ∙ rw (empty y (omega arith), val_in e [] y (omega (arith, ok)) (omega arith)) (sym (k y (omega arith) (omega arith)))
