-- The same by index, as code meets it: seams and splices of `take` and `drop`.
use mathlib.Core.Path.{◌≡◌, refl, sym, ◌∙◌, ap}
use mathlib.Core.Option.{Option, none}
use mathlib.Core.List.{List, [], ◌∷◌, ◌++◌}
use Prim.Native.Nat.{ℕ, zero, suc, ◌≤◌, ◌<◌}
use native.Mathlib.Omega.{arith}
use native.Mathlib.Decide.{dec_lt}
use lib.ListN.{length, get_or, take, drop, take-append-drop}
use Rattle.entries.specs.Entries.{Value, Entry, or_else, value_at, After, Link, Sound}
use Rattle.entries.proofs.Sides.{val_past, none_under}
use Rattle.entries.proofs.Append.{Seam, sound_left, sound_right, sound_append, value_append, or_else_none}

module _ (d : Entry) where
  -- soundness by index, as a walk over a block knows it
  pub record Neat (es : List Entry) : Type 0 where
    pub ok : (i : ℕ) → i < length es → (get_or es i d).low ≤ (get_or es i d).high
    pub after : (i : ℕ) → suc i < length es → After (get_or es i d) (get_or es (suc i) d)

  pub neat_sound : (es : List Entry) → Neat es → Sound es
  neat_sound [] n = tt
  neat_sound (e ∷ []) n = (n.ok zero (omega arith), tt, tt)
  neat_sound (e ∷ f ∷ es) n = (
    n.ok zero (omega arith),
    n.after zero (omega arith),
    neat_sound (f ∷ es) (record { ok = λ i h. n.ok (suc i) (omega arith); after = λ i h. n.after (suc i) (omega arith) }),
  )

  pub sound_ok : (es : List Entry) → Sound es → (i : ℕ) → i < length es → (get_or es i d).low ≤ (get_or es i d).high
  sound_ok [] s i h = absurd (omega arith)
  sound_ok (e ∷ es) s zero h = s.0
  sound_ok (e ∷ es) s (suc i) h = sound_ok es s.2 i (omega arith)

  pub sound_after : (es : List Entry) → Sound es → (i : ℕ) → suc i < length es → After (get_or es i d) (get_or es (suc i) d)
  sound_after [] s i h = absurd (omega arith)
  sound_after (e ∷ []) s i h = absurd (omega arith)
  sound_after (e ∷ f ∷ es) s zero h = s.1
  sound_after (e ∷ f ∷ es) s (suc i) h = sound_after (f ∷ es) s.2 i (omega arith)

  -- two entries, one index below the other
  pub rises : (es : List Entry) → Sound es → (i j : ℕ) → i < j → j < length es → (get_or es i d).high < (get_or es j d).low
  rises es s i zero p q = absurd (omega arith)
  rises es s i (suc j) p q = go (λ h. rises es s i j h (omega arith)) (dec_lt i j)
    where
      go : (i < j → (get_or es i d).high < (get_or es j d).low) → Dec (i < j) → (get_or es i d).high < (get_or es (suc j) d).low
      go ih (yes h) = omega (arith, ih h, sound_after es s j q, sound_ok es s j (omega arith))
      go ih (no h) = let k : i ≡ j = omega arith in rw k (sound_after es s j q).0

  pub seam_take : (es : List Entry) (i : ℕ) (b : List Entry) → i ≤ length es → ((k : ℕ) → suc k ≡ i → Link (get_or es k d) b) → Seam (take i es) b
  seam_take es zero b h l = tt
  seam_take [] (suc i) b h l = tt
  seam_take (e ∷ es) (suc zero) b h l = l zero refl
  seam_take (e ∷ []) (suc (suc i)) b h l = absurd (omega arith)
  seam_take (e ∷ f ∷ es) (suc (suc i)) b h l = seam_take (f ∷ es) (suc i) b (omega arith) (λ k p. l (suc k) (omega arith))

  pub link_drop : (p : Entry) (es : List Entry) (j : ℕ) → (j < length es → After p (get_or es j d)) → Link p (drop j es)
  link_drop p [] zero h = tt
  link_drop p [] (suc j) h = tt
  link_drop p (e ∷ es) zero h = h (omega arith)
  link_drop p (e ∷ es) (suc j) h = link_drop p es j (λ q. h (omega arith))

  pub sound_take : (es : List Entry) (i : ℕ) → Sound es → Sound (take i es)
  sound_take es i s = sound_left (take i es) (drop i es) (rw take-append-drop s)

  pub sound_drop : (es : List Entry) (j : ℕ) → Sound es → Sound (drop j es)
  sound_drop es j s = sound_right (take j es) (drop j es) (rw take-append-drop s)

  -- what the two cut lists name
  pub none_drop : (es : List Entry) (j : ℕ) → Sound es → (x : ℕ) → (j < length es → x < (get_or es j d).low) → value_at (drop j es) x ≡ none
  none_drop [] zero s x h = refl
  none_drop [] (suc j) s x h = refl
  none_drop (e ∷ es) zero s x h = none_under e es s x (h (omega arith))
  none_drop (e ∷ es) (suc j) s x h = none_drop es j s.2 x (λ q. h (omega arith))

  pub none_take : (es : List Entry) (i : ℕ) → Sound es → i ≤ length es → (x : ℕ) → ((k : ℕ) → suc k ≡ i → (get_or es k d).high < x) → value_at (take i es) x
      ≡ none
  none_take es zero s le x h = refl
  none_take [] (suc i) s le x h = refl
  none_take (e ∷ es) (suc zero) s le x h = val_past e [] x (h zero refl)
  none_take (e ∷ []) (suc (suc i)) s le x h = absurd (omega arith)
  none_take (e ∷ f ∷ es) (suc (suc i)) s le x h =
      val_past e (take (suc i) (f ∷ es)) x
      (omega (arith, rises (e ∷ f ∷ es) s zero (suc i) (omega arith) (omega arith), sound_ok (e ∷ f ∷ es) s (suc i) (omega arith), h (suc i) refl))
      ∙ none_take (f ∷ es) (suc i) s.2 (omega arith) x (λ k p. h (suc k) (omega arith))

  -- THE SPLICE by index: items i .. j-1 replaced by n
  pub splice : (es n : List Entry) (i j : ℕ) → Sound es → Sound n → i ≤ length es
      → ((k : ℕ) → suc k ≡ i → Link (get_or es k d) (n ++ drop j es)) → Seam n (drop j es) → Sound (take i es ++ (n ++ drop j es))
  splice es n i j s t h l m =
      sound_append (take i es) (n ++ drop j es) (sound_take es i s) (sound_append n (drop j es) t (sound_drop es j s) m) (seam_take es i (n ++ drop j es) h l)

  -- what the whole names on either side of a cut
  pub cut_left : (es : List Entry) (i : ℕ) → Sound es → (x : ℕ) → (i < length es → x < (get_or es i d).low) → value_at es x ≡ value_at (take i es) x
  cut_left es i s x h =
      ap (λ (l : List Entry). value_at l x) (sym (take-append-drop i es)) ∙ value_append (take i es) (drop i es) x
      ∙ ap (or_else (value_at (take i es) x)) (none_drop es i s x h) ∙ or_else_none (value_at (take i es) x)

  pub cut_right : (es : List Entry) (j : ℕ) → Sound es → j ≤ length es → (x : ℕ) → ((k : ℕ) → suc k ≡ j → (get_or es k d).high < x) → value_at es x
      ≡ value_at (drop j es) x
  cut_right es j s le x h =
      ap (λ (l : List Entry). value_at l x) (sym (take-append-drop j es)) ∙ value_append (take j es) (drop j es) x
      ∙ ap (λ (o : Option Value). or_else o (value_at (drop j es) x)) (none_take es j s le x h)

  -- items i .. j-1 replaced by one entry
  module _ (es : List Entry) (i j : ℕ) (e : Entry) (s : Sound es) (ij : i ≤ j) (le : j ≤ length es) (ok : e.low ≤ e.high)
      (l : (k : ℕ) → suc k ≡ i → After (get_or es k d) e) (r : j < length es → After e (get_or es j d)) where
    abbrev pub one : List Entry
    one = take i es ++ (e ∷ drop j es)

    pub one_sound : Sound one
    one_sound = splice es (e ∷ []) i j s (ok, tt, tt) (omega arith) l (link_drop e es j r)
