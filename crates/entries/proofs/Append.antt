-- Lists put together: what they name, and when they are sound. The splice.
use mathlib.Core.Path.{◌≡◌, refl, sym, ◌∙◌, ap}
use mathlib.Core.Option.{Option, none, some}
use mathlib.Core.List.{List, [], ◌∷◌, ◌++◌}
use Prim.Native.Nat.{ℕ, zero, suc, ◌≤◌, ◌<◌}
use native.Mathlib.Omega.{arith}
use lib.ListN.{length, get_or}
use Rattle.entries.specs.Entries.{Value, Entry, or_else, at, value_at, Link, Sound}
use Rattle.entries.proofs.Sides.{Side, under, inside, past, side, val_in, val_under, val_past, none_upto, none_under, at_past}
use Rattle.entries.proofs.Canon.{none≢some}

pub or_else_assoc : {A : Type 0} (o p q : Option A) → or_else (or_else o p) q ≡ or_else o (or_else p q)
or_else_assoc none p q = refl
or_else_assoc (some a) p q = refl

pub or_else_none : {A : Type 0} (o : Option A) → or_else o none ≡ o
or_else_none none = refl
or_else_none (some a) = refl

pub value_append : (a b : List Entry) (x : ℕ) → value_at (a ++ b) x ≡ or_else (value_at a x) (value_at b x)
value_append [] b x = refl
value_append (e ∷ a) b x = rw (value_append a b x) (sym (or_else_assoc (at e x) (value_at a x) (value_at b x)))

-- the seam of two lists: the last of the first against the head of the second
abbrev pub Seam : List Entry → List Entry → Type 0
Seam [] b = Unit {0}
Seam (e ∷ []) b = Link e b
Seam (e ∷ f ∷ a) b = Seam (f ∷ a) b

pub sound_append : (a b : List Entry) → Sound a → Sound b → Seam a b → Sound (a ++ b)
sound_append [] b s t m = t
sound_append (e ∷ []) b s t m = (s.0, m, t)
sound_append (e ∷ f ∷ a) b s t m = (s.0, s.1, sound_append (f ∷ a) b s.2 t m)

pub sound_left : (a b : List Entry) → Sound (a ++ b) → Sound a
sound_left [] b s = tt
sound_left (e ∷ []) b s = (s.0, tt, tt)
sound_left (e ∷ f ∷ a) b s = (s.0, s.1, sound_left (f ∷ a) b s.2)

pub sound_right : (a b : List Entry) → Sound (a ++ b) → Sound b
sound_right [] b s = s
sound_right (e ∷ a) b s = sound_right a b s.2

pub sound_seam : (a b : List Entry) → Sound (a ++ b) → Seam a b
sound_seam [] b s = tt
sound_seam (e ∷ []) b s = s.1
sound_seam (e ∷ f ∷ a) b s = sound_seam (f ∷ a) b s.2

pub seam_snoc : (a : List Entry) (l : Entry) (b : List Entry) → Link l b → Seam (a ++ l ∷ []) b
seam_snoc [] l b m = m
seam_snoc (e ∷ []) l b m = m
seam_snoc (e ∷ f ∷ a) l b m = seam_snoc (f ∷ a) l b m

-- a seam asks only for the low and the value of the head behind it
pub seam_head : (a : List Entry) (q r : Entry) (b c : List Entry) → q.low ≡ r.low → q.value ≡ r.value → Seam a (q ∷ b) → Seam a (r ∷ c)
seam_head [] q r b c h v m = tt
seam_head (e ∷ []) q r b c h v m = (omega arith, λ k w. m.1 (omega arith) (w ∙ sym v))
seam_head (e ∷ f ∷ a) q r b c h v m = seam_head (f ∷ a) q r b c h v m

-- in a sound list every later entry begins past an earlier one's high
pub far : (p : Entry) (a : List Entry) (q : Entry) (b : List Entry) → Link p (a ++ q ∷ b) → Sound (a ++ q ∷ b) → p.high < q.low
far p [] q b l s = l.0
far p (g ∷ a) q b l s = let k = far g a q b s.1 s.2 in omega arith

-- what stands before an entry names nothing from its low on, and the rest nothing below its low
pub none_left : (a : List Entry) (q : Entry) (b : List Entry) → Sound (a ++ q ∷ b) → (x : ℕ) → q.low ≤ x → value_at a x ≡ none
none_left [] q b s x h = refl
none_left (e ∷ a) q b s x h =
    let k = far e a q b s.1 s.2 in
    rw (at_past e x (omega arith)) (none_left a q b s.2 x h)

pub value_left : (a : List Entry) (q : Entry) (b : List Entry) → Sound (a ++ q ∷ b) → (x : ℕ) → x < q.low → value_at (a ++ q ∷ b) x ≡ value_at a x
value_left a q b s x h =
    value_append a (q ∷ b) x ∙ ap (or_else (value_at a x)) (none_under q b (sound_right a (q ∷ b) s) x h) ∙ or_else_none (value_at a x)

pub value_right : (a : List Entry) (q : Entry) (b : List Entry) → Sound (a ++ q ∷ b) → (x : ℕ) → q.low ≤ x → value_at (a ++ q ∷ b) x ≡ value_at (q ∷ b) x
value_right a q b s x h = value_append a (q ∷ b) x ∙ ap (λ (o : Option Value). or_else o (value_at (q ∷ b) x)) (none_left a q b s x h)

-- by index: the entry that holds x, and the gap before an entry
pub value_index : (es : List Entry) (i : ℕ) (d : Entry) → Sound es → i < length es → (x : ℕ)
    → (get_or es i d).low ≤ x → x ≤ (get_or es i d).high → value_at es x ≡ some (get_or es i d).value
value_index [] i d s h x p q = elim h [ ]
value_index (e ∷ es) zero d s h x p q = val_in e es x p q
value_index (e ∷ es) (suc i) d s h x p q = go (side e x) (value_index es i d s.2 (omega arith) x p q)
  where
    go : Side e x → value_at es x ≡ some (get_or es i d).value → value_at (e ∷ es) x ≡ some (get_or es i d).value
    go (under a) r = val_under e es x a ∙ r
    go (inside a b) r = absurd (none≢some _ _ (none_upto e es s.1 s.2 x b) r)
    go (past a) r = val_past e es x a ∙ r

-- the gap before entry i: past the entries before it, under entry i (if there is one)
pub value_gap : (es : List Entry) (i : ℕ) (d : Entry) → Sound es → (x : ℕ)
    → ((j : ℕ) → j < i → (get_or es j d).high < x) → (i < length es → x < (get_or es i d).low) → value_at es x ≡ none
value_gap [] i d s x p q = refl
value_gap (e ∷ es) zero d s x p q = none_under e es s x (q (omega arith))
value_gap (e ∷ es) (suc i) d s x p q =
    val_past e es x (p zero (omega arith)) ∙ value_gap es i d s.2 x (λ j h. p (suc j) (omega arith)) (λ h. q (omega arith))
