-- The ranges of a sound set are its longest runs of members.
use mathlib.Core.Path.{◌≡◌, refl, sym, ◌∙◌, ap}
use mathlib.Core.Logic.{◌⊎◌, inl, inr}
use mathlib.Core.Bool.{true, false}
use mathlib.Core.List.{List, [], ◌∷◌}
use Prim.Native.Nat.{ℕ, suc, ◌+◌, ◌≤◌, ◌<◌}
use native.Mathlib.Omega.{arith}
use native.Mathlib.Decide.{dec_le}
use Rattle.entries.specs.Entries.{Entry, Sound}
use Rattle.entries.specs.Sets.{Plain, has, member}
use Rattle.entries.proofs.Values.{true≢false}
use Rattle.entries.proofs.Plain.{Gap, gap_of}
use Rattle.entries.proofs.Sides.{Side, under, inside, past, side, val_under, val_in, val_past, none_under}

-- l..h is one of the ranges
abbrev pub In : ℕ → ℕ → List Entry → Type 0
In l h [] = ⊥
In l h (g ∷ gs) = ((g.low ≡ l) × (g.high ≡ h)) ⊎ In l h gs

-- the range that holds a member
pub record Holder (gs : List Entry) (x : ℕ) : Type 0 where
  pub l : ℕ
  pub h : ℕ
  pub listed : In l h gs
  pub low : l ≤ x
  pub high : x ≤ h

pub holder : (gs : List Entry) (x : ℕ) → member gs x ≡ true → Holder gs x
holder [] x e = absurd (true≢false (sym e))
holder (g ∷ gs) x e = go (side g x) (holder gs x)
  where
    on : Holder gs x → Holder (g ∷ gs) x
    on r = record { l = r.l; h = r.h; listed = inr r.listed; low = r.low; high = r.high }

    go : Side g x → (member gs x ≡ true → Holder gs x) → Holder (g ∷ gs) x
    go (under p) ih = on (ih (sym (ap has (val_under g gs x p)) ∙ e))
    go (inside p q) ih = record { l = g.low; h = g.high; listed = inl (refl, refl); low = p; high = q }
    go (past p) ih = on (ih (sym (ap has (val_past g gs x p)) ∙ e))

pub in_order : (gs : List Entry) (l h : ℕ) → Sound gs → In l h gs → l ≤ h
in_order [] l h s i = absurd i
in_order (g ∷ gs) l h s (inl p) = omega (arith, s.0)
in_order (g ∷ gs) l h s (inr i) = in_order gs l h s.2 i

-- a later range begins past the end of an earlier one
pub in_far : (g : Entry) (gs : List Entry) (l h : ℕ) → Sound (g ∷ gs) → In l h gs → g.high < l
in_far g [] l h s i = absurd i
in_far g (f ∷ gs) l h s (inl p) = omega (arith, s.1.0)
in_far g (f ∷ gs) l h s (inr i) = omega (arith, s.1.0, s.2.0, in_far f gs l h s.2 i)

pub in_member : (gs : List Entry) (l h x : ℕ) → In l h gs → l ≤ x → x ≤ h → member gs x ≡ true
in_member [] l h x i p q = absurd i
in_member (g ∷ gs) l h x (inl e) p q = ap has (val_in g gs x (omega arith) (omega arith))
in_member (g ∷ gs) l h x (inr i) p q = go (side g x) (in_member gs l h x i p q)
  where
    go : Side g x → member gs x ≡ true → member (g ∷ gs) x ≡ true
    go (under a) ih = ap has (val_under g gs x a) ∙ ih
    go (inside a b) ih = ap has (val_in g gs x a b)
    go (past a) ih = ap has (val_past g gs x a) ∙ ih

-- the numbers right before and right after a range are no members
pub in_before : (gs : List Entry) (l h x : ℕ) → Sound gs → Plain gs → In l h gs → suc x ≡ l → member gs x ≡ false
in_before [] l h x s f i e = absurd i
in_before (g ∷ gs) l h x s f (inl p) e = ap has (none_under g gs s x (omega arith))
in_before (g ∷ gs) l h x s f (inr i) e =
    ap has (val_past g gs x (omega (arith, near gs (gap_of g gs f s.1) s.2 i))) ∙ in_before gs l h x s.2 f.1 i e
  where
    near : (fs : List Entry) → Gap g fs → Sound fs → In l h fs → g.high + 2 ≤ l
    near [] d t j = absurd j
    near (q ∷ fs) d t (inl p) = omega arith
    near (q ∷ fs) d t (inr j) = omega (arith, t.0, in_far q fs l h t j)

pub in_after : (gs : List Entry) (l h x : ℕ) → Sound gs → Plain gs → In l h gs → x ≡ suc h → member gs x ≡ false
in_after [] l h x s f i e = absurd i
in_after (g ∷ gs) l h x s f (inl p) e = ap has (val_past g gs x (omega arith)) ∙ next gs (gap_of g gs f s.1) s.2
  where
    next : (fs : List Entry) → Gap g fs → Sound fs → member fs x ≡ false
    next [] d t = refl
    next (q ∷ fs) d t = ap has (none_under q fs t x (omega arith))
in_after (g ∷ gs) l h x s f (inr i) e =
    ap has (val_past g gs x (omega (arith, in_far g gs l h s i, in_order gs l h s.2 i))) ∙ in_after gs l h x s.2 f.1 i e

-- a run of members lies in one range
pub record Around (gs : List Entry) (x y : ℕ) : Type 0 where
  pub l : ℕ
  pub h : ℕ
  pub listed : In l h gs
  pub low : l ≤ x
  pub high : y ≤ h

pub around : (gs : List Entry) (x y : ℕ) → Sound gs → Plain gs → x ≤ y → ((z : ℕ) → x ≤ z → z ≤ y → member gs z ≡ true) → Around gs x y
around gs x y s f p m = go (holder gs x (m x (omega arith) p))
  where
    go : Holder gs x → Around gs x y
    go r = end (dec_le y r.h)
      where
        end : Dec (y ≤ r.h) → Around gs x y
        end (yes q) = record { l = r.l; h = r.h; listed = r.listed; low = r.low; high = q }
        end (no q) =
            absurd (true≢false (sym (m (suc r.h) (omega (arith, r.high)) (omega arith)) ∙ in_after gs r.l r.h (suc r.h) s f r.listed refl))
