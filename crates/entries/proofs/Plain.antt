-- Lists that carry no value: sets. Their soundness is the rule for set blocks, and two that have the same members are equal.
use mathlib.Core.Path.{◌≡◌, refl, sym, ◌∙◌, ap}
use mathlib.Core.Bool.{Bool, true, false}
use mathlib.Core.Option.{Option, none, some}
use mathlib.Core.List.{List, [], ◌∷◌}
use Prim.Native.Nat.{ℕ, suc, ◌+◌, ◌≤◌, ◌<◌}
use native.Mathlib.Omega.{arith}
use native.Mathlib.Decide.{dec_lt}
use Rattle.entries.specs.Entries.{Value, Entry, value_at, Link, Sound, ListOf}
use Rattle.entries.proofs.Sides.{Side, under, inside, past, side, val_under, val_in, val_past, none_upto}
use Rattle.entries.specs.Sets.{Plain, has, mark, member}
use Rattle.entries.proofs.Canon.{canonical, none≢some}

-- [B4] each low but the first is at least the high before it plus 2
abbrev pub Gap : Entry → List Entry → Type 0
Gap p [] = Unit {0}
Gap p (q ∷ qs) = p.high + 2 ≤ q.low

-- [B4] each low is at most its high, and each low but the first is at least the high before it plus 2
abbrev pub SetSound : List Entry → Type 0
SetSound [] = Unit {0}
SetSound (e ∷ es) = (e.low ≤ e.high) × Gap e es × SetSound es

pub gap_of : (p : Entry) (es : List Entry) → Plain (p ∷ es) → Link p es → Gap p es
gap_of p [] f l = tt
gap_of p (q ∷ qs) f l = go (dec_lt (suc p.high) q.low)
  where
    go : Dec (suc p.high < q.low) → p.high + 2 ≤ q.low
    go (yes h) = omega arith
    go (no h) = absurd (l.1 (omega arith) (f.0 ∙ sym f.1.0))

-- [B4] soundness of a list without values is the rule for set blocks, either way
pub plain_sound : (es : List Entry) → Plain es → Sound es → SetSound es
plain_sound [] f s = tt
plain_sound (e ∷ es) f s = (s.0, gap_of e es f s.1, plain_sound es f.1 s.2)

link_of : (p : Entry) (es : List Entry) → Gap p es → Link p es
link_of p [] g = tt
link_of p (q ∷ qs) g = (omega arith, λ e. absurd (omega arith))

pub sound_plain : (es : List Entry) → SetSound es → Sound es
sound_plain [] s = tt
sound_plain (e ∷ es) s = (s.0, link_of e es s.1, sound_plain es s.2)

-- a function that gives no value but the empty one
abbrev pub Marks : (ℕ → Option Value) → Type 0
Marks F = (x : ℕ) (v : Value) → F x ≡ some v → v ≡ []

pub mark_empty : (b : Bool) (v : Value) → mark b ≡ some v → v ≡ []
mark_empty true v q = cc
mark_empty false v q = absurd (none≢some none v refl q)

pub marks_plain : (es : List Entry) → Sound es → Marks (value_at es) → Plain es
marks_plain [] s m = tt
marks_plain (e ∷ es) s m = (m e.low e.value (val_in e es e.low (omega arith) s.0), marks_plain es s.2 tail)
  where
    tail : Marks (value_at es)
    tail x v q = go (dec_lt e.high x)
      where
        go : Dec (e.high < x) → v ≡ []
        go (yes h) = m x v (val_past e es x h ∙ q)
        go (no h) = absurd (none≢some _ _ (none_upto e es s.1 s.2 x (omega arith)) q)

-- the list of a function of marks is a set
pub listed_plain : (F : ℕ → Option Value) (es : List Entry) → ListOf F es → Marks F → Plain es
listed_plain F es l m = marks_plain es l.sound (λ x v q. m x v (sym (l.names x) ∙ q))

pub plain_marks : (es : List Entry) → Plain es → Marks (value_at es)
plain_marks [] f x v q = absurd (none≢some none v refl q)
plain_marks (e ∷ es) f x v q = go (side e x) (plain_marks es f.1 x v)
  where
    go : Side e x → (value_at es x ≡ some v → v ≡ []) → v ≡ []
    go (under h) ih = ih (sym (val_under e es x h) ∙ q)
    go (inside h k) ih = let w : some e.value ≡ some v = sym (val_in e es x h k) ∙ q in let u : e.value ≡ v = cc in sym u ∙ f.0
    go (past h) ih = ih (sym (val_past e es x h) ∙ q)

has_path : (o p : Option Value) → ((v : Value) → o ≡ some v → v ≡ []) → ((v : Value) → p ≡ some v → v ≡ []) → has o ≡ has p → o ≡ p
has_path none none f g h = refl
has_path none (some a) f g h = cc
has_path (some a) none f g h = cc
has_path (some a) (some b) f g h = ap some (f a refl ∙ sym (g b refl))

-- [D3] two sound sets with the same members are one list
pub set_canonical : (es fs : List Entry) → Sound es → Sound fs → Plain es → Plain fs → ((x : ℕ) → member es x ≡ member fs x) → es ≡ fs
set_canonical es fs s t f g h = canonical es fs s t (λ x. has_path (value_at es x) (value_at fs x) (plain_marks es f x) (plain_marks fs g x) (h x))
