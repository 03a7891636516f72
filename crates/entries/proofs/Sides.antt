-- Where a number stands by an entry, and what that makes of its value.
use mathlib.Core.Path.{◌≡◌, refl, ◌∙◌}
use mathlib.Core.Bool.{Bool, true, false}
use mathlib.Core.Option.{none, some}
use mathlib.Core.List.{List, [], ◌∷◌}
use Prim.Native.Nat.{ℕ, ◌≤◌, ◌<◌}
use native.Mathlib.Omega.{arith}
use native.Mathlib.Decide.{dec_le}
use lib.Dec.{leb}
use borrow.Author.Tests.{le-leb, lt-leb}
use Rattle.entries.specs.Entries.{Entry, both, at, value_at, Link, Sound}

-- where a number stands by an entry
pub data Side (e : Entry) (x : ℕ) : Type 0 where
  under : x < e.low → Side e x
  inside : e.low ≤ x → x ≤ e.high → Side e x
  past : e.high < x → Side e x

pub side : (e : Entry) (x : ℕ) → Side e x
side e x = go (dec_le e.low x) (dec_le x e.high)
  where
    go : Dec (e.low ≤ x) → Dec (x ≤ e.high) → Side e x
    go (yes p) (yes q) = inside p q
    go (yes p) (no q) = past (omega arith)
    go (no p) d = under (omega arith)

pub at_under : (e : Entry) (x : ℕ) → x < e.low → at e x ≡ none
at_under e x h = rw (lt-leb e.low x h)

pub at_in : (e : Entry) (x : ℕ) → e.low ≤ x → x ≤ e.high → at e x ≡ some e.value
at_in e x h k = rw (le-leb e.low x h, le-leb x e.high k)

pub at_past : (e : Entry) (x : ℕ) → e.high < x → at e x ≡ none
at_past e x h = go (leb e.low x)
  where
    go : (t : Bool) → both t (leb x e.high) e.value ≡ none
    go true = rw (lt-leb x e.high h)
    go false = refl

-- [B2, B6, S1, M1] the clauses of `value_at` by where x stands
pub val_in : (e : Entry) (es : List Entry) (x : ℕ) → e.low ≤ x → x ≤ e.high → value_at (e ∷ es) x ≡ some e.value
val_in e es x h k = rw (at_in e x h k)

pub val_past : (e : Entry) (es : List Entry) (x : ℕ) → e.high < x → value_at (e ∷ es) x ≡ value_at es x
val_past e es x h = rw (at_past e x h)

pub val_under : (e : Entry) (es : List Entry) (x : ℕ) → x < e.low → value_at (e ∷ es) x ≡ value_at es x
val_under e es x h = rw (at_under e x h)

-- nothing up to the high of an entry that may stand before
pub none_upto : (p : Entry) (es : List Entry) → Link p es → Sound es → (x : ℕ) → x ≤ p.high → value_at es x ≡ none
none_upto p [] l s x h = refl
none_upto p (e ∷ es) l s x h =
    rw (at_under e x (omega arith)) (none_upto e es s.1 s.2 x (omega arith))

pub none_under : (e : Entry) (es : List Entry) → Sound (e ∷ es) → (x : ℕ) → x < e.low → value_at (e ∷ es) x ≡ none
none_under e es s x h = rw (at_under e x h) (none_upto e es s.1 s.2 x (omega arith))

-- what stands after an entry asks only for its high and its value
pub link_like : (p q : Entry) (es : List Entry) → p.high ≡ q.high → p.value ≡ q.value → Link p es → Link q es
link_like p q [] h v l = tt
link_like p q (e ∷ es) h v l = (omega arith, λ k w. l.1 (omega arith) (v ∙ w))
