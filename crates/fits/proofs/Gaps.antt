-- The gaps of a window, one after another as a walk over the ranges meets them.
use mathlib.Core.Path.{◌≡◌, refl, sym, ◌∙◌, ap, ap₂}
use mathlib.Core.Bool.{Bool, true, false}
use mathlib.Core.Option.{Option, none, some}
use mathlib.Core.List.{List, [], ◌∷◌, ◌++◌}
use Prim.Native.Nat.{ℕ, zero, suc, ◌-◌, ◌≤◌, ◌<◌, min, max}
use native.Mathlib.Omega.{arith}
use native.Mathlib.Decide.{dec_le, dec_lt}
use lib.Dec.{leb, ltb}
use lib.ListN.{drop}
use borrow.Author.Tests.{le-leb, lt-leb, lt-ltb, le-ltb, ltb-true, ltb-false}
use Rattle.entries.specs.Entries.{Value, Entry, entry, or_else, value_at, Link, Sound, Each}
use Rattle.entries.specs.Build.{pick, andb}
use Rattle.entries.specs.Sets.{Plain, has, member, orb, lessb, difference}
use Rattle.entries.proofs.Append.{value_append}
use Rattle.entries.proofs.Building.{Begins, begins_le}
use Rattle.entries.proofs.Sides.{Side, under, inside, past, side, val_under, val_in, val_past, none_under}
use Rattle.entries.proofs.Sets.{set_unique, difference_is}
use Rattle.entries.proofs.Windows.{Passed, passed_rest}
use Rattle.fits.specs.Fits.{gaps}
use Rattle.fits.specs.Steps.{piece}

-- the gaps from x up to N, before and between the ranges and behind the last
abbrev pub gaps_from : ℕ → ℕ → List Entry → List Entry
gaps_from x N [] = piece x N
gaps_from x N (e ∷ es) = piece x (min N e.low) ++ gaps_from (max x (suc e.high)) N es

-- no number is left
piece_none : (x y : ℕ) → y ≤ x → piece x y ≡ []
piece_none x y h = rw (le-ltb x y h)

pub from_none : (x N : ℕ) (es : List Entry) → N ≤ x → gaps_from x N es ≡ []
from_none x N [] h = piece_none x N h
from_none x N (e ∷ es) h = ap₂ ◌++◌ (piece_none x (min N e.low) (omega arith)) (from_none (max x (suc e.high)) N es (omega arith))

-- [W2] the ranges that end below x change none of them
pub from_passed : (d : Entry) (x N i : ℕ) (es : List Entry) → Sound es → Passed d es x i → gaps_from x N (drop i es) ≡ gaps_from x N es
from_passed d x N zero es s p = refl
from_passed d x N (suc i) [] s p = refl
from_passed d x N (suc i) (e ∷ es) s p =
    let h : e.high < x = p.before zero (omega arith) in
    let m : x ≡ max x (suc e.high) = omega arith in
    from_passed d x N i es s.2 (passed_rest d p)
    ∙ ap₂ ◌++◌ (sym (piece_none x (min N e.low) (omega (arith, s.0)))) (ap (λ (y : ℕ). gaps_from y N es) m)

-- THEY ARE SOUND. Gaps of which the first begins at c or later, put behind one that ends two before c.
joined : (x y c : ℕ) (gs : List Entry) → y < c → x ≤ c → Begins c gs → Sound gs → Sound (piece x y ++ gs) × Begins x (piece x y ++ gs)
joined x y c gs h p b s = go (ltb x y) refl
  where
    link : x < y → (fs : List Entry) → Begins c fs → Link (entry x (y - 1) []) fs
    link k [] d = tt
    link k (f ∷ fs) d = (omega arith, λ e. absurd (omega arith))

    go : (t : Bool) → ltb x y ≡ t → Sound (pick t (entry x (y - 1) [] ∷ []) [] ++ gs) × Begins x (pick t (entry x (y - 1) [] ∷ []) [] ++ gs)
    go true e = let k = ltb-true x y e in ((omega arith, link k gs b, s), omega arith)
    go false e = (s, begins_le x c gs p b)

from_sound : (x N : ℕ) (es : List Entry) → Sound es → Sound (gaps_from x N es) × Begins x (gaps_from x N es)
from_sound x N [] s = go (ltb x N) refl
  where
    go : (t : Bool) → ltb x N ≡ t → Sound (pick t (entry x (N - 1) [] ∷ []) []) × Begins x (pick t (entry x (N - 1) [] ∷ []) [])
    go true e = let k = ltb-true x N e in ((omega arith, tt, tt), omega arith)
    go false e = (tt, tt)
from_sound x N (e ∷ es) s =
    let r = from_sound (max x (suc e.high)) N es s.2 in
    joined x (min N e.low) (max x (suc e.high)) (gaps_from (max x (suc e.high)) N es) (omega (arith, s.0)) (omega arith) r.1 r.0

-- they carry no value
plain_append : (t : Bool) (g : Entry) (gs : List Entry) → g.value ≡ [] → Plain gs → Plain (pick t (g ∷ []) [] ++ gs)
plain_append true g gs e p = (e, p)
plain_append false g gs e p = p

plain_piece : (t : Bool) (g : Entry) → g.value ≡ [] → Plain (pick t (g ∷ []) [])
plain_piece true g e = (e, tt)
plain_piece false g e = tt

from_plain : (x N : ℕ) (es : List Entry) → Plain (gaps_from x N es)
from_plain x N [] = plain_piece (ltb x N) (entry x (N - 1) []) refl
from_plain x N (e ∷ es) =
    plain_append (ltb x (min N e.low)) (entry x (min N e.low - 1) []) (gaps_from (max x (suc e.high)) N es) refl
    (from_plain (max x (suc e.high)) N es)

-- they end below N
from_below : (x N : ℕ) (es : List Entry) → Each (λ g. g.high < N) (gaps_from x N es)
from_below x N [] = go (ltb x N) refl
  where
    go : (t : Bool) → ltb x N ≡ t → Each (λ g. g.high < N) (pick t (entry x (N - 1) [] ∷ []) [])
    go true e = let k = ltb-true x N e in (omega arith, tt)
    go false e = tt
from_below x N (e ∷ es) = go (ltb x (min N e.low)) refl (from_below (max x (suc e.high)) N es)
  where
    go : (t : Bool) → ltb x (min N e.low) ≡ t → Each (λ g. g.high < N) (gaps_from (max x (suc e.high)) N es)
        → Each (λ g. g.high < N) (pick t (entry x (min N e.low - 1) [] ∷ []) [] ++ gaps_from (max x (suc e.high)) N es)
    go true q ih = let k = ltb-true x (min N e.low) q in (omega arith, ih)
    go false q ih = ih

-- THEIR NUMBERS are those from x up to N that are no members.
data Run (x N z : ℕ) : Type 0 where
  low : z < x → Run x N z
  within : x ≤ z → z < N → Run x N z
  high : N ≤ z → Run x N z

run : (x N z : ℕ) → Run x N z
run x N z = go (dec_le x z) (dec_lt z N)
  where
    go : Dec (x ≤ z) → Dec (z < N) → Run x N z
    go (yes p) (yes q) = within p q
    go (yes p) (no q) = high (omega arith)
    go (no p) d = low (omega arith)

abbrev in_run : ℕ → ℕ → ℕ → Bool
in_run x N z = andb (leb x z) (ltb z N)

run_in : (x N z : ℕ) → x ≤ z → z < N → in_run x N z ≡ true
run_in x N z p q = rw (le-leb x z p, lt-ltb z N q)

run_low : (x N z : ℕ) → z < x → in_run x N z ≡ false
run_low x N z p = rw (lt-leb x z p)

run_high : (x N z : ℕ) → N ≤ z → in_run x N z ≡ false
run_high x N z p = go (leb x z)
  where
    go : (t : Bool) → andb t (ltb z N) ≡ false
    go true = le-ltb z N p
    go false = refl

-- two runs that a number is in alike
run_alike : (x N y K z : ℕ) → (x ≤ z → z < N → (y ≤ z) × (z < K)) → (y ≤ z → z < K → (x ≤ z) × (z < N)) → in_run x N z ≡ in_run y K z
run_alike x N y K z f g = go (run x N z) (run y K z)
  where
    out : Run x N z → ((x ≤ z) → (z < N) → ⊥) → in_run x N z ≡ false
    out (low p) n = run_low x N z p
    out (within p q) n = absurd (n p q)
    out (high p) n = run_high x N z p

    go : Run x N z → Run y K z → in_run x N z ≡ in_run y K z
    go (within p q) r = let h = f p q in run_in x N z p q ∙ sym (run_in y K z h.0 h.1)
    go (low p) (within q r) = let h = g q r in absurd (omega arith)
    go (high p) (within q r) = let h = g q r in absurd (omega arith)
    go (low p) (low q) = run_low x N z p ∙ sym (run_low y K z q)
    go (low p) (high q) = run_low x N z p ∙ sym (run_high y K z q)
    go (high p) (low q) = run_high x N z p ∙ sym (run_low y K z q)
    go (high p) (high q) = run_high x N z p ∙ sym (run_high y K z q)

piece_member : (x y z : ℕ) → member (piece x y) z ≡ in_run x y z
piece_member x y z = go (ltb x y) refl (run x y z)
  where
    c : Entry
    c = entry x (y - 1) []

    go : (t : Bool) → ltb x y ≡ t → Run x y z → has (value_at (pick t (c ∷ []) []) z) ≡ in_run x y z
    go true e (low p) = ap has (val_under c [] z p) ∙ sym (run_low x y z p)
    go true e (within p q) = ap has (val_in c [] z p (omega arith)) ∙ sym (run_in x y z p q)
    go true e (high p) = let k = ltb-true x y e in ap has (val_past c [] z (omega arith)) ∙ sym (run_high x y z p)
    go false e (low p) = sym (run_low x y z p)
    go false e (within p q) = let k = ltb-false x y e in absurd (omega arith)
    go false e (high p) = sym (run_high x y z p)

has_or_else : (o p : Option Value) → has (or_else o p) ≡ orb (has o) (has p)
has_or_else none p = refl
has_or_else (some v) p = refl

less_false : (t : Bool) → lessb t false ≡ t
less_false true = refl
less_false false = refl

less_true : (t : Bool) → lessb t true ≡ false
less_true true = refl
less_true false = refl

or_false : (t : Bool) → orb t false ≡ t
or_false true = refl
or_false false = refl

from_members : (x N : ℕ) (es : List Entry) → Sound es → (z : ℕ) → member (gaps_from x N es) z ≡ lessb (in_run x N z) (member es z)
from_members x N [] s z = piece_member x N z ∙ sym (less_false (in_run x N z))
from_members x N (e ∷ es) s z =
    ap has (value_append (piece x y) (gaps_from c N es) z) ∙ has_or_else (value_at (piece x y) z) (value_at (gaps_from c N es) z)
    ∙ ap₂ orb (piece_member x y z) (from_members c N es s.2 z) ∙ go (side e z)
  where
    y : ℕ
    y = min N e.low

    c : ℕ
    c = max x (suc e.high)

    go : Side e z → orb (in_run x y z) (lessb (in_run c N z) (member es z)) ≡ lessb (in_run x N z) (member (e ∷ es) z)
    go (under h) =
        ap₂ (λ (t u : Bool). orb t (lessb u (member es z))) (run_alike x y x N z (λ p q. (p, omega arith)) (λ p q. (p, omega arith)))
        (run_low c N z (omega (arith, s.0)))
        ∙ or_false (in_run x N z) ∙ sym (less_false (in_run x N z)) ∙ ap (lessb (in_run x N z)) (sym (ap has (none_under e es s z h)))
    go (inside h k) =
        ap₂ (λ (t u : Bool). orb t (lessb u (member es z))) (run_high x y z (omega arith)) (run_low c N z (omega arith))
        ∙ sym (less_true (in_run x N z)) ∙ ap (lessb (in_run x N z)) (sym (ap has (val_in e es z h k)))
    go (past h) =
        ap₂ (λ (t u : Bool). orb t (lessb u (member es z))) (run_high x y z (omega (arith, s.0)))
        (run_alike c N x N z (λ p q. (omega arith, q)) (λ p q. (omega arith, q)))
        ∙ ap (lessb (in_run x N z)) (sym (ap has (val_past e es z h)))

window_member : (a b z : ℕ) → member (entry a b [] ∷ []) z ≡ in_run a (suc b) z
window_member a b z = go (side (entry a b []) z)
  where
    go : Side (entry a b []) z → member (entry a b [] ∷ []) z ≡ in_run a (suc b) z
    go (under h) = ap has (val_under (entry a b []) [] z h) ∙ sym (run_low a (suc b) z h)
    go (inside h k) = ap has (val_in (entry a b []) [] z h k) ∙ sym (run_in a (suc b) z h (omega arith))
    go (past h) = ap has (val_past (entry a b []) [] z h) ∙ sym (run_high a (suc b) z (omega arith))

-- THE GAPS OF THE WINDOW
pub from_is : (a b : ℕ) (es : List Entry) → Sound es → gaps_from a (suc b) es ≡ gaps a b es
unfolding gaps
from_is a b es s =
    set_unique (λ z. lessb (member (entry a b [] ∷ []) z) (member es z)) (gaps_from a (suc b) es) (difference (entry a b [] ∷ []) es)
    (record {
      sound = (from_sound a (suc b) es s).0;
      plain = from_plain a (suc b) es;
      members = λ z. from_members a (suc b) es s z ∙ ap (λ (t : Bool). lessb t (member es z)) (sym (window_member a b z));
    })
    (difference_is (entry a b [] ∷ []) es)

pub gaps_below : (a b : ℕ) (es : List Entry) → Sound es → Each (λ g. g.high < suc b) (gaps a b es)
gaps_below a b es s = rw (sym (from_is a b es s)) (from_below a (suc b) es)
