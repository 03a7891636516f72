-- What the questions' definitions mean.
use mathlib.Core.Path.{◌≡◌, refl, sym, ◌∙◌, ap}
use mathlib.Core.Bool.{Bool, true, false, not}
use mathlib.Core.Option.{Option, none, some}
use mathlib.Core.List.{List, [], ◌∷◌}
use Prim.Native.Nat.{ℕ, zero, suc, ◌+◌, ◌-◌, ◌≤◌, ◌<◌, max}
use native.Mathlib.Omega.{arith}
use native.Mathlib.Decide.{dec_le, dec_lt}
use lib.Dec.{leb}
use lib.ListN.{length, get_or}
use borrow.Author.Tests.{le-leb, lt-leb, leb-true, leb-false}
use Rattle.entries.proofs.Values.{true≢false}
use Rattle.entries.proofs.Sets.{complement_is}
use Rattle.entries.specs.Questions.{is_empty, least_member, range_at, size_of, bit, count}
use Rattle.entries.proofs.Sides.{val_in, val_under, val_past, none_upto, none_under, Side, under, inside, past, side}
use Rattle.entries.specs.Sets.{M, has, member, lessb, complement}
use Rattle.entries.specs.Build.{pick, andb}
use Rattle.entries.specs.Entries.{Value, Entry, Sound}

-- [S2] an entry by its index
pub range_in : (es : List Entry) (i : ℕ) (d : Entry) → i < length es → range_at es i ≡ some (get_or es i d)
range_in [] i d h = absurd (omega arith)
range_in (e ∷ es) zero d h = refl
range_in (e ∷ es) (suc i) d h = range_in es i d (omega arith)

-- [S2] and none from the length on
pub range_out : (es : List Entry) (i : ℕ) → length es ≤ i → range_at es i ≡ none
range_out [] i h = refl
range_out (e ∷ es) zero h = absurd (omega arith)
range_out (e ∷ es) (suc i) h = range_out es i (omega arith)

-- every number that the list names is below N
abbrev pub Under : ℕ → List Entry → Type 0
Under N [] = Unit {0}
Under N (e ∷ es) = (e.high < N) × Under N es

-- SIZE. No more numbers than there are up to N, and exactly the members.
from_low : (e : Entry) (es : List Entry) (N : ℕ) → Sound (e ∷ es) → Under N (e ∷ es) → size_of (e ∷ es) + e.low ≤ N
from_low e [] N s u = omega arith
from_low e (f ∷ es) N s u = omega (arith, from_low f es N s.2 u.1)

pub size_most : (es : List Entry) (N : ℕ) → Sound es → Under N es → size_of es ≤ N
size_most [] N s u = omega arith
size_most (e ∷ es) N s u = omega (arith, from_low e es N s u)

count_none : (m : ℕ → Bool) (N : ℕ) → ((x : ℕ) → x < N → m x ≡ false) → count m N ≡ 0
count_none m zero h = refl
count_none m (suc x) h = omega (arith, ap bit (h x (omega arith)), count_none m x (λ y p. h y (omega arith)))

abbrev pub within : ℕ → ℕ → ℕ → Bool
within l h x = andb (leb l x) (leb x h)

pub within_in : (l h x : ℕ) → l ≤ x → x ≤ h → within l h x ≡ true
within_in l h x p q = rw (le-leb l x p, le-leb x h q)

pub within_under : (l h x : ℕ) → x < l → within l h x ≡ false
within_under l h x p = rw (lt-leb l x p)

pub within_past : (l h x : ℕ) → h < x → within l h x ≡ false
within_past l h x p = go (leb l x)
  where
    go : (t : Bool) → andb t (leb x h) ≡ false
    go true = lt-leb x h p
    go false = refl

-- the numbers of one range below y, and below N
count_upto : (l h y : ℕ) → y ≤ suc h → count (within l h) y ≡ y - l
count_upto l h zero r = omega arith
count_upto l h (suc y) r = step (dec_le l y) (count_upto l h y (omega arith))
  where
    step : Dec (l ≤ y) → count (within l h) y ≡ y - l → bit (within l h y) + count (within l h) y ≡ suc y - l
    step (yes k) ih = omega (arith, ap bit (within_in l h y k (omega arith)))
    step (no k) ih = omega (arith, ap bit (within_under l h y (omega arith)))

count_range : (l h N : ℕ) → l ≤ h → h < N → count (within l h) N ≡ suc h - l
count_range l h zero p q = absurd (omega arith)
count_range l h (suc x) p q = go (dec_le x h) (λ r. count_range l h x p r)
  where
    go : Dec (x ≤ h) → (h < x → count (within l h) x ≡ suc h - l) → bit (within l h x) + count (within l h) x ≡ suc h - l
    go (yes r) ih = let e : x ≡ h = omega arith in omega (arith, count_upto l h (suc x) (omega arith))
    go (no r) ih = omega (arith, ap bit (within_past l h x (omega arith)), ih (omega arith))

count_sum : (r m k : ℕ → Bool) (N : ℕ) → ((x : ℕ) → bit (r x) ≡ bit (m x) + bit (k x)) → count r N ≡ count m N + count k N
count_sum r m k zero h = refl
count_sum r m k (suc x) h = omega (arith, h x, count_sum r m k x h)

-- [S3] the size is the number of members
pub size_counts : (es : List Entry) (N : ℕ) → Sound es → Under N es → size_of es ≡ count (member es) N
size_counts [] N s u = sym (count_none (member []) N (λ x p. refl))
size_counts (e ∷ es) N s u =
    omega (
      arith,
      count_sum (member (e ∷ es)) (within e.low e.high) (member es) N (λ x. apart x (side e x)),
      count_range e.low e.high N s.0
          u.0,
      size_counts es N s.2 u.1,
    )
  where
    apart : (x : ℕ) → Side e x → bit (member (e ∷ es) x) ≡ bit (within e.low e.high x) + bit (member es x)
    apart x (under h) = omega (arith, ap (λ (o : Option Value). bit (has o)) (val_under e es x h), ap bit (within_under e.low e.high x h))
    apart x (inside h k) =
        omega (
          arith,
          ap (λ (o : Option Value). bit (has o)) (val_in e es x h k),
          ap (λ (o : Option Value). bit (has o))
              (none_upto e es s.1 s.2 x k),
          ap bit (within_in e.low e.high x h k),
        )
    apart x (past h) = omega (arith, ap (λ (o : Option Value). bit (has o)) (val_past e es x h), ap bit (within_past e.low e.high x h))

-- LEAST. y is the least number at or above x that a test accepts; or there is none.
pub record Least (m : ℕ → Bool) (x y : ℕ) : Type 0 where
  pub from : x ≤ y
  pub is : m y ≡ true
  pub least : (z : ℕ) → x ≤ z → z < y → m z ≡ false

abbrev pub LeastOf : (ℕ → Bool) → ℕ → Option ℕ → Type 0
LeastOf m x (some y) = Least m x y
LeastOf m x none = (z : ℕ) → x ≤ z → m z ≡ false

-- [S4] the least member
pub least_member_lem : (es : List Entry) (x : ℕ) → Sound es → LeastOf (member es) x (least_member es x)
least_member_lem [] x s = λ z h. refl
least_member_lem (e ∷ es) x s = go (leb x e.high) refl (least_member es x) (least_member_lem es x s.2)
  where
    later : (z : ℕ) → e.high < x → x ≤ z → member (e ∷ es) z ≡ member es z
    later z h p = ap has (val_past e es z (omega arith))

    on : e.high < x → (o : Option ℕ) → LeastOf (member es) x o → LeastOf (member (e ∷ es)) x o
    on h none k = λ z p. later z h p ∙ k z p
    on h (some y) k = record { from = k.from; is = later y h k.from ∙ k.is; least = λ z p q. later z h p ∙ k.least z p q }

    go : (t : Bool) → leb x e.high ≡ t → (o : Option ℕ) → LeastOf (member es) x o → LeastOf (member (e ∷ es)) x (pick t (some (max x e.low)) o)
    go true q o k = record {
      from = omega arith;
      is = ap has (val_in e es (max x e.low) (omega arith) (omega (arith, s.0, leb-true x e.high q)));
      least = λ z p r. ap has (none_under e es s z (omega arith));
    }
    go false q o k = on (leb-false x e.high q) o k

-- there is one answer
pub least_one : (m : ℕ → Bool) (x : ℕ) (o : Option ℕ) → LeastOf m x o → (y : ℕ) → Least m x y → o ≡ some y
least_one m x none k y l = absurd (true≢false (sym l.is ∙ k y l.from))
least_one m x (some w) k y l = go (dec_lt w y) (dec_lt y w)
  where
    go : Dec (w < y) → Dec (y < w) → some w ≡ some y
    go (yes h) q = absurd (true≢false (sym k.is ∙ l.least w k.from h))
    go (no g) (yes h) = absurd (true≢false (sym l.is ∙ k.least y l.from h))
    go (no g) (no h) = let e : w ≡ y = omega arith in ap some e

pub least_none : (m : ℕ → Bool) (x : ℕ) (o : Option ℕ) → LeastOf m x o → ((z : ℕ) → x ≤ z → m z ≡ false) → o ≡ none
least_none m x none k h = refl
least_none m x (some y) k h = absurd (true≢false (sym k.is ∙ h y k.from))

-- [S5] the least member of the complement is the least number of 0..M that is no member
module _ (es : List Entry) (x : ℕ) where
  pub outside : LeastOf (member (complement es)) x (least_member (complement es) x)
  outside = least_member_lem (complement es) x (complement_is es).sound

  pub non_member_lem : (z : ℕ) → z ≤ M → member (complement es) z ≡ not (member es z)
  non_member_lem z h = (complement_is es).members z ∙ rw (le-leb z M h) (other (member es z))
    where
      other : (t : Bool) → lessb true t ≡ not t
      other true = refl
      other false = refl

  past_last : (z : ℕ) → M < z → member (complement es) z ≡ false
  past_last z h = (complement_is es).members z ∙ rw (lt-leb z M h)

  pub non_member_is : (y : ℕ) → x ≤ y → y ≤ M → member es y ≡ false → ((z : ℕ) → x ≤ z → z < y → member es z ≡ true)
      → least_member (complement es) x ≡ some y
  non_member_is y h m out in_before =
      least_one (member (complement es)) x (least_member (complement es) x) outside y (record {
        from = h;
        is = non_member_lem y m ∙ ap not out;
        least = λ z p q. non_member_lem z (omega arith) ∙ ap not (in_before z p q);
      })

  pub non_member_none : ((z : ℕ) → x ≤ z → z ≤ M → member es z ≡ true) → least_member (complement es) x ≡ none
  non_member_none h = least_none (member (complement es)) x (least_member (complement es) x) outside (λ z p. go z p (dec_le z M))
    where
      go : (z : ℕ) → x ≤ z → Dec (z ≤ M) → member (complement es) z ≡ false
      go z p (yes q) = non_member_lem z q ∙ ap not (h z p q)
      go z p (no q) = past_last z (omega arith)

-- EMPTY. A list is empty exactly where no number has a value.
pub empty_none : (es : List Entry) → is_empty es ≡ true → (x : ℕ) → member es x ≡ false
empty_none [] h x = refl
empty_none (e ∷ es) h x = absurd (true≢false (sym h))

pub none_empty : (es : List Entry) → Sound es → ((x : ℕ) → member es x ≡ false) → is_empty es ≡ true
none_empty [] s h = refl
none_empty (e ∷ es) s h = absurd (true≢false (sym (ap has (val_in e es e.low (omega arith) s.0)) ∙ h e.low))
