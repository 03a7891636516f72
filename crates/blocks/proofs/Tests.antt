-- What each test of the judge makes of the definitions.
use mathlib.Core.Path.{◌≡◌, refl, sym, ◌∙◌, ap, ap₂}
use mathlib.Core.Bool.{Bool, true, false, not}
use mathlib.Core.List.{List, [], ◌∷◌}
use Prim.Native.Nat.{ℕ, zero, suc, ◌+◌, ◌*◌, ◌-◌, ◌≤◌, ◌<◌}
use native.Mathlib.Omega.{arith}
use native.Mathlib.Nat.{mul-suc, mul-add, mul_comm, mul-le-mul_left}
use lib.Dec.{leb, eqb}
use Rattle.std.specs.Prelude.{nat_eq}
use lib.Pointwise.{pointwise}
use borrow.Author.Tests.{lt-ltb, le-ltb, le-leb, lt-leb, eq-eqb, ne_eqb}
use lib.ListN.{length, get_or, drop}
use lib.Seq.{drop-drop}
use Rattle.entries.specs.Build.{andb, pick, same_words}
use Rattle.entries.specs.Entries.{Entry}
use Rattle.blocks.specs.declared.Layout.{Layout}
use Rattle.blocks.specs.Blocks.{item_of, items_of, capacity, fine, soundb, verdict}
use Rattle.blocks.proofs.Moves.{item_drop}
use Rattle.blocks.specs.Steps.{item_from}

-- two lists of words compared as the library does
pub same_pointwise : (a b : List ℕ) → pointwise nat_eq a b ≡ same_words a b
same_pointwise [] [] = refl
same_pointwise [] (y ∷ b) = refl
same_pointwise (x ∷ a) [] = refl
same_pointwise (x ∷ a) (y ∷ b) = rw (same_pointwise a b) refl

-- an item and the next, by the tests in turn
module _ (e f : Entry) where
  pub backwards : e.high < e.low → false ≡ fine e (f ∷ [])
  backwards h = rw (lt-leb e.low e.high h)

  module _ (h : e.low ≤ e.high) where
    pub overlaps : f.low ≤ e.high → false ≡ fine e (f ∷ [])
    overlaps k = rw (le-leb e.low e.high h, le-ltb e.high f.low k)

    module _ (k : e.high < f.low) where
      pub apart : 1 < f.low - e.high → true ≡ fine e (f ∷ [])
      apart m = rw (le-leb e.low e.high h, lt-ltb e.high f.low k, ne_eqb f.low (suc e.high) (λ z. omega arith))

      pub touching : f.low - e.high ≤ 1 → (t : Bool) → same_words e.value f.value ≡ t → not t ≡ fine e (f ∷ [])
      touching m t q = rw (le-leb e.low e.high h, lt-ltb e.high f.low k, eq-eqb f.low (suc e.high) (omega arith), q)

-- s words an item
pub less_one_lem : (s n : ℕ) → 0 < n → s * n ≡ s + s * (n - 1)
less_one_lem s n h = let e : n ≡ suc (n - 1) = omega arith in ap (λ (x : ℕ). s * x) e ∙ mul-suc s (n - 1) ∙ native.Mathlib.Nat.add_comm (s * (n - 1)) s

pub some_left : (s n k : ℕ) → k ≤ n → k * s ≤ s * n
some_left s n k h = omega (arith, mul-le-mul_left s h, mul_comm s k)

pub le_mul : (s n : ℕ) → 2 ≤ s → 2 * n ≤ s * n
le_mul s zero h = omega arith
le_mul s (suc n) h = omega (arith, le_mul s n h, mul-suc s n)

pub record Span (s n i j c : ℕ) : Type 0 where
  pub si : s * i ≤ s * n
  pub sj : s * j ≤ s * n
  pub back : s * (n - j) + s * j ≡ s * n
  pub c2 : 2 * c ≤ s * c
  pub i2 : 2 * i ≤ s * i
  pub b2 : 2 * (n - j) ≤ s * (n - j)
  pub ic : s * (i + c) ≡ s * i + s * c
  pub all : s * (i + c + (n - j)) ≡ s * i + s * c + s * (n - j)

pub span : (s n i j c : ℕ) → 2 ≤ s → i ≤ n → j ≤ n → Span s n i j c
span s n i j c two hi hj =
    let e : (n - j) + j ≡ n = omega arith in
    record {
      si = mul-le-mul_left s hi;
      sj = mul-le-mul_left s hj;
      back = omega (arith, mul-add s (n - j) j, ap (λ (x : ℕ). s * x) e);
      c2 = le_mul s c two;
      i2 = le_mul s i two;
      b2 = le_mul s (n - j) two;
      ic = mul-add s i c;
      all = omega (arith, mul-add s (i + c) (n - j), mul-add s i c);
    }

pub item_in : (s i n : ℕ) → i < n → s * i + s ≤ s * n
item_in s i n h = omega (arith, mul-le-mul_left s h, mul-suc s i)

-- the items left to judge
pub item_from_lem : (s p : ℕ) (w : List ℕ) → item_of s (drop p w) ≡ item_from s w p
item_from_lem s p w = item_drop s p p (p + 1) (p + 2) w refl (omega arith) refl

module _ (s : ℕ) (w : List ℕ) where
  abbrev pub rest : ℕ → ℕ → Bool
  rest p n = soundb (items_of s n (drop p w))

  two : (p n m : ℕ) → n ≡ suc (suc m) → rest p n ≡ andb (fine (item_from s w p) (item_from s w (p + s) ∷ [])) (rest (p + s) (suc m))
  two p n m e =
      ap (rest p) e
      ∙ ap (λ (l : List ℕ). andb (fine (item_of s (drop p w)) (item_of s l ∷ [])) (soundb (items_of s (suc m) l))) (drop-drop s p w)
      ∙ ap₂ (λ (x y : Entry). andb (fine x (y ∷ [])) (rest (p + s) (suc m))) (item_from_lem s p w) (item_from_lem s (p + s) w)

  pub rest_more : (p n : ℕ) (t : Bool) → 1 < n → t ≡ fine (item_from s w p) (item_from s w (p + s) ∷ []) → t ≡ true → rest (p + s) (n - 1) ≡ rest p n
  rest_more p n t h e f =
      let m : n ≡ suc (suc (n - 2)) = omega arith in
      let k : suc (n - 2) ≡ n - 1 = omega arith in
      sym (two p n (n - 2) m ∙ ap₂ (λ (x : Bool) (y : ℕ). andb x (rest (p + s) y)) (sym e ∙ f) k)

  pub rest_bad : (p n : ℕ) (t : Bool) → 1 < n → t ≡ fine (item_from s w p) (item_from s w (p + s) ∷ []) → t ≡ false → false ≡ rest p n
  rest_bad p n t h e f =
      let m : n ≡ suc (suc (n - 2)) = omega arith in
      sym (two p n (n - 2) m ∙ ap (λ (x : Bool). andb x (rest (p + s) (suc (n - 2)))) (sym e ∙ f))

  pub rest_none : (p n : ℕ) → n ≡ 0 → true ≡ rest p n
  rest_none p n e = sym (ap (rest p) e)

  pub rest_one : (p n : ℕ) → n ≡ 1 → leb (get_or w p 0) (get_or w (p + 1) 0) ≡ rest p n
  rest_one p n e =
      sym (ap (rest p) e ∙ ap (λ (x : Entry). andb (andb (leb x.low x.high) true) true) (item_from_lem s p w)
      ∙ unit (leb (get_or w p 0) (get_or w (p + 1) 0)))
    where
      unit : (t : Bool) → andb (andb t true) true ≡ t
      unit true = refl
      unit false = refl

  -- the items from the one before index i on, of n
  abbrev pub from_before : ℕ → ℕ → Bool
  from_before n i = rest (s * (i - 1) + 1) (n - (i - 1))

  pub from_first : (n : ℕ) → from_before n 1 ≡ rest 1 n
  from_first n =
      let z : s * (1 - 1) + 1 ≡ 1 = omega arith in
      let y : n - (1 - 1) ≡ n = omega arith in ap₂ rest z y

  module _ (n i : ℕ) (h : 1 ≤ i) (l : i < n) (t : Bool) (e : t ≡ fine (item_from s w (s * (i - 1) + 1)) (item_from s w (s * (i - 1) + 1 + s) ∷ [])) where
    pub from_next : t ≡ true → from_before n (i + 1) ≡ from_before n i
    from_next f =
        let m : (i + 1) - 1 ≡ suc (i - 1) = omega arith in
        let p : s * ((i + 1) - 1) + 1 ≡ s * (i - 1) + 1 + s = omega (arith, ap (λ (k : ℕ). s * k) m, mul-suc s (i - 1)) in
        let q : n - ((i + 1) - 1) ≡ n - (i - 1) - 1 = omega arith in
        ap₂ rest p q ∙ rest_more (s * (i - 1) + 1) (n - (i - 1)) t (omega arith) e f

    pub from_bad : t ≡ false → false ≡ from_before n i
    from_bad f = rest_bad (s * (i - 1) + 1) (n - (i - 1)) t (omega arith) e f

  pub from_last : (n i : ℕ) → i ≡ n → (n ≡ 0 → ⊥) → leb (get_or w (s * (n - 1) + 1) 0) (get_or w (s * (n - 1) + 1 + 1) 0) ≡ from_before n i
  from_last n i e h = rw e (rest_one (s * (n - 1) + 1) (n - (n - 1)) (omega arith))

-- the verdict, by the tests of the code
module _ (l : Layout) (m : List ℕ) where
  pub v1 : length m ≡ 0 → 1 ≡ verdict l m
  unfolding verdict
  v1 h = rw (eq-eqb (length m) 0 h)

  module _ (h : length m ≡ 0 → ⊥) (c n : ℕ) (e : c ≡ capacity l (length m)) (f : n ≡ get_or m 0 0) where
    pub v2 : c < n → 2 ≡ verdict l m
    unfolding verdict
    v2 g =
        let k : capacity l (length m) < get_or m 0 0 = omega arith in
        rw (ne_eqb (length m) 0 h, lt-ltb (capacity l (length m)) (get_or m 0 0) k)

    pub v03 : n ≤ c → (t : Bool) → t ≡ soundb (items_of l.width n (drop 1 m)) → pick t 0 3 ≡ verdict l m
    unfolding verdict
    v03 g t d =
        let k : get_or m 0 0 ≤ capacity l (length m) = omega arith in
        rw (ne_eqb (length m) 0 h, le-ltb (capacity l (length m)) (get_or m 0 0) k)
        (ap (λ (b : Bool). pick b 0 3) (d ∙ ap (λ (k : ℕ). soundb (items_of l.width k (drop 1 m))) f))
