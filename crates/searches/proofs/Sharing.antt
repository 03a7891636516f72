-- Two sound lists share a number: pair by pair, by a walk along both, and by their intersection.
use Prim.Native.Nat.{ℕ, suc, ◌<◌, ◌≤◌, max}
use mathlib.Core.List.{List, [], ◌∷◌}
use mathlib.Core.Bool.{Bool, true, false}
use mathlib.Core.Option.{Option, none, some}
use mathlib.Core.Path.{◌≡◌, refl, sym, ap, ap₂, ◌∙◌}
use native.Mathlib.Omega.{arith}
use lib.Dec.{leb, ltb}
use lib.ListN.{length}
use borrow.Author.Tests.{leb-true, le-leb, lt-leb, lt-ltb}
use Rattle.entries.specs.Entries.{Value, Entry, Sound, at, both, or_else, value_at}
use Rattle.entries.specs.Build.{andb}
use Rattle.entries.specs.Sets.{has, orb, member, intersection}
use Rattle.entries.proofs.Values.{true≢false, and_true}
use Rattle.entries.proofs.Sets.{set_unique, intersection_is}
use Rattle.entries.specs.Bulletins.{shareb}

-- pair by pair
abbrev pub meetb : Entry → Entry → Bool
meetb e f = andb (leb e.low f.high) (leb f.low e.high)

abbrev pub meetsb : Entry → List Entry → Bool
meetsb e [] = false
meetsb e (f ∷ fs) = orb (meetb e f) (meetsb e fs)

abbrev pub crossb : List Entry → List Entry → Bool
crossb [] fs = false
crossb (e ∷ es) fs = orb (meetsb e fs) (crossb es fs)

or_false : (t : Bool) → orb t false ≡ t
or_false true = refl
or_false false = refl

or_right : (t u : Bool) → u ≡ true → orb t u ≡ true
or_right true u e = refl
or_right false u e = e

pub cross_none : (es : List Entry) → crossb es [] ≡ false
cross_none [] = refl
cross_none (e ∷ es) = cross_none es

-- the walk: the first range that ends before the other begins meets none
apart : (e f : Entry) → e.high < f.low → meetb e f ≡ false
apart e f h = go (leb e.low f.high)
  where
    go : (t : Bool) → andb t (leb f.low e.high) ≡ false
    go true = lt-leb f.low e.high h
    go false = refl

meets_none : (e f : Entry) (fs : List Entry) → Sound (f ∷ fs) → e.high < f.low → meetsb e (f ∷ fs) ≡ false
meets_none e f [] d h = rw (apart e f h)
meets_none e f (g ∷ gs) d h = ap₂ orb (apart e f h) (meets_none e g gs d.2 (omega (arith, d.0, d.1.0)))

pub cross_left : (e f : Entry) (es fs : List Entry) → Sound (f ∷ fs) → e.high < f.low → crossb (e ∷ es) (f ∷ fs) ≡ crossb es (f ∷ fs)
cross_left e f es fs d h = ap (λ (t : Bool). orb t (crossb es (f ∷ fs))) (meets_none e f fs d h)

pub cross_right : (e f : Entry) (es fs : List Entry) → Sound (e ∷ es) → f.high < e.low → crossb (e ∷ es) (f ∷ fs) ≡ crossb (e ∷ es) fs
cross_right e f [] fs d h = ap (λ (t : Bool). orb (orb (andb t (leb f.low e.high)) (meetsb e fs)) false) (lt-leb e.low f.high h)
cross_right e f (g ∷ gs) fs d h =
    ap₂ (λ (t u : Bool). orb (orb (andb t (leb f.low e.high)) (meetsb e fs)) u) (lt-leb e.low f.high h)
    (cross_right g f gs fs d.2 (omega (arith, d.0, d.1.0)))

pub cross_found : (e f : Entry) (es fs : List Entry) → e.low ≤ f.high → f.low ≤ e.high → true ≡ crossb (e ∷ es) (f ∷ fs)
cross_found e f es fs h l = rw (le-leb e.low f.high h, le-leb f.low e.high l)

-- a number in both
pub record Common (es fs : List Entry) : Type 0 where
  pub x : ℕ
  pub left : member es x ≡ true
  pub right : member fs x ≡ true

pub inside : (e : Entry) (es : List Entry) (x : ℕ) → e.low ≤ x → x ≤ e.high → member (e ∷ es) x ≡ true
inside e es x h l = rw (le-leb e.low x h, le-leb x e.high l)

further : (e : Entry) (es : List Entry) (x : ℕ) → member es x ≡ true → member (e ∷ es) x ≡ true
further e es x h = go (at e x)
  where
    go : (o : Option Value) → has (or_else o (value_at es x)) ≡ true
    go none = h
    go (some v) = refl

-- one of two passed
either : {A : Type 0} (t u : Bool) → orb t u ≡ true → (t ≡ true → A) → (u ≡ true → A) → A
either true u e f g = f refl
either false u e f g = g e

shift : (e : Entry) (es fs : List Entry) → Common es fs → Common (e ∷ es) fs
shift e es fs c = record { x = c.x; left = further e es c.x c.left; right = c.right }

meets_common : (e : Entry) (es fs : List Entry) → e.low ≤ e.high → Sound fs → meetsb e fs ≡ true → Common (e ∷ es) fs
meets_common e es [] h d q = absurd (true≢false (sym q))
meets_common e es (f ∷ fs) h d q = either (meetb e f) (meetsb e fs) q here (λ r. later (meets_common e es fs h d.2 r))
  where
    here : meetb e f ≡ true → Common (e ∷ es) (f ∷ fs)
    here r =
        let t = and_true (leb e.low f.high) (leb f.low e.high) r in
        let a = leb-true e.low f.high t.0 in
        let b = leb-true f.low e.high t.1 in
        let x = max e.low f.low in
        record { x = x; left = inside e es x (omega arith) (omega arith); right = inside f fs x (omega arith) (omega (arith, d.0)) }

    later : Common (e ∷ es) fs → Common (e ∷ es) (f ∷ fs)
    later c = record { x = c.x; left = c.left; right = further f fs c.x c.right }

cross_common : (es fs : List Entry) → Sound es → Sound fs → crossb es fs ≡ true → Common es fs
cross_common [] fs d g q = absurd (true≢false (sym q))
cross_common (e ∷ es) fs d g q =
    either (meetsb e fs) (crossb es fs) q (meets_common e es fs d.0 g) (λ r. shift e es fs (cross_common es fs d.2 g r))

-- and the other way
module _ (x : ℕ) where
  member_of : {A : Type 0} (e : Entry) (es : List Entry) → member (e ∷ es) x ≡ true → (e.low ≤ x → x ≤ e.high → A) → (member es x ≡ true → A) → A
  member_of {A} e es q f g = go (leb e.low x) refl (leb x e.high) refl q
    where
      go : (t : Bool) → leb e.low x ≡ t → (u : Bool) → leb x e.high ≡ u → has (or_else (both t u e.value) (value_at es x)) ≡ true → A
      go true p true r q = f (leb-true e.low x p) (leb-true x e.high r)
      go true p false r q = g q
      go false p u r q = g q

  meets_at : (e : Entry) (fs : List Entry) → e.low ≤ x → x ≤ e.high → member fs x ≡ true → meetsb e fs ≡ true
  meets_at e [] h l q = absurd (true≢false (sym q))
  meets_at e (f ∷ fs) h l q =
      member_of f fs q (λ a b. rw (le-leb e.low f.high (omega arith), le-leb f.low e.high (omega arith)))
      (λ r. or_right (meetb e f) (meetsb e fs) (meets_at e fs h l r))

  common_cross : (es fs : List Entry) → member es x ≡ true → member fs x ≡ true → crossb es fs ≡ true
  common_cross [] fs p q = absurd (true≢false (sym p))
  common_cross (e ∷ es) fs p q =
      member_of e es p (λ a b. rw (meets_at e fs a b q)) (λ r. or_right (meetsb e fs) (crossb es fs) (common_cross es fs r q))

pub some_member : (l : List Entry) (x : ℕ) → member l x ≡ true → ltb 0 (length l) ≡ true
some_member [] x q = absurd (true≢false (sym q))
some_member (e ∷ l) x q = lt-ltb 0 (suc (length l)) (omega arith)

-- [R14, U1] the walk decides whether there is an intersection
pub cross_share : (es fs : List Entry) → Sound es → Sound fs → crossb es fs ≡ shareb es fs
unfolding shareb
cross_share es fs d g = go (crossb es fs) refl
  where
    none_common : crossb es fs ≡ false → (x : ℕ) (t u : Bool) → member es x ≡ t → member fs x ≡ u → false ≡ andb t u
    none_common q x true true p r = sym q ∙ common_cross x es fs p r
    none_common q x true false p r = refl
    none_common q x false u p r = refl

    go : (t : Bool) → crossb es fs ≡ t → crossb es fs ≡ ltb 0 (length (intersection es fs))
    go true q =
        let c = cross_common es fs d g q in
        q ∙ sym (some_member (intersection es fs) c.x ((intersection_is es fs).members c.x ∙ ap₂ andb c.left c.right))
    go false q =
        let empty : intersection es fs ≡ [] =
        set_unique (λ x. andb (member es x) (member fs x)) (intersection es fs) [] (intersection_is es fs)
        (record { sound = tt; plain = tt; members = λ x. none_common q x (member es x) (member fs x) refl refl }) in
        q ∙ sym (ap (λ (l : List Entry). ltb 0 (length l)) empty)
