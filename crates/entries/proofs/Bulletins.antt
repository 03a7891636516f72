-- The laws of bulletins. Each is an equation between Booleans at one number, lifted to lists because a set has one list.
use mathlib.Core.Path.{◌≡◌, refl, sym, ◌∙◌, ap, ap₂}
use mathlib.Core.Bool.{Bool, true, false, not}
use mathlib.Core.List.{List}
use Prim.Native.Nat.{ℕ, ◌+◌, ◌≤◌}
use native.Mathlib.Omega.{arith}
use lib.ListN.{length}
use Rattle.entries.specs.Entries.{Entry, Sound}
use Rattle.entries.specs.Build.{andb}
use Rattle.entries.specs.Sets.{member, orb, lessb, difference}
use Rattle.entries.specs.Bulletins.{amended, amend, Apart}
use Rattle.entries.proofs.Taut.{taut2, taut4, taut5}
use Rattle.entries.proofs.Plain.{set_canonical}
use Rattle.entries.proofs.Sets.{SetOf, union_is, difference_is}
use Rattle.entries.proofs.Limits.{union_bound, difference_bound}

amend_amend : (s r₁ w₁ r₂ w₂ : Bool) → amend s (amend r₁ r₂ w₂) (amend w₁ w₂ r₂) ≡ amend (amend s r₁ w₁) r₂ w₂
amend_amend = taut5 _ _ tt

amend_apart : (r₁ w₁ r₂ w₂ : Bool) → andb (amend r₁ r₂ w₂) (amend w₁ w₂ r₂) ≡ orb (andb (andb r₁ w₁) (not (orb r₂ w₂))) (andb r₂ w₂)
amend_apart = taut4 _ _ tt

less_apart : (a b : Bool) → andb a b ≡ false → lessb a b ≡ a
less_apart true true h = sym h
less_apart true false h = refl
less_apart false b h = refl

or_comm : (a b : Bool) → orb a b ≡ orb b a
or_comm = taut2 _ _ tt

and_comm : (a b : Bool) → andb a b ≡ andb b a
and_comm = taut2 _ _ tt

amend_swap : (r₁ w₁ r₂ w₂ : Bool) → andb r₁ w₂ ≡ false → andb r₂ w₁ ≡ false → amend r₁ r₂ w₂ ≡ amend r₂ r₁ w₁
amend_swap r₁ w₁ r₂ w₂ p q = simp (less_apart r₁ w₂ p, less_apart r₂ w₁ q) (or_comm r₁ r₂)

pub apart_sym : (a b : List Entry) → Apart a b → Apart b a
apart_sym a b h x = and_comm (member b x) (member a x) ∙ h x

-- [U2, U3] what `amended` names
pub amended_is : (s r w : List Entry) → SetOf (λ x. amend (member s x) (member r x) (member w x)) (amended s r w)
amended_is s r w = record {
  sound = (union_is (difference s w) r).sound;
  plain = (union_is (difference s w) r).plain;
  members = λ x. (union_is (difference s w) r).members x ∙ ap (λ (t : Bool). orb t (member r x)) ((difference_is s w).members x);
}

pub amended_bound : (s r w : List Entry) → Sound s → Sound r → Sound w → length (amended s r w) ≤ length s + length r + length w
amended_bound s r w p q n = omega (arith, union_bound (difference s w) r (difference_is s w).sound q, difference_bound s w p n)

-- [D5, D6] the fold has the effect of both in turn; of a bulletin's own sets for s, it is the grouping of three
pub amended_amended : (s r₁ w₁ r₂ w₂ : List Entry) → amended s (amended r₁ r₂ w₂) (amended w₁ w₂ r₂) ≡ amended (amended s r₁ w₁) r₂ w₂
amended_amended s r₁ w₁ r₂ w₂ = set_canonical _ _ left.sound right.sound left.plain right.plain same
  where
    left : SetOf (λ x. amend (member s x) (member (amended r₁ r₂ w₂) x) (member (amended w₁ w₂ r₂) x)) (amended s (amended r₁ r₂ w₂) (amended w₁ w₂ r₂))
    left = amended_is s (amended r₁ r₂ w₂) (amended w₁ w₂ r₂)

    right : SetOf (λ x. amend (member (amended s r₁ w₁) x) (member r₂ x) (member w₂ x)) (amended (amended s r₁ w₁) r₂ w₂)
    right = amended_is (amended s r₁ w₁) r₂ w₂

    same : (x : ℕ) → member (amended s (amended r₁ r₂ w₂) (amended w₁ w₂ r₂)) x ≡ member (amended (amended s r₁ w₁) r₂ w₂) x
    same x =
        left.members x
        ∙ ap₂ (λ (a b : Bool). amend (member s x) a b) ((amended_is r₁ r₂ w₂).members x) ((amended_is w₁ w₂ r₂).members x)
        ∙ amend_amend (member s x) (member r₁ x) (member w₁ x) (member r₂ x) (member w₂ x)
        ∙ ap (λ (a : Bool). amend a (member r₂ x) (member w₂ x)) (sym ((amended_is s r₁ w₁).members x))
        ∙ sym (right.members x)

-- [U1, U3] the fold of two bulletins is a bulletin
pub amended_apart : (r₁ w₁ r₂ w₂ : List Entry) → Apart r₁ w₁ → Apart r₂ w₂ → Apart (amended r₁ r₂ w₂) (amended w₁ w₂ r₂)
amended_apart r₁ w₁ r₂ w₂ p q x =
    ap₂ andb ((amended_is r₁ r₂ w₂).members x) ((amended_is w₁ w₂ r₂).members x)
    ∙ amend_apart (member r₁ x) (member w₁ x) (member r₂ x) (member w₂ x)
    ∙ ap₂ (λ (a b : Bool). orb (andb a (not (orb (member r₂ x) (member w₂ x)))) b) (p x) (q x)

-- [U4] neither releases what the other withdraws: half of a fold in either order
pub amended_swap : (r₁ w₁ r₂ w₂ : List Entry) → Apart r₁ w₂ → Apart r₂ w₁ → amended r₁ r₂ w₂ ≡ amended r₂ r₁ w₁
amended_swap r₁ w₁ r₂ w₂ p q =
    set_canonical _ _ (amended_is r₁ r₂ w₂).sound (amended_is r₂ r₁ w₁).sound (amended_is r₁ r₂ w₂).plain (amended_is r₂ r₁ w₁).plain
    (λ x. (amended_is r₁ r₂ w₂).members x ∙ amend_swap (member r₁ x) (member w₁ x) (member r₂ x) (member w₂ x) (p x) (q x)
    ∙ sym ((amended_is r₂ r₁ w₁).members x))

same_withdrawn : (r w r' w' : Bool) → andb r w ≡ false → andb r' w' ≡ false → r ≡ r' → amend true r w ≡ amend true r' w' → w ≡ w'
same_withdrawn true true r' w' p q e h = cc
same_withdrawn true false true true p q e h = cc
same_withdrawn true false true false p q e h = refl
same_withdrawn true false false w' p q e h = cc
same_withdrawn false w true w' p q e h = cc
same_withdrawn false true false true p q e h = refl
same_withdrawn false true false false p q e h = sym h
same_withdrawn false false false true p q e h = sym h
same_withdrawn false false false false p q e h = refl

-- two bulletins with the same effect on every number, listed before (true) or not (false), name the same numbers
module _ (r w r' w' : List Entry) (p : Apart r w) (q : Apart r' w')
    (h : (listed : Bool) (x : ℕ) → amend listed (member r x) (member w x) ≡ amend listed (member r' x) (member w' x)) where
  -- [D7] in what they release,
  pub effect_released : (x : ℕ) → member r x ≡ member r' x
  effect_released x = h false x

  -- [D7] and in what they withdraw
  pub effect_withdrawn : (x : ℕ) → member w x ≡ member w' x
  effect_withdrawn x = same_withdrawn (member r x) (member w x) (member r' x) (member w' x) (p x) (q x) (effect_released x) (h true x)
