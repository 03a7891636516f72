-- The walk along two lists, in bytes or in words: a list is seen as the low and the high at a place, and the rest d places on.
use Prim.Native.Nat.{ℕ, zero, suc, ◌+◌, ◌*◌, ◌-◌, ◌<◌, ◌≤◌}
use mathlib.Core.List.{List, [], ◌∷◌}
use mathlib.Core.Bool.{Bool, true, false, beq}
use mathlib.Core.Path.{◌≡◌, refl, sym, subst, ap, ap₂, ◌∙◌}
use native.Mathlib.Omega.{arith}
use native.Mathlib.Nat.{mul-suc}
use lib.Dec.{ltb}
use lib.ListN.{get_or, drop}
use lib.Seq.{drop-drop, get_or-drop}
use borrow.Author.Tests.{ltb-true, ltb-false}
use Rattle.entries.specs.Entries.{Entry, entry, Sound}
use Rattle.blocks.specs.Blocks.{items_of}
use Rattle.entries.specs.Build.{pick}
use Rattle.entries.specs.Bulletins.{shareb}
use Rattle.entries.proofs.Values.{true≢false}
use Rattle.searches.proofs.Sharing.{crossb, cross_none, cross_left, cross_right, cross_found, cross_share}

-- the code's test whether two answers are the same
pub same_answer : (t u : Bool) → beq t u ≡ true → t ≡ u
same_answer true true e = refl
same_answer true false e = absurd (true≢false (sym e))
same_answer false true e = absurd (true≢false (sym e))
same_answer false false e = refl

pub other_answer : (t u : Bool) → beq t u ≡ false → t ≡ u → ⊥
other_answer true true e z = true≢false e
other_answer true false e z = true≢false z
other_answer false true e z = true≢false (sym z)
other_answer false false e z = true≢false e

-- n entries from a place on
pub record View (E : ℕ → ℕ → List Entry) (d : ℕ) (low high : ℕ → ℕ) : Type 0 where
  pub none : (p : ℕ) → E 0 p ≡ []
  pub more : (n p : ℕ) → E (suc n) p ≡ entry (low p) (high p) [] ∷ E n (p + d)

-- the entry that stands k places on
pub view_at : {E : ℕ → ℕ → List Entry} {d : ℕ} {low high : ℕ → ℕ} → View E d low high → (z : Entry) (n p k : ℕ) → k < n
    → get_or (E n p) k z ≡ entry (low (p + d * k)) (high (p + d * k)) []
view_at {d = d} {low = low} {high = high} v z zero p k h = absurd (omega arith)
view_at {d = d} {low = low} {high = high} v z (suc n) p zero h =
    let e : p ≡ p + d * 0 = omega arith in
    ap (λ (l : List Entry). get_or l 0 z) (v.more n p) ∙ ap (λ (q : ℕ). entry (low q) (high q) []) e
view_at {d = d} {low = low} {high = high} v z (suc n) p (suc k) h =
    let e : p + d + d * k ≡ p + d * suc k = omega (arith, mul-suc d k) in
    ap (λ (l : List Entry). get_or l (suc k) z) (v.more n p) ∙ view_at v z n (p + d) k (omega arith) ∙ ap (λ (q : ℕ). entry (low q) (high q) []) e

module _ {E F : ℕ → ℕ → List Entry} {d : ℕ} {lo hi lo' hi' : ℕ → ℕ} (v : View E d lo hi) (u : View F d lo' hi') where
  -- what is left to walk
  pub record Left (n p m q i left j others : ℕ) : Type 0 where
    pub sound : Sound (E left i)
    pub sound_too : Sound (F others j)
    pub same : shareb (E n p) (F m q) ≡ crossb (E left i) (F others j)

  pub all_left : (n p m q left others : ℕ) → left ≡ n → others ≡ m → Sound (E n p) → Sound (F m q) → Left n p m q p left q others
  all_left n p m q left others x y a b = record {
    sound = rw x a;
    sound_too = rw y b;
    same = sym (ap₂ (λ (k l : ℕ). crossb (E k p) (F l q)) x y ∙ cross_share (E n p) (F m q) a b);
  }

  module _ {n p m q i left j others : ℕ} (l : Left n p m q i left j others) where
    pub no_others : others ≡ 0 → false ≡ shareb (E n p) (F m q)
    no_others z = sym (l.same ∙ ap (λ (k : ℕ). crossb (E left i) (F k j)) z ∙ ap (crossb (E left i)) (u.none j) ∙ cross_none (E left i))

    pub none_left : left ≤ 0 → false ≡ shareb (E n p) (F m q)
    none_left z =
        let k : left ≡ 0 = omega arith in
        sym (l.same ∙ ap (λ (k : ℕ). crossb (E k i) (F others j)) k ∙ ap (λ (x : List Entry). crossb x (F others j)) (v.none i))

    module _ (a : 0 < left) (b : 0 < others) where
      abbrev e : Entry
      e = entry (lo i) (hi i) []

      abbrev f : Entry
      f = entry (lo' j) (hi' j) []

      seen : E left i ≡ e ∷ E (left - 1) (i + d)
      seen = let k : left ≡ suc (left - 1) = omega arith in ap (λ (x : ℕ). E x i) k ∙ v.more (left - 1) i

      seen_too : F others j ≡ f ∷ F (others - 1) (j + d)
      seen_too = let k : others ≡ suc (others - 1) = omega arith in ap (λ (x : ℕ). F x j) k ∙ u.more (others - 1) j

      s : Sound (e ∷ E (left - 1) (i + d))
      s = subst (λ (x : List Entry). Sound x) seen l.sound

      t : Sound (f ∷ F (others - 1) (j + d))
      t = subst (λ (x : List Entry). Sound x) seen_too l.sound_too

      pub go_left : (x y : ℕ) → x ≡ hi i → y ≡ lo' j → x < y → Left n p m q (i + d) (left - 1) j others
      go_left x y p q h = record {
        sound = s.2;
        sound_too = l.sound_too;
        same =
            l.same ∙ ap₂ crossb seen seen_too ∙ cross_left e f (E (left - 1) (i + d)) (F (others - 1) (j + d)) t (omega arith)
            ∙ ap (crossb (E (left - 1) (i + d))) (sym seen_too);
      }

      pub go_right : (x y : ℕ) → x ≡ hi' j → y ≡ lo i → x < y → Left n p m q i left (j + d) (others - 1)
      go_right x y p q h = record {
        sound = l.sound;
        sound_too = t.2;
        same =
            l.same ∙ ap₂ crossb seen seen_too ∙ cross_right e f (E (left - 1) (i + d)) (F (others - 1) (j + d)) s (omega arith)
            ∙ ap (λ (x : List Entry). crossb x (F (others - 1) (j + d))) (sym seen);
      }

      pub found : (x y z w : ℕ) → x ≡ hi i → y ≡ lo' j → z ≡ hi' j → w ≡ lo i → y ≤ x → w ≤ z → true ≡ shareb (E n p) (F m q)
      found x y z w p q r o h k =
          cross_found e f (E (left - 1) (i + d)) (F (others - 1) (j + d)) (omega arith) (omega arith) ∙ sym (l.same ∙ ap₂ crossb seen seen_too)

      -- both tests at once: which of the two is wholly below the other, where one is
      pub step : (t u : Bool) → t ≡ ltb (hi i) (lo' j) → u ≡ ltb (hi' j) (lo i) → (t ≡ u → ⊥)
          → Left n p m q (pick t (i + d) i) (pick t (left - 1) left) (pick u (j + d) j) (pick u (others - 1) others)
      step true false x y ne = go_left (hi i) (lo' j) refl refl (ltb-true (hi i) (lo' j) (sym x))
      step false true x y ne = go_right (hi' j) (lo i) refl refl (ltb-true (hi' j) (lo i) (sym y))
      step true true x y ne = absurd (ne refl)
      step false false x y ne = absurd (ne refl)

      pub stepped : (t u : Bool) → t ≡ ltb (hi i) (lo' j) → u ≡ ltb (hi' j) (lo i) → (t ≡ u → ⊥) → (i' left' j' others' : ℕ)
          → i' ≡ pick t (i + d) i → left' ≡ pick t (left - 1) left → j' ≡ pick u (j + d) j → others' ≡ pick u (others - 1) others → Left n p m q i'
          left' j' others'
      stepped t u x y ne i' left' j' others' ei el ej eo = rw (ei, el, ej, eo) (step t u x y ne)

      pub met : (t u : Bool) → t ≡ ltb (hi i) (lo' j) → u ≡ ltb (hi' j) (lo i) → t ≡ u → true ≡ shareb (E n p) (F m q)
      met true true x y z = absurd (omega (arith, ltb-true (hi i) (lo' j) (sym x), ltb-true (hi' j) (lo i) (sym y), s.0, t.0))
      met true false x y z = absurd (true≢false z)
      met false true x y z = absurd (true≢false (sym z))
      met false false x y z = found (hi i) (lo' j) (hi' j) (lo i) refl refl refl refl (ltb-false (hi i) (lo' j) (sym x)) (ltb-false (hi' j) (lo i) (sym y))

-- a walk stays within its list, and gets shorter
pub walks_within : (t : Bool) (i left len i' left' : ℕ) → 0 < left → i + 2 * left ≤ len → i' ≡ pick t (i + 2) i → left' ≡ pick t (left - 1) left
    → i' + 2 * left' ≤ len
walks_within true i left len i' left' h l ei el = omega arith
walks_within false i left len i' left' h l ei el = omega arith

pub walks_on : (t u : Bool) (left others left' others' : ℕ) → (t ≡ u → ⊥) → 0 < left → 0 < others → left' ≡ pick t (left - 1) left
    → others' ≡ pick u (others - 1) others
    → left' + others' < left + others
walks_on true true left others left' others' ne h l el eo = absurd (ne refl)
walks_on true false left others left' others' ne h l el eo = omega arith
walks_on false true left others left' others' ne h l el eo = omega arith
walks_on false false left others left' others' ne h l el eo = absurd (ne refl)

-- ranges in words
pub in_words : (w : List ℕ) → View (λ n p. items_of 2 n (drop p w)) 2 (λ p. get_or w p 0) (λ p. get_or w (p + 1) 0)
in_words w = record {
  none = λ p. refl;
  more =
      λ n p. ap₂ ◌∷◌ (ap₂ (λ (x y : ℕ). entry x y []) (let k : p + 0 ≡ p = omega arith in get_or-drop p w 0 0 ∙ ap (λ (i : ℕ). get_or w i 0) k)
      (get_or-drop p w 1 0)) (ap (items_of 2 n) (drop-drop 2 p w));
}
