-- The list that a sweep makes: how a segment grows it, and that it gets no longer than the result.
use mathlib.Core.Path.{◌≡◌, refl, sym, ◌∙◌, ap}
use mathlib.Core.Bool.{Bool, true, false}
use mathlib.Core.Option.{Option, none, some}
use mathlib.Core.List.{List, [], ◌∷◌, ◌++◌, append_assoc}
use Prim.Native.Nat.{ℕ, zero, suc, ◌+◌, ◌≤◌, ◌<◌}
use native.Mathlib.Omega.{arith}
use native.Mathlib.Decide.{dec_lt}
use lib.ListN.{length, length-append}
use lib.Dec.{eqb}
use borrow.Author.Tests.{eqb-true, eqb-false}
use Rattle.entries.specs.Entries.{Value, Entry, entry, value_at, ListOf}
use Rattle.entries.specs.Build.{andb, same_words}
use Rattle.entries.proofs.Values.{true≢false, and_true, words_true}
use Rattle.entries.proofs.Sides.{val_in, val_past}
use Rattle.entries.proofs.Canon.{none≢some}
use Rattle.entries.proofs.Append.{sound_right, value_right}
use Rattle.entries.proofs.Step.{Upto}
use Rattle.entries.proofs.Extend.{push, push_snoc, extend, last, step, Ended, empty, ended, ending}
use Rattle.entries.proofs.Bounds.{prev, StartsIn, starts, start_bound, lows, length_lows}
use Rattle.sweeps.specs.Cursors.{shown, same_as, begins, raise, grow}

pub raise_snoc : (a : List Entry) (l : Entry) (h : ℕ) (v : Value) → raise (a ++ l ∷ []) h v ≡ a ++ entry l.low h v ∷ []
raise_snoc [] l h v = refl
raise_snoc (e ∷ []) l h v = refl
raise_snoc (e ∷ f ∷ a) l h v = ap (λ (t : List Entry). e ∷ t) (raise_snoc (f ∷ a) l h v)

length_raise : (es : List Entry) (h : ℕ) (v : Value) → length (raise es h v) ≡ length es
length_raise [] h v = refl
length_raise (e ∷ []) h v = refl
length_raise (e ∷ f ∷ es) h v = ap suc (length_raise (f ∷ es) h v)

pub length_grow : (u j : Bool) (es : List Entry) (x h : ℕ) (v : Value) → length (grow u j es x h v) ≡ length es + begins u j
length_grow false j es x h v = omega arith
length_grow true true es x h v = omega (arith, length_raise es h v)
length_grow true false es x h v = length-append es (entry x h v ∷ [])

pub begins_one : (u q : Bool) → begins u q ≤ 1
begins_one true q = omega arith
begins_one false q = omega arith

-- without a value nothing goes on
pub grow_and : (u q : Bool) (es : List Entry) (x h : ℕ) (v : Value) → grow u (andb u q) es x h v ≡ grow u q es x h v
grow_and true q es x h v = refl
grow_and false q es x h v = refl

module _ (F : ℕ → Option Value) (x : ℕ) where
  -- `push` looks at the last entry; the sweep knows the value right before x
  module _ (a : List Entry) (l : Entry) (v : Value) (u : Upto F x (a ++ l ∷ [])) where
    ok : l.low ≤ l.high
    ok = (sound_right a (l ∷ []) u.sound).0

    under_x : l.high < x
    under_x = go (dec_lt l.high x)
      where
        go : Dec (l.high < x) → l.high < x
        go (yes p) = p
        go (no p) =
            absurd (none≢some _ _ (u.above l.high (omega arith))
            (value_right a l [] u.sound l.high ok ∙ val_in l [] l.high ok (omega arith)))

    before_is : (y : ℕ) → x ≡ y → (t : Bool) → eqb (suc l.high) x ≡ t → andb t (same_words l.value v) ≡ same_as (prev F y) v
    before_is zero e t q = absurd (omega (arith, under_x))
    before_is (suc y) e true q =
        let k : y ≡ l.high = omega (arith, eqb-true (suc l.high) x q) in
        rw (sym (u.below y (omega arith)), k, value_right a l [] u.sound l.high ok, val_in l [] l.high ok (omega arith))
    before_is (suc y) e false q =
        rw (
          sym (u.below y (omega arith)),
          value_right a l [] u.sound y (omega (arith, ok, under_x)),
          val_past l [] y
              (omega (arith, under_x, eqb-false (suc l.high) x q)),
        )

    grown : (h : ℕ) (t : Bool) → (t ≡ true → l.value ≡ v) → a ++ last t l x h v ≡ grow true t (a ++ l ∷ []) x h v
    grown h true k = sym (raise_snoc a l h v ∙ ap (λ (u : Value). a ++ entry l.low h u ∷ []) (sym (k refl)))
    grown h false k = sym (append_assoc a (l ∷ []) (entry x h v ∷ []))

  none_first : (v : Value) (y : ℕ) → x ≡ y → Upto F x [] → same_as (prev F y) v ≡ false
  none_first v zero e w = refl
  none_first v (suc y) e w = rw (sym (w.below y (omega arith)))

  -- a value that goes on has an entry to go on from
  pub joins_some : (es : List Entry) (v : Value) → Upto F x es → same_as (prev F x) v ≡ true → 0 < length es
  joins_some [] v u q = let z : ◌≡◌ {A = Bool} true false = sym q ∙ none_first v x refl u in absurd (true≢false z)
  joins_some (e ∷ es) v u q = omega arith

  push_grow : (es : List Entry) (h : ℕ) (v : Value) → Upto F x es → push es x h v ≡ grow true (same_as (prev F x) v) es x h v
  push_grow es h v u = go (ending es) u
    where
      go : {fs : List Entry} → Ended fs → Upto F x fs → push fs x h v ≡ grow true (same_as (prev F x) v) fs x h v
      go empty w = rw (none_first v x refl w)
      go (ended a l) w =
          let b = before_is a l v w x refl (eqb (suc l.high) x) refl in
          push_snoc a l x h v ∙ ap (λ (t : Bool). a ++ last t l x h v) b
          ∙ grown a l v w h (same_as (prev F x) v) (λ e. words_true l.value v (and_true (eqb (suc l.high) x) (same_words l.value v) (b ∙ e)).1)

  pub grow_step : (es : List Entry) (h : ℕ) (v : Value) (b : Bool) → x ≤ h → Upto F x es → ((y : ℕ) → x ≤ y → y ≤ h → F y ≡ shown b v)
      → Upto F (suc h) (grow b (same_as (prev F x) v) es x h v)
  grow_step es h v b le u k = go b k (step F x h le es u (λ y p q. k y p q ∙ sym (k x (omega arith) le)))
    where
      go : (b : Bool) → ((y : ℕ) → x ≤ y → y ≤ h → F y ≡ shown b v) → Upto F (suc h) (extend es x h (F x))
          → Upto F (suc h) (grow b (same_as (prev F x) v) es x h v)
      go false k s = rw (k x (omega arith) le) at s
      go true k s = rw push_grow at (rw (k x (omega arith) le) at s)

  -- what stands so far is no longer than the whole
  pub no_longer : (es fs : List Entry) → Upto F x es → ListOf F fs → length es ≤ length fs
  no_longer es fs u l =
      let k = start_bound (value_at es) es (lows fs) (record { sound = u.sound; names = λ y. refl }) from in
      omega (arith, length_lows fs)
    where
      agree : (y : ℕ) → y < x → value_at es y ≡ value_at fs y
      agree y p = u.below y p ∙ sym (l.names y)

      from : StartsIn (value_at es) (lows fs)
      from zero n v q = go (dec_lt zero x)
        where
          go : Dec (zero < x) → none ≡ some v
          go (yes p) = starts fs l.sound zero n v (sym (agree zero p) ∙ q)
          go (no p) = sym (u.above zero (omega arith)) ∙ q
      from (suc y) n v q = go (dec_lt (suc y) x)
        where
          go : Dec (suc y < x) → value_at es y ≡ some v
          go (yes p) = agree y (omega arith) ∙ starts fs l.sound (suc y) n v (sym (agree (suc y) p) ∙ q)
          go (no p) = absurd (none≢some _ _ (u.above (suc y) (omega arith)) q)
