-- Storing a result, and the outcomes of an operation by the tests of the code.
use mathlib.Core.Path.{◌≡◌, refl, sym, ◌∙◌, ap, ap₂}
use mathlib.Core.Bool.{Bool, true, false}
use mathlib.Core.List.{List, [], ◌∷◌}
use Prim.Native.Nat.{ℕ, zero, suc, ◌+◌, ◌*◌, ◌≤◌, ◌<◌}
use native.Mathlib.Omega.{arith}
use lib.Dec.{leb}
use lib.ListN.{length, get_or, drop, length-drop}
use borrow.Author.Tests.{leb-true, leb-false, le-ltb, lt-ltb}
use Rattle.entries.specs.Entries.{Entry}
use Rattle.answers.specs.declared.Reason.TheVariants.{Room}
use Rattle.answers.specs.declared.Refusal.{Refusal}
use Rattle.answers.specs.Answers.{Outcome, outcome, given, judged as judged_by}
use Rattle.answers.specs.Says.{at_place, refusal_says}
use Rattle.answers.proofs.Turns.{named}
use Rattle.blocks.specs.declared.Layout.{Layout}
use Rattle.blocks.specs.Blocks.{set_layout, map_layout, capacity, block_of, entries_of, verdict, SoundBlock, Lent, Shaped}
use Rattle.blocks.specs.Calls.{no_block, stored}
use Rattle.blocks.proofs.Judging.{verdict_sound, room_words}
use Rattle.blocks.proofs.Words.{items_shaped, items_length}
use Rattle.sweeps.specs.declared.Plan.{Plan}
use Rattle.sweeps.specs.Sweeps.{Inputs, Fit, result_of}
use Rattle.sweeps.proofs.Tables.{none_input, input, bounded}
use Rattle.operations.specs.declared.Layouts.{Layouts}
use Rattle.operations.specs.Calls.{from_two, from_one}
use Rattle.operations.specs.Steps.{many, AnyOk, StoreOk, Small, TwoFit, OneFit}

-- a result within the capacity has its words
pub has_room : (l : Layout) (L cap n : ℕ) → cap ≡ capacity l L → 0 < L → n ≤ cap → 1 + l.width * n ≤ L
has_room l L cap n e h k = room_words l L n h (omega arith)

-- a result stored, or refused for want of room, by the test of the code
module _ (position : ℕ) (l : Layout) (es : List Entry) (o : List ℕ) (cap : ℕ) (e : cap ≡ capacity l (length o)) (t : Bool) (q : t ≡ leb (length es) cap) where
  pub stored_yes : t ≡ true → (o' : List ℕ) → o' ≡ block_of (length o) es → outcome (given []) (o' ∷ []) ≡ stored position l o es
  stored_yes z o' b =
      let k : length es ≤ capacity l (length o) = omega (arith, leb-true (length es) cap (sym q ∙ z)) in
      rw (le-ltb (capacity l (length o)) (length es) k) (ap (λ (w : List ℕ). outcome (given []) (w ∷ [])) b)

  pub stored_no : t ≡ false → (f : Refusal) → f ≡ at_place Room position → outcome (refusal_says f) (o ∷ []) ≡ stored position l o es
  stored_no z f r =
      let k : capacity l (length o) < length es = omega (arith, leb-false (length es) cap (sym q ∙ z)) in
      rw (lt-ltb (capacity l (length o)) (length es) k) (named Room position r (o ∷ []))

-- a sound block's values have all their words
pub entries_shaped : (l : Layout) (w : List ℕ) → 2 ≤ l.width → SoundBlock l w → Shaped l.width (entries_of l.width w)
entries_shaped l w two b =
    items_shaped l.width two (get_or w 0 0) (drop 1 w) (omega (arith, room_words l (length w) (get_or w 0 0) b.some b.fits, length-drop 1 w))

-- the layouts of sets and of maps are small
pub set_small : Small set_layout
set_small = record { two = omega arith; four = omega arith; few = omega arith }

pub map_small : Small map_layout
map_small = record { two = omega arith; four = omega arith; few = omega arith }

-- how many items two inputs can make
small_mul : (k n : ℕ) → k ≤ 2 → k * n ≤ n + n
small_mul zero n h = omega arith
small_mul (suc zero) n h = omega arith
small_mul (suc (suc zero)) n h = omega arith
small_mul (suc (suc (suc k))) n h = absurd (omega arith)

pub count_small : (l : Layout) (w : List ℕ) → SoundBlock l w → l.limit < many → get_or w 0 0 < many
count_small l w b h = omega (arith, b.fits)

-- two judged inputs, and what was counted of them
module _ {t : ℕ} {l : Layouts} {weight : ℕ} (f : TwoFit t l weight) {a b : List ℕ} (sa : SoundBlock l.first a) (sb : SoundBlock l.second b)
    {n m : ℕ} (en : n ≡ get_or a 0 0) (em : m ≡ get_or b 0 0) where
  pub bound_fits : weight * n + m < many + many + many
  bound_fits = omega (
    arith,
    small_mul weight n f.small,
    count_small l.first a sa f.first.few,
    count_small l.second b sb f.second.few,
  )

  pub two_ok : (L : ℕ) → 0 < L → Lent a → Lent b
      → StoreOk (record { table = t; a = l.first.width; b = l.second.width; c = 2; out = l.out.width }) l.out.limit (weight * n + m) a b L
  two_ok L k wa wb = record {
    first = input sa f.first.two f.first.four wa;
    second = input sb f.second.two f.second.four wb;
    third = refl;
    fit = f.fit;
    most = omega (
      arith,
      f.bound (entries_of sa_width a) (entries_of sb_width b) sa.sound sb.sound (bounded sa_width a wa) (bounded sb_width b wb)
          (entries_shaped l.first a f.first.two sa) (entries_shaped l.second b f.second.two sb),
      ap₂ (λ (x y : ℕ). weight * x + y) (items_length sa_width (get_or a 0 0) (drop 1 a) ∙ sym en) (items_length sb_width (get_or b 0 0) (drop 1 b) ∙ sym em),
    );
    small = f.few;
    some = k;
  }
    where
      sa_width : ℕ
      sa_width = l.first.width

      sb_width : ℕ
      sb_width = l.second.width

-- one judged input
pub one_ok : {t : ℕ} {first out : Layout} → OneFit t first out → {a : List ℕ} → SoundBlock first a → {n : ℕ} → n ≡ get_or a 0 0 → (L : ℕ) → 0 < L → Lent a
    → StoreOk (record { table = t; a = first.width; b = 2; c = 2; out = out.width }) out.limit (n + 1) a (0 ∷ []) L
one_ok {t} {first} {out} f {a} sa {n} e L k wa = record {
  first = input sa f.from.two f.from.four wa;
  second = none_input 2 (omega arith) (omega arith);
  third = refl;
  fit = f.fit;
  most = omega (
    arith,
    f.bound (entries_of first.width a) sa.sound (bounded first.width a wa),
    items_length first.width (get_or a 0 0) (drop 1 a),
  );
  small = f.few;
  some = k;
}

-- the third input is none
module _ {plan : Plan} {limit bound : ℕ} {a b : List ℕ} {L : ℕ} (g : StoreOk plan limit bound a b L) where
  pub store_inputs : Inputs plan.a plan.b plan.c a b (0 ∷ [])
  store_inputs = record { first = g.first; second = g.second; third = rw g.third (none_input 2 (omega arith) (omega arith)) }

  pub store_fit : Fit plan.table plan.out plan.a plan.b plan.c
  store_fit = rw g.third g.fit

  pub store_most : length (result_of plan a b (0 ∷ [])) ≤ bound
  store_most = g.most

-- two ways to make the same entries of sound blocks have the same outcome
pub two_as : (first second out : Layout) (make by : List Entry → List Entry → List Entry) (w v o : List ℕ)
    → (SoundBlock first w → SoundBlock second v
    → make (entries_of first.width w) (entries_of second.width v) ≡ by (entries_of first.width w) (entries_of second.width v))
    → from_two first second out make w v o ≡ from_two first second out by w v o
two_as first second out make by w v o e = go (verdict first w) refl (verdict second v) refl
  where
    tail : List Entry → Outcome
    tail l = judged_by (no_block (length o)) 2 (o ∷ []) (stored 2 out o l)

    made : (List Entry → List Entry → List Entry) → Outcome
    made f = tail (f (entries_of first.width w) (entries_of second.width v))

    go : (j : ℕ) → verdict first w ≡ j → (k : ℕ) → verdict second v ≡ k
        → judged_by j 0 (o ∷ []) (judged_by k 1 (o ∷ []) (made make)) ≡ judged_by j 0 (o ∷ []) (judged_by k 1 (o ∷ []) (made by))
    go (suc j) p k q = refl
    go zero p (suc k) q = refl
    go zero p zero q = ap tail (e (verdict_sound first w p) (verdict_sound second v q))

pub one_as : (first out : Layout) (make by : List Entry → List Entry) (w o : List ℕ) → make (entries_of first.width w) ≡ by (entries_of first.width w)
    → from_one first out make w o ≡ from_one first out by w o
one_as first out make by w o e =
    ap (λ (l : List Entry). judged_by (verdict first w) 0 (o ∷ []) (judged_by (no_block (length o)) 1 (o ∷ []) (stored 1 out o l))) e

module _ {plan : Plan} {a b : List ℕ} (g : AnyOk plan a b) where
  pub any_inputs : Inputs plan.a plan.b plan.c a b (0 ∷ [])
  any_inputs = record { first = g.first; second = g.second; third = rw g.third (none_input 2 (omega arith) (omega arith)) }

  pub any_fit : Fit plan.table plan.out plan.a plan.b plan.c
  any_fit = rw g.third g.fit
