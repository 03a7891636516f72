-- Soundness as a test, and the verdict on a block of words: 0 sound, else the number of its refusal.
use mathlib.Core.Path.{◌≡◌, refl, sym}
use mathlib.Core.Bool.{Bool, true, false, not}
use mathlib.Core.List.{List, [], ◌∷◌}
use Prim.Native.Nat.{ℕ, suc, ◌+◌, ◌*◌, ◌-◌, ◌/◌, ◌≤◌, ◌<◌}
use native.Mathlib.Omega.{arith}
use native.Mathlib.Nat.{mul-le-mul_left, mul_comm, div-mul-le_self}
use lib.Dec.{leb, ltb, eqb}
use borrow.Author.Tests.{ltb-true, ltb-false, leb-true, eqb-true, eqb-false, lt-ltb, le-leb, le-ltb, ne_eqb, eq-eqb}
use lib.ListN.{length, get_or}
use Rattle.entries.specs.Entries.{Entry, After, Link, Sound}
use Rattle.entries.specs.Build.{pick, andb, same_words}
use Rattle.entries.proofs.Values.{true≢false, and_true, words_true, words_false}
use Rattle.answers.specs.Answers.{last_number}
use Rattle.blocks.specs.declared.Layout.{Layout}
use Rattle.blocks.specs.Blocks.{afterb, linkb, fine, soundb, verdict, SoundBlock, entries_of, capacity}

not_and : (t u : Bool) → not (andb t u) ≡ true → t ≡ true → u ≡ false
not_and true true h e = sym h
not_and true false h e = refl
not_and false u h e = absurd (true≢false (sym e))

after_true : (p q : Entry) → afterb p q ≡ true → After p q
after_true p q h =
    let k = and_true (ltb p.high q.low) (not (andb (eqb q.low (suc p.high)) (same_words p.value q.value))) h in (
      ltb-true p.high q.low k.0,
      λ e. words_false p.value q.value
          (not_and (eqb q.low (suc p.high)) (same_words p.value q.value) k.1 (eq-eqb q.low (suc p.high) e)),
    )

true_after : (p q : Entry) → After p q → afterb p q ≡ true
true_after p q h = rw (lt-ltb p.high q.low h.0) (go (eqb q.low (suc p.high)) refl (same_words p.value q.value) refl)
  where
    go : (t : Bool) → eqb q.low (suc p.high) ≡ t → (u : Bool) → same_words p.value q.value ≡ u → not (andb t u) ≡ true
    go false e u f = refl
    go true e false f = refl
    go true e true f = absurd (h.1 (eqb-true q.low (suc p.high) e) (words_true p.value q.value f))

-- [B4, B5] the test of soundness holds exactly of sound lists
pub sound_true : (es : List Entry) → soundb es ≡ true → Sound es
sound_true [] h = tt
sound_true (e ∷ es) h =
    let k = and_true (fine e es) (soundb es) h in
    let m = and_true (leb e.low e.high) (linkb e es) k.0 in
    (leb-true e.low e.high m.0, link es m.1, sound_true es k.1)
  where
    link : (fs : List Entry) → linkb e fs ≡ true → Link e fs
    link [] g = tt
    link (f ∷ fs) g = after_true e f g

pub true_sound : (es : List Entry) → Sound es → soundb es ≡ true
true_sound [] s = refl
true_sound (e ∷ es) s = rw (le-leb e.low e.high s.0, link es s.1) (true_sound es s.2)
  where
    link : (fs : List Entry) → Link e fs → linkb e fs ≡ true
    link [] l = refl
    link (f ∷ fs) l = true_after e f l

-- verdict 0 exactly of sound blocks
module _ (l : Layout) (w : List ℕ) where
  -- [R1, R2, R3] what is not refused is sound,
  pub verdict_sound : verdict l w ≡ 0 → SoundBlock l w
  unfolding verdict
  verdict_sound v = go (eqb (length w) 0) refl (ltb (capacity l (length w)) (get_or w 0 0)) refl (soundb (entries_of l.width w)) refl v
    where
      go : (a : Bool) → eqb (length w) 0 ≡ a → (b : Bool) → ltb (capacity l (length w)) (get_or w 0 0) ≡ b
          → (c : Bool) → soundb (entries_of l.width w) ≡ c → ◌≡◌ {A = ℕ} (pick a 1 (pick b 2 (pick c 0 3))) 0 → SoundBlock l w
      go true e b f c g q = absurd (omega arith)
      go false e true f c g q = absurd (omega arith)
      go false e false f false g q = absurd (omega arith)
      go false e false f true g q =
          record {
            some = let n : length w ≡ 0 → ⊥ = eqb-false (length w) 0 e in omega arith;
            fits = ltb-false (capacity l (length w)) (get_or w 0 0) f;
            sound = sound_true (entries_of l.width w) g;
          }

  -- [R1, R2, R3] and what is sound is not refused
  pub sound_verdict : SoundBlock l w → verdict l w ≡ 0
  unfolding verdict
  sound_verdict b =
      rw (
        ne_eqb (length w) 0 (λ e. omega (arith, b.some)),
        le-ltb (capacity l (length w)) (get_or w 0 0) b.fits,
        true_sound (entries_of l.width w) b.sound,
      )

  -- a block's refusals are 1, 2, 3
  pub verdict_most : verdict l w ≤ 3
  unfolding verdict
  verdict_most = go (eqb (length w) 0) (ltb (capacity l (length w)) (get_or w 0 0)) (soundb (entries_of l.width w))
    where
      go : (a b c : Bool) → pick a 1 (pick b 2 (pick c 0 3)) ≤ 3
      go true b c = omega arith
      go false true c = omega arith
      go false false true = omega arith
      go false false false = omega arith

  pub verdict_small : verdict l w ≤ last_number
  verdict_small = omega (arith, verdict_most)

-- [B3] a count within the capacity has its words
pub room_words : (l : Layout) (L n : ℕ) → 0 < L → n ≤ capacity l L → 1 + l.width * n ≤ L
room_words l L n p h =
    let k : n ≤ (L - 1) / l.width = omega arith in
    omega (arith, mul-le-mul_left l.width k, div-mul-le_self (L - 1) l.width, mul_comm l.width ((L - 1) / l.width))
