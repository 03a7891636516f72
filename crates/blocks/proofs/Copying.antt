-- A part of a block written: cleared.
use mathlib.Core.Path.{◌≡◌, refl, ◌∙◌, ap}
use mathlib.Core.List.{List, ◌++◌}
use Prim.Native.Nat.{ℕ, ◌+◌, ◌-◌, ◌≤◌, ◌<◌}
use native.Mathlib.Omega.{arith}
use native.Mathlib.Decide.{dec_lt}
use lib.ListN.{length, get_or, replicate, take, drop, length-take, length-drop, length-replicate, length-append, get_or-replicate, get_or-eq_default}
use lib.Seq.{get_or-take, get_or-drop}
use Rattle.std.proofs.lemmas.List.{get_or_append_left, get_or-append_right}
use borrow.Rule.Slice.PartMut.{put_mid, post_of}
use Rattle.blocks.specs.Steps.{Cleared}

-- v put in the place of k words of w, from a on
module _ (w v : List ℕ) (a k : ℕ) (long : length v ≡ k) (room : a + k ≤ length w) where
  front : length (take a w) ≡ a
  front = omega (arith, length-take a w)

  after_long : length (post_of a k w) ≡ length w - (a + k)
  after_long = omega (arith, length-drop k (drop a w), length-drop a w)

  pub put_long : length (put_mid a k w v) ≡ length w
  put_long = omega (arith, length-append (take a w) (v ++ post_of a k w), length-append v (post_of a k w), front, after_long)

  pub put_before : (j : ℕ) → j < a → get_or (put_mid a k w v) j 0 ≡ get_or w j 0
  put_before j h = get_or_append_left (take a w) (v ++ post_of a k w) 0 j (omega (arith, front)) ∙ get_or-take a w j 0 h

  pub put_here : (j : ℕ) → a ≤ j → j < a + k → get_or (put_mid a k w v) j 0 ≡ get_or v (j - a) 0
  put_here j h l =
      get_or-append_right (take a w) (v ++ post_of a k w) a j 0 front h ∙ get_or_append_left v (post_of a k w) 0 (j - a) (omega arith)

  pub put_after : (j : ℕ) → a + k ≤ j → get_or (put_mid a k w v) j 0 ≡ get_or w j 0
  put_after j h =
      let e : a + (k + (j - a - k)) ≡ j = omega arith in
      get_or-append_right (take a w) (v ++ post_of a k w) a j 0 front (omega arith)
      ∙ get_or-append_right v (post_of a k w) k (j - a) 0 long (omega arith)
      ∙ get_or-drop k (drop a w) (j - a - k) 0 ∙ get_or-drop a w (k + (j - a - k)) 0 ∙ ap (λ (x : ℕ). get_or w x 0) e

-- the words from `from` on filled with 0
pub cleared_part : (w v : List ℕ) (from : ℕ) → from < length w
    → v ≡ replicate (length (take (length w - from) (drop from w))) 0 → Cleared w from (put_mid from (length w - from) w v)
cleared_part w v from h q =
    let m : length (take (length w - from) (drop from w)) ≡ length w - from =
    omega (arith, length-take (length w - from) (drop from w), length-drop from w) in
    let e : v ≡ replicate (length w - from) 0 = q ∙ ap (λ (k : ℕ). replicate k 0) m in
    let l : length v ≡ length w - from = ap length e ∙ length-replicate (length w - from) 0 in
    let r : from + (length w - from) ≤ length w = omega arith in
    record {
      same = put_long w v from (length w - from) l r;
      before = put_before w v from (length w - from) l r;
      zero = λ j g. elim (dec_lt j (length w)) [
        | yes q ↦ put_here w v from (length w - from) l r j g (omega arith) ∙ ap (λ (x : List ℕ). get_or x (j - from) 0) e
            ∙ get_or-replicate (length w - from) (j - from) 0 0 (omega arith)
        | no q ↦ get_or-eq_default (put_mid from (length w - from) w v) 0 (omega (arith, put_long w v from (length w - from) l r))
      ];
    }

-- nothing to fill
pub cleared_none : (w : List ℕ) (from : ℕ) → length w ≤ from → Cleared w from w
cleared_none w from h = record { same = refl; before = λ j l. refl; zero = λ j l. get_or-eq_default w 0 (omega arith) }
