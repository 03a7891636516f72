-- The difference of two keys: by their words, and exactly where it is a key.
use mathlib.Core.Path.{◌≡◌, refl, ap, ◌∙◌}
use mathlib.Core.Bool.{Bool, true, false}
use Prim.Native.Nat.{ℕ, zero, suc, ◌+◌, ◌-◌, ◌≤◌, ◌<◌}
use native.Mathlib.Omega.{arith}
use borrow.Author.Tests.{lt-ltb, le-ltb, ltb-true, ltb-false}
use lib.Dec.{ltb}
use lib.IntN.{ℤ, pos, negsuc, ◌-ℤ◌}
use lib.Signed.{mag}
use Rattle.std.specs.Prelude.{Some, None}
use Rattle.keys.specs.Keys.{half, IsKey, word_of, apart_of}

-- the difference of two keys is that of their words
apart_up : (a b : ℤ) → IsKey a → IsKey b → word_of b ≤ word_of a → a -ℤ b ≡ pos (word_of a - word_of b)
apart_up (pos m) (pos zero) h g o = ap pos (omega arith)
apart_up (pos m) (pos (suc n)) h g o = simp (le-ltb m (suc n) (omega arith)) (ap pos (omega arith))
apart_up (pos m) (negsuc n) h g o = ap pos (omega arith)
apart_up (negsuc m) (pos n) h g o = absurd (omega arith)
apart_up (negsuc m) (negsuc n) h g o = simp (le-ltb (suc n) (suc m) (omega arith)) (ap pos (omega arith))

apart_down : (a b : ℤ) → IsKey a → IsKey b → word_of a < word_of b → a -ℤ b ≡ negsuc (word_of b - word_of a - 1)
apart_down (pos m) (pos zero) h g o = absurd (omega arith)
apart_down (pos m) (pos (suc n)) h g o = simp (lt-ltb m (suc n) (omega arith)) (ap negsuc (omega arith))
apart_down (pos m) (negsuc n) h g o = absurd (omega arith)
apart_down (negsuc m) (pos zero) h g o = simp (lt-ltb 0 (suc m) (omega arith)) (ap negsuc (omega arith))
apart_down (negsuc m) (pos (suc n)) h g o = ap negsuc (omega arith)
apart_down (negsuc m) (negsuc n) h g o = simp (lt-ltb (suc n) (suc m) (omega arith)) (ap negsuc (omega arith))

-- the difference is a key exactly if the words are less than 2^63 apart upwards and at most 2^63 downwards
module _ (a b : ℤ) (h : IsKey a) (g : IsKey b) where
  pub near : word_of a < word_of b + half → word_of b ≤ word_of a + half → IsKey (a -ℤ b)
  near p q = go (ltb (word_of a) (word_of b)) refl
    where
      go : (t : Bool) → ltb (word_of a) (word_of b) ≡ t → IsKey (a -ℤ b)
      go true e = let k = ltb-true (word_of a) (word_of b) e in rw (apart_down a b h g k) (omega arith)
      go false e = let k = ltb-false (word_of a) (word_of b) e in rw (apart_up a b h g k) (omega arith)

  pub far_up : word_of b + half ≤ word_of a → half ≤ mag (a -ℤ b)
  far_up p = rw (apart_up a b h g (omega arith)) (omega arith)

  pub far_down : word_of a + half < word_of b → half ≤ mag (a -ℤ b)
  far_down p = rw (apart_down a b h g (omega arith)) (omega arith)

-- the answer, where the difference is a key and where it is none
pub by_key : (a b : ℤ) → IsKey (a -ℤ b) → Some (a -ℤ b) ≡ apart_of a b
by_key a b h = rw (lt-ltb (mag (a -ℤ b)) half h)

pub too_far : (a b : ℤ) → half ≤ mag (a -ℤ b) → None ≡ apart_of a b
too_far a b h = rw (le-ltb (mag (a -ℤ b)) half h)

-- [K5] some d exactly if d is the difference and a key; none exactly if the difference is no key
pub by_exactly : (a b d : ℤ) → apart_of a b ≡ Some d → (d ≡ a -ℤ b) × IsKey d
by_exactly a b d e = go (ltb (mag (a -ℤ b)) half) refl
  where
    go : (t : Bool) → ltb (mag (a -ℤ b)) half ≡ t → (d ≡ a -ℤ b) × IsKey d
    go true q =
        let k : Some (a -ℤ b) ≡ Some d = by_key a b (ltb-true (mag (a -ℤ b)) half q) ∙ e in
        let s : d ≡ a -ℤ b = cc in (s, rw s (ltb-true (mag (a -ℤ b)) half q))
    go false q =
        let k : None ≡ Some d = too_far a b (ltb-false (mag (a -ℤ b)) half q) ∙ e in
        absurd (let z : ◌≡◌ {A = ℕ} 0 1 = cc in omega arith)

pub too_far_exactly : (a b : ℤ) → apart_of a b ≡ None → IsKey (a -ℤ b) → ⊥
too_far_exactly a b e h = let k : Some (a -ℤ b) ≡ None = by_key a b h ∙ e in absurd (let z : ◌≡◌ {A = ℕ} 0 1 = cc in omega arith)
