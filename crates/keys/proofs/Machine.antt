-- What the machine computes of keys, from the tests of the code. What it reads back from the bits of a parameter is the parameter.
use mathlib.Core.Path.{◌≡◌, refl, ap, ◌∙◌}
use mathlib.Core.Bool.{true, false}
use Prim.Native.Nat.{ℕ, suc, ◌+◌, ◌-◌, ◌^◌, ◌≤◌, ◌<◌}
use native.Mathlib.Omega.{arith}
use borrow.Author.Tests.{lt-ltb, le-ltb, ltb-true}
use lib.Dec.{T}
use lib.IntN.{ℤ, pos, negsuc, ◌-ℤ◌, ◌+ℤ◌, nat_abs}
use lib.Signed.{lt_z, non_neg}
use mir.Syntax.{w64}
use mir.Val.{SFits, Fits, to_z, of_z}
use mir.Facts.{to_z-of_z, to_z_pos}
use Rattle.keys.specs.Keys.{half, IsKey, word_of, key_of, turned}
use Rattle.keys.proofs.Shift.{word_back, word_bound, key_bound}

abbrev least : ℤ
least = negsuc 9223372036854775807

-- a key as the machine reads it
abbrev read : ℤ → ℤ
read z = to_z w64 (of_z w64 z)

pub read_key : (k : ℤ) → IsKey k → to_z w64 (of_z w64 k) ≡ k
read_key k h = to_z-of_z {w = w64} (record { sfits = h })

pub read_word : (k : ℤ) → IsKey k → word_of (to_z w64 (of_z w64 k)) ≡ word_of k
read_word k h = ap word_of (read_key k h)

-- the key that code made of a word says that word
pub key_says : (x : ℕ) → x < 2 ^ 64 → (k : ℤ) → k ≡ key_of x → word_of (to_z w64 (of_z w64 k)) ≡ x
key_says x l k e = ap (λ (z : ℤ). word_of (to_z w64 (of_z w64 z))) e ∙ read_word (key_of x) (key_bound x l) ∙ word_back x

-- the word of a negative key, and of one that is not
record Negative (k : ℤ) : Type 0 where
  sum : k -ℤ least ≡ pos (word_of k)
  small : word_of k < half

negative : (k : ℤ) → IsKey k → lt_z k (pos 0) ≡ true → Negative k
negative (pos n) h t = let a : n < 0 = ltb-true n 0 t in absurd (omega arith)
negative (negsuc n) h t = record { sum = simp (le-ltb (2 ^ 63) (suc n) h); small = omega arith }

record Positive (k : ℤ) : Type 0 where
  signless : non_neg k ≡ true
  sum : nat_abs k + half ≡ word_of k

positive : (k : ℤ) → IsKey k → lt_z k (pos 0) ≡ false → Positive k
positive (pos n) h t =
    record { signless = refl; sum = refl }
positive (negsuc n) h t = let z : ◌≡◌ {A = ℕ} 0 1 = cc in absurd (omega arith)

-- the word of a key
module _ (k : ℤ) (f : SFits w64 k) where
  neg : lt_z (read k) (pos 0) ≡ true → Negative k
  neg t = negative k f.sfits (rw (to_z-of_z f) at t)

  non : lt_z (read k) (pos 0) ≡ false → Positive k
  non t = positive k f.sfits (rw (to_z-of_z f) at t)

  raised : lt_z (read k) (pos 0) ≡ true → read k -ℤ least ≡ pos (word_of k)
  raised t = rw (to_z-of_z f) (neg t).sum

  pub raised_fits : lt_z (read k) (pos 0) ≡ true → SFits w64 (read k -ℤ least)
  raised_fits t = rw (raised t) (record { sfits = (neg t).small })

  raised_read : lt_z (read k) (pos 0) ≡ true → read (read k -ℤ least) ≡ pos (word_of k)
  raised_read t = rw (raised t) (to_z_pos w64 (neg t).small)

  pub raised_cast : lt_z (read k) (pos 0) ≡ true → T (non_neg (read (read k -ℤ least))) × Fits w64 (nat_abs (read (read k -ℤ least)))
  raised_cast t = rw (raised_read t) (tt, record { fits = omega (arith, (neg t).small) })

  pub raised_word : lt_z (read k) (pos 0) ≡ true → nat_abs (read (read k -ℤ least)) ≡ word_of k
  raised_word t = ap nat_abs (raised_read t)

  pub plain_cast : lt_z (read k) (pos 0) ≡ false → T (non_neg (read k)) × Fits w64 (nat_abs (read k))
  plain_cast t =
      let p = non t in
      rw (to_z-of_z f, p.signless) (tt, record { fits = omega (arith, p.sum, word_bound k f.sfits) })

  pub plain_fits : lt_z (read k) (pos 0) ≡ false → Fits w64 (nat_abs (read k) + 9223372036854775808)
  plain_fits t = let p = non t in rw (to_z-of_z f) (record { fits = omega (arith, p.sum, word_bound k f.sfits) })

  pub plain_word : lt_z (read k) (pos 0) ≡ false → nat_abs (read k) + 9223372036854775808 ≡ word_of k
  plain_word t = rw (to_z-of_z f) (non t).sum

-- the key of a word
module _ (x : ℕ) where
  lowered : x < half → to_z w64 x +ℤ least ≡ key_of x
  lowered h = rw (to_z_pos w64 h) (simp (lt-ltb x half h))

  pub lowered_fits : x < half → SFits w64 (to_z w64 x +ℤ least)
  lowered_fits h = rw (lowered h) (record { sfits = key_bound x (omega arith) })

  pub lowered_key : x < half → read (to_z w64 x +ℤ least) ≡ key_of x
  lowered_key h = rw (lowered h) (to_z-of_z {w = w64} (record { sfits = key_bound x (omega arith) }))

  pub rest_key : half ≤ x → x < 2 ^ 64 → to_z w64 (x - half) ≡ key_of x
  rest_key h l = rw (le-ltb x half h) (to_z_pos w64 (omega arith))

-- a turn of a word
pub turned_low : (x : ℕ) → x < half → x + 9223372036854775808 ≡ turned x
turned_low x h = rw (lt-ltb x half h)

pub turned_high : (x : ℕ) → half ≤ x → x < 2 ^ 64 → x - 9223372036854775808 ≡ turned x
turned_high x h l = rw (le-ltb x half h, lt-ltb x (2 ^ 64) l)
