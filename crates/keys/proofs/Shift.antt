-- The shift of the number line: it keeps the order, each way undoes the other, and the next key has the next word.
use mathlib.Core.Path.{◌≡◌, refl, ap, sym, ◌∙◌}
use mathlib.Core.Bool.{Bool, true, false}
use Prim.Native.Nat.{ℕ, zero, suc, ◌+◌, ◌-◌, ◌^◌, ◌≤◌, ◌<◌}
use native.Mathlib.Omega.{arith}
use borrow.Author.Tests.{lt-ltb, le-ltb, le-leb, lt-leb, ltb-true, ltb-false}
use lib.Dec.{ltb, leb}
use lib.IntN.{ℤ, pos, negsuc, ◌+ℤ◌}
use lib.Signed.{lt_z, le_z}
use Rattle.keys.specs.Keys.{half, IsKey, word_of, key_of, twos_of, turned}

-- a number is below another or it is not
lower : (x y : ℕ) {P : Type 0} → (x < y → P) → (y ≤ x → P) → P
lower x y {P} f g = go (ltb x y) refl
  where
    go : (t : Bool) → ltb x y ≡ t → P
    go true e = f (ltb-true x y e)
    go false e = g (ltb-false x y e)

-- [K1] the key of the word of a key
pub key_back : (k : ℤ) → IsKey k → key_of (word_of k) ≡ k
key_back (pos n) h = simp (le-ltb (n + half) half (omega arith)) (ap pos (omega arith))
key_back (negsuc n) h = simp (lt-ltb (half - suc n) half (omega arith)) (ap negsuc (omega arith))

-- [K1] the word of the key of a word: so each number of 0..M is the word of one key
pub word_back : (x : ℕ) → word_of (key_of x) ≡ x
word_back x = lower x half (λ h. rw (lt-ltb x half h) (omega arith)) (λ h. rw (le-ltb x half h) (omega arith))

pub word_bound : (k : ℤ) → IsKey k → word_of k < 2 ^ 64
word_bound (pos n) h = omega arith
word_bound (negsuc n) h = omega arith

pub key_bound : (x : ℕ) → x < 2 ^ 64 → IsKey (key_of x)
key_bound x l = lower x half (λ h. rw (lt-ltb x half h) (omega arith)) (λ h. rw (le-ltb x half h) (omega arith))

-- [K1] two keys with one word are one key
pub word_only : (k l : ℤ) → IsKey k → IsKey l → word_of k ≡ word_of l → k ≡ l
word_only k l h g e = rw (← key_back k h, ← key_back l g, e)

-- [K1] below, of keys and of their words
pub below_words : (a b : ℤ) → IsKey a → IsKey b → lt_z a b ≡ true → word_of a < word_of b
below_words (pos m) (pos n) h g e = let k = ltb-true m n e in omega arith
below_words (pos m) (negsuc n) h g e = let z : ◌≡◌ {A = ℕ} 0 1 = cc in absurd (omega arith)
below_words (negsuc m) (pos n) h g e = omega arith
below_words (negsuc m) (negsuc n) h g e = let k = ltb-true n m e in omega arith

pub above_words : (a b : ℤ) → IsKey a → IsKey b → lt_z a b ≡ false → word_of b ≤ word_of a
above_words (pos m) (pos n) h g e = let k = ltb-false m n e in omega arith
above_words (pos m) (negsuc n) h g e = omega arith
above_words (negsuc m) (pos n) h g e = let z : ◌≡◌ {A = ℕ} 0 1 = cc in absurd (omega arith)
above_words (negsuc m) (negsuc n) h g e = let k = ltb-false n m e in omega arith

-- two tests agree where each follows from the other
same_tests : (a b c d : ℕ) → (a ≤ b → c ≤ d) → (b < a → d < c) → leb a b ≡ leb c d
same_tests a b c d f g =
    lower b a (λ h. lt-leb a b h ∙ sym (lt-leb c d (g h))) (λ h. le-leb a b h ∙ sym (le-leb c d (f h)))

-- [K1] k is at most l exactly if the word of k is at most the word of l
pub order_kept : (k l : ℤ) → IsKey k → IsKey l → le_z k l ≡ leb (word_of k) (word_of l)
order_kept (pos m) (pos n) h g = same_tests m n (m + half) (n + half) (λ p. omega arith) (λ p. omega arith)
order_kept (pos m) (negsuc n) h g = sym (lt-leb (m + half) (half - suc n) (omega arith))
order_kept (negsuc m) (pos n) h g = sym (le-leb (half - suc m) (n + half) (omega arith))
order_kept (negsuc m) (negsuc n) h g = same_tests n m (half - suc m) (half - suc n) (λ p. omega arith) (λ p. omega arith)

-- [K1] the word of the next key is the next word
pub next_word : (k : ℤ) → IsKey k → word_of (k +ℤ pos 1) ≡ word_of k + 1
next_word (pos n) h = omega arith
next_word (negsuc zero) h = refl
next_word (negsuc (suc n)) h = simp (lt-ltb 1 (suc (suc n)) (omega arith)) (omega arith)

-- [K6] the word of a key and its two's complement are made from each other by one turn
pub turned_word : (k : ℤ) → IsKey k → turned (word_of k) ≡ twos_of k
turned_word (pos n) h = simp (le-ltb (n + half) half (omega arith), lt-ltb (n + half) (2 ^ 64) (omega arith)) (omega arith)
turned_word (negsuc n) h = simp (lt-ltb (half - suc n) half (omega arith)) (omega arith)

pub turned_twos : (k : ℤ) → IsKey k → turned (twos_of k) ≡ word_of k
turned_twos (pos n) h = simp (lt-ltb n half h)
turned_twos (negsuc n) h = simp (le-ltb (2 ^ 64 - suc n) half (omega arith), lt-ltb (2 ^ 64 - suc n) (2 ^ 64) (omega arith)) (omega arith)

-- [K6] two turns are none
pub turned_twice : (x : ℕ) → turned (turned x) ≡ x
turned_twice x =
    lower x half (λ h. rw (lt-ltb x half h) (simp (le-ltb (x + half) half (omega arith), lt-ltb (x + half) (2 ^ 64) (omega arith)) (omega arith)))
    (λ h. lower x (2 ^ 64)
    (λ l. rw (le-ltb x half h, lt-ltb x (2 ^ 64) l) (simp (lt-ltb (x - half) half (omega arith)) (omega arith)))
    (λ l. rw (le-ltb x half h, le-ltb x (2 ^ 64) l) (simp (le-ltb x half h, le-ltb x (2 ^ 64) l))))

pub turned_bound : (x : ℕ) → x < 2 ^ 64 → turned x < 2 ^ 64
turned_bound x l = lower x half (λ h. rw (lt-ltb x half h) (omega arith)) (λ h. rw (le-ltb x half h, lt-ltb x (2 ^ 64) l) (omega arith))
