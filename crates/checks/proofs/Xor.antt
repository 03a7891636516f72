-- Exclusive or is associative, and functions that keep it, as all steps of the CRC do, are the same if they agree at the powers of 2.
use Prim.Native.Nat.{ℕ, zero, suc, ◌+◌, ◌-◌, ◌*◌, ◌/◌, ◌%◌, ◌^◌, ◌<◌}
use mathlib.Core.List.{List, [], ◌∷◌}
use mathlib.Core.Path.{◌≡◌, refl, sym, ap, ap₂, ◌∙◌}
use native.Mathlib.Omega.{arith}
use native.Mathlib.Nat.{pow-suc, one-mul, add-zero}
use native.Mathlib.Decide.{dec_lt}
use lib.Arith.{bin_ind, digits_lt}
use lib.Pow.{high, low, pow-add, pow_pos}
use lib.Bits.{bit_xor, xor_add_and, xor_shr, xor_mod, xor_block, xor_shifted, xor_comm, xor_self, xor_zero_r}

abbrev Regroups : ℕ → Type 0
Regroups a = (b c : ℕ) → bit_xor (bit_xor a b) c ≡ bit_xor a (bit_xor b c)

-- the halves go by themselves, and a sum is as odd as the exclusive or
pub xor_assoc : (a : ℕ) → Regroups a
xor_assoc = bin_ind Regroups (λ b c. refl) turn
  where
    turn : (a : ℕ) → Regroups (a / 2) → Regroups a
    turn a half b c =
        let l = xor_shr (bit_xor a b) c 1 ∙ ap (λ (x : ℕ). bit_xor x (c / 2)) (xor_shr a b 1) in
        let r = xor_shr a (bit_xor b c) 1 ∙ ap (bit_xor (a / 2)) (xor_shr b c 1) in
        omega (arith, half (b / 2) (c / 2), xor_add_and (bit_xor a b) c, xor_add_and a b, xor_add_and a (bit_xor b c), xor_add_and b c)

xor_four : (a b c d : ℕ) → bit_xor (bit_xor a b) (bit_xor c d) ≡ bit_xor (bit_xor a c) (bit_xor b d)
xor_four a b c d =
    xor_assoc a b (bit_xor c d) ∙ ap (bit_xor a) (sym (xor_assoc b c d) ∙ ap (λ (x : ℕ). bit_xor x d) (xor_comm b c) ∙ xor_assoc c b d)
    ∙ sym (xor_assoc a c (bit_xor b d))

-- what is put on twice is off
pub xor_off : (a b : ℕ) → bit_xor (bit_xor a b) b ≡ a
xor_off a b = xor_assoc a b b ∙ ap (bit_xor a) (xor_self b) ∙ xor_zero_r a

-- a function that keeps exclusive or
pub record Linear (f : ℕ → ℕ) : Type 0 where
  pub keeps : (a b : ℕ) → f (bit_xor a b) ≡ bit_xor (f a) (f b)

pub lin_self : Linear (λ n. n)
lin_self = record { keeps = λ a b. refl }

module _ {f : ℕ → ℕ} (l : Linear f) where
  pub lin_div : (k : ℕ) → Linear (λ n. f n / 2 ^ k)
  lin_div k = record { keeps = λ a b. ap (λ (x : ℕ). x / 2 ^ k) (l.keeps a b) ∙ xor_shr (f a) (f b) k }

  pub lin_mod : (k : ℕ) → Linear (λ n. f n % 2 ^ k)
  lin_mod k = record { keeps = λ a b. ap (λ (x : ℕ). x % 2 ^ k) (l.keeps a b) ∙ xor_mod (f a) (f b) k }

  pub lin_mul : (k : ℕ) → Linear (λ n. f n * 2 ^ k)
  lin_mul k = record { keeps = λ a b. ap (λ (x : ℕ). x * 2 ^ k) (l.keeps a b) ∙ shift (f a) (f b) }
    where
      shift : (a b : ℕ) → bit_xor a b * 2 ^ k ≡ bit_xor (a * 2 ^ k) (b * 2 ^ k)
      shift a b = sym (simp add-zero at (xor_block k a b 0 0 (pow_pos k) (pow_pos k)))

  pub lin_xor : {g : ℕ → ℕ} → Linear g → Linear (λ n. bit_xor (f n) (g n))
  lin_xor {g} m = record { keeps = λ a b. ap₂ bit_xor (l.keeps a b) (m.keeps a b) ∙ xor_four (f a) (f b) (g a) (g b) }

  pub lin_on : {g : ℕ → ℕ} → Linear g → Linear (λ n. f (g n))
  lin_on {g} m = record { keeps = λ a b. ap f (m.keeps a b) ∙ l.keeps (g a) (g b) }

  lin_zero : f 0 ≡ 0
  lin_zero = l.keeps 0 0 ∙ xor_self (f 0)

-- the function at the powers of 2 below 2 ^ k
abbrev pub rows : (ℕ → ℕ) → ℕ → List ℕ
rows f zero = []
rows f (suc k) = f (2 ^ k) ∷ rows f k

-- THE SAME AT THE POWERS OF 2, the same at all numbers below 2 ^ k
module _ {f g : ℕ → ℕ} (l : Linear f) (m : Linear g) where
  one_more : (k : ℕ) → f (2 ^ k) ≡ g (2 ^ k) → ((n : ℕ) → n < 2 ^ k → f n ≡ g n) → (n : ℕ) → n < 2 ^ suc k → f n ≡ g n
  one_more k e below n h = go (dec_lt n (2 ^ k))
    where
      go : Dec (n < 2 ^ k) → f n ≡ g n
      go (yes p) = below n p
      go (no p) =
          let d : 2 ^ suc k ≡ 2 ^ k * 2 = pow-suc 2 k in
          let r = n - 2 ^ k in
          let b : r < 2 ^ k = omega arith in
          let s : n ≡ bit_xor (2 ^ k) r = omega (arith, one-mul (2 ^ k), simp one-mul at (xor_shifted 1 k r b)) in
          rw s (l.keeps (2 ^ k) r ∙ ap₂ bit_xor e (below r b) ∙ sym (m.keeps (2 ^ k) r))

  pub same : (k : ℕ) → rows f k ≡ rows g k → (n : ℕ) → n < 2 ^ k → f n ≡ g n
  same zero e n h = let z : n ≡ 0 = omega arith in rw z (lin_zero l ∙ sym (lin_zero m))
  same (suc k) e n h = one_more k (cc) (same k (cc)) n h

-- two numbers as one
abbrev pub at : ℕ → (ℕ → ℕ → ℕ) → ℕ → ℕ
at k f n = f (n / 2 ^ k) (n % 2 ^ k)

pub same_at : (j k : ℕ) (f g : ℕ → ℕ → ℕ) → Linear (at k f) → Linear (at k g) → rows (at k f) (j + k) ≡ rows (at k g) (j + k)
    → (a b : ℕ) → a < 2 ^ j → b < 2 ^ k → f a b ≡ g a b
same_at j k f g l m e a b h i =
    let w : a * 2 ^ k + b < 2 ^ (j + k) = rw (pow-add 2 j k) (digits_lt h i) in
    let p = high a k i in
    let q = low a k i in
    sym (ap₂ f p q) ∙ same l m (j + k) e (a * 2 ^ k + b) w ∙ ap₂ g p q
