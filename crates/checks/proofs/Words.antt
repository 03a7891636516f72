-- The CRC over whole words: the word that stands for what came before, and the register that is left of it.
use Prim.Native.Nat.{ℕ, zero, suc, ◌*◌, ◌/◌, ◌%◌, ◌^◌, ◌<◌}
use mathlib.Core.List.{List, [], ◌∷◌, ◌++◌}
use mathlib.Core.Path.{◌≡◌, refl, sym, ap, ◌∙◌}
use native.Mathlib.Omega.{arith}
use lib.Bits.{bit_xor, xor_lt}
use lib.Dec.{lit<}
use Rattle.numbers.specs.Numbers.{Bytes, be2, be4, be8}
use Rattle.checks.specs.Check.{crc_from}
use Rattle.checks.specs.Steps.{carry, on_word, Joined, Mixed}
use Rattle.checks.proofs.Marks.{crc_on}
use Rattle.checks.proofs.Xor.{Linear, lin_self, lin_div, lin_mod, lin_mul, lin_xor, rows, at, same, same_at}
use Rattle.checks.proofs.Crc.{byte, lin_byte, run, run_is}

-- the bytes of a word are bytes
front : (x : ℕ) (xs : List ℕ) → x < 256 → Bytes xs → Bytes (x ∷ xs)
front x xs h b zero = h
front x xs h b (suc i) = b i

bytes2 : (v : ℕ) (ys : List ℕ) → v < 65536 → Bytes ys → Bytes (be2 v ++ ys)
bytes2 v ys h b = front (v / 256) (v % 256 ∷ ys) (omega arith) (front (v % 256) ys (omega arith) b)

bytes4 : (v : ℕ) (ys : List ℕ) → v < 4294967296 → Bytes ys → Bytes (be4 v ++ ys)
bytes4 v ys h b = bytes2 (v / 65536) (be2 (v % 65536) ++ ys) (omega arith) (bytes2 (v % 65536) ys (omega arith) b)

bytes8 : (v : ℕ) → v < 2 ^ 64 → Bytes (be8 v)
bytes8 v h = bytes4 (v / 4294967296) (be4 (v % 4294967296)) (omega arith) (bytes4 (v % 4294967296) [] (omega arith) (λ i. lit< tt))

-- the register after register s and the bytes of v: it keeps exclusive or, of both
unfoldable after : ℕ → ℕ → ℕ
after s v = run s (be8 v)

lin2 : {f g : ℕ → ℕ} → Linear f → Linear g → Linear (λ n. run (f n) (be2 (g n)))
unfolding run
lin2 l m = lin_byte (lin_byte l (lin_div m 8)) (lin_mod m 8)

lin4 : {f g : ℕ → ℕ} → Linear f → Linear g → Linear (λ n. run (f n) (be4 (g n)))
unfolding run
lin4 l m = lin2 (lin2 l (lin_div m 16)) (lin_mod m 16)

lin8 : {f g : ℕ → ℕ} → Linear f → Linear g → Linear (λ n. after (f n) (g n))
unfolding run after
lin8 l m = lin4 (lin4 l (lin_div m 32)) (lin_mod m 32)

lin_word : {f : ℕ → ℕ} → Linear f → Linear (λ n. after 0 (f n))
lin_word l = lin8 (record { keeps = λ a b. refl }) l

lin_carry : {f : ℕ → ℕ} → Linear f → Linear (λ n. carry (f n))
unfolding carry
lin_carry l = let v = lin_xor l (lin_div l 32) in lin_xor (lin_xor v (lin_div v 16)) (lin_div v 44)

-- of two numbers as one, the first and the word behind
first : Linear (λ n. n / 2 ^ 64)
first = lin_div lin_self 64

second : Linear (λ n. n % 2 ^ 64)
second = lin_mod lin_self 64

-- what the definition leaves
module _ (s v : ℕ) (h : s < 65536) (k : v < 2 ^ 64) where
  after_is : (crc_from s (be8 v) ≡ after s v) × (after s v < 65536)
  unfolding after
  after_is = run_is (be8 v) (bytes8 v k) s h

  after_on : (ys : List ℕ) → crc_from s (be8 v ++ ys) ≡ crc_from (after s v) ys
  after_on ys = crc_on s (be8 v) ys ∙ ap (λ (t : ℕ). crc_from t ys) after_is.0

-- a word that leaves the same register
stands : (s v r : ℕ) → s < 65536 → v < 2 ^ 64 → r < 2 ^ 64 → after s v ≡ after 0 r → Joined s v r
unfolding on_word
stands s v r h k m e ys = after_on s v h k ys ∙ ap (λ (t : ℕ). crc_from t ys) e ∙ sym (after_on 0 r (lit< tt) m ys)

-- the register comes into the first two bytes
abbrev join : ℕ → ℕ → ℕ
join s v = bit_xor v (s * 2 ^ 48 % 2 ^ 64)

-- the two leave the same at the powers of 2: computed, as the next two are
join_rows : rows (at 64 after) 80 ≡ rows (at 64 (λ s v. after 0 (join s v))) 80
unfolding after run byte
join_rows = refl

-- [C1] JOINED: the word stands for the register and the bytes of v
pub joined_law : (s v : ℕ) → s < 65536 → v < 2 ^ 64 → Joined s v (join s v)
joined_law s v h k =
    stands s v (join s v) h k (xor_lt 64 v (s * 2 ^ 48 % 2 ^ 64) k (omega arith))
    (same_at 16 64 after (λ s v. after 0 (join s v)) (lin8 first second) (lin_word (lin_xor second (lin_mod (lin_mul first 48) 64))) join_rows s v h k)

-- the word before comes into the word behind
abbrev mix : ℕ → ℕ → ℕ
mix q v = bit_xor (bit_xor (bit_xor v q) (q * 2 ^ 20 % 2 ^ 64)) (q * 2 ^ 48 % 2 ^ 64)

mix_lt : (q v : ℕ) → q < 2 ^ 64 → v < 2 ^ 64 → mix q v < 2 ^ 64
mix_lt q v h k =
    let a = q * 2 ^ 20 % 2 ^ 64 in
    let b = q * 2 ^ 48 % 2 ^ 64 in
    xor_lt 64 (bit_xor (bit_xor v q) a) b (xor_lt 64 (bit_xor v q) a (xor_lt 64 v q k h) (omega arith)) (omega arith)

mix_rows : rows (at 64 (λ u v. after (after 0 u) v)) 128 ≡ rows (at 64 (λ u v. after 0 (mix (carry u) v))) 128
unfolding after run byte carry
mix_rows = refl

mix_same : (u v : ℕ) → u < 2 ^ 64 → v < 2 ^ 64 → after (after 0 u) v ≡ after 0 (mix (carry u) v)
mix_same =
    let q = lin_carry first in
    same_at 64 64 (λ u v. after (after 0 u) v) (λ u v. after 0 (mix (carry u) v)) (lin8 (lin_word first) second)
    (lin_word (lin_xor (lin_xor (lin_xor second q) (lin_mod (lin_mul q 20) 64)) (lin_mod (lin_mul q 48) 64))) mix_rows

-- [C1] MIXED: the word stands for the words u and v
pub mixed_law : (u v q : ℕ) → u < 2 ^ 64 → v < 2 ^ 64 → q < 2 ^ 64 → q ≡ carry u → Mixed u v (mix q v)
unfolding on_word
mixed_law u v q h k l e ys =
    after_on 0 u (lit< tt) h (be8 v ++ ys)
    ∙ stands (after 0 u) v (mix q v) (after_is 0 u (lit< tt) h).1 k (mix_lt q v l k) (rw e (mix_same u v h k)) ys

-- the register that a word leaves
abbrev reduce : ℕ → ℕ
reduce q =
    let r = bit_xor (bit_xor (bit_xor q (q / 2 ^ 8)) (q / 2 ^ 22)) (q / 2 ^ 32) in
    let t = bit_xor (bit_xor (bit_xor r (r / 2 ^ 4)) (r / 2 ^ 11)) (r / 2 ^ 16) in
    let c = t % 2 ^ 16 in
    bit_xor (bit_xor c (c * 2 ^ 5 % 2 ^ 16)) (c * 2 ^ 12 % 2 ^ 16)

reduce_rows : rows (λ u. reduce (carry u)) 64 ≡ rows (after 0) 64
unfolding after run byte carry
reduce_rows = refl

reduce_same : (u : ℕ) → u < 2 ^ 64 → reduce (carry u) ≡ after 0 u
reduce_same =
    let q = lin_carry lin_self in
    let r = lin_xor (lin_xor (lin_xor q (lin_div q 8)) (lin_div q 22)) (lin_div q 32) in
    let t = lin_xor (lin_xor (lin_xor r (lin_div r 4)) (lin_div r 11)) (lin_div r 16) in
    let c = lin_mod t 16 in
    same (lin_xor (lin_xor c (lin_mod (lin_mul c 5) 16)) (lin_mod (lin_mul c 12) 16)) (lin_word lin_self) 64 reduce_rows

-- [C1] REDUCED: the register is the CRC of the word's bytes from register 0 on
pub reduced_law : (u q : ℕ) → u < 2 ^ 64 → q ≡ carry u → (reduce q ≡ on_word u []) × (reduce q < 65536)
unfolding on_word
reduced_law u q h e =
    let w = after_is 0 u (lit< tt) h in
    let i : reduce q ≡ after 0 u = rw e (reduce_same u h) in
    (i ∙ sym w.0, rw (← i) at w.1)
