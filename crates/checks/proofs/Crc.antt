-- The steps of the CRC as functions that keep exclusive or: one binary digit, and one byte, as the code takes it.
use Prim.Native.Nat.{ℕ, zero, suc, ◌-◌, ◌*◌, ◌/◌, ◌%◌, ◌<◌}
use mathlib.Core.Bool.{Bool, true, false}
use mathlib.Core.List.{List, [], ◌∷◌}
use mathlib.Core.Path.{◌≡◌, refl, sym, ap, ◌∙◌}
use native.Mathlib.Omega.{arith}
use lib.Bits.{bit_xor, xor_zero_r, xor_lt}
use lib.Dec.{leb}
use borrow.Author.Tests.{leb-true, leb-false}
use Rattle.numbers.specs.Numbers.{Bytes}
use Rattle.checks.specs.Check.{crc_bit, crc_byte, crc_from}
use Rattle.checks.proofs.Xor.{Linear, lin_self, lin_on, lin_div, lin_mod, lin_mul, lin_xor, same_at}

-- one digit: the highest, q, goes out, and brings the polynomial in
unfoldable pub bit : ℕ → ℕ
bit s = let q = s / 32768 in bit_xor (s % 32768 * 2) (bit_xor (q * 4096) (bit_xor (q * 32) q))

bit_is : (s : ℕ) → s < 65536 → crc_bit s ≡ bit s
unfolding crc_bit bit
bit_is s h = go (leb 32768 s) refl
  where
    go : (t : Bool) → leb 32768 s ≡ t → crc_bit s ≡ bit s
    go true e =
        let l = leb-true 32768 s e in
        let q : s / 32768 ≡ 1 = omega arith in
        let m : s % 32768 * 2 ≡ s * 2 - 65536 = omega arith in
        rw (e, q, m)
    go false e =
        let l = leb-false 32768 s e in
        let q : s / 32768 ≡ 0 = omega arith in
        let m : s % 32768 * 2 ≡ s * 2 = omega arith in
        rw (e, q, m) (sym (xor_zero_r (s * 2)))

bit_lt : (s : ℕ) → s < 65536 → bit s < 65536
unfolding bit
bit_lt s h =
    let q = s / 32768 in
    xor_lt 16 (s % 32768 * 2) (bit_xor (q * 4096) (bit_xor (q * 32) q)) (omega arith)
    (xor_lt 16 (q * 4096) (bit_xor (q * 32) q) (omega arith) (xor_lt 16 (q * 32) q (omega arith) (omega arith)))

-- k times
unfoldable pub times : ℕ → (ℕ → ℕ) → ℕ → ℕ
times zero f s = s
times (suc k) f s = f (times k f s)

bits_is : (k s : ℕ) → s < 65536 → (times k crc_bit s ≡ times k bit s) × (times k bit s < 65536)
unfolding times
bits_is zero s h = (refl, h)
bits_is (suc k) s h = let r = bits_is k s h in (ap crc_bit r.0 ∙ bit_is (times k bit s) r.1, bit_lt (times k bit s) r.1)

-- they keep exclusive or
pub lin_bit : Linear bit
unfolding bit
lin_bit =
    let q = lin_div lin_self 15 in
    lin_xor (lin_mul (lin_mod lin_self 15) 1) (lin_xor (lin_mul q 12) (lin_xor (lin_mul q 5) q))

pub lin_times : {f : ℕ → ℕ} → Linear f → (k : ℕ) → Linear (times k f)
unfolding times
lin_times l zero = lin_self
lin_times l (suc k) = lin_on l (lin_times l k)

-- one byte: the eight digits of the high half and the byte
pub byte_bits : (s x : ℕ) → s < 65536 → x < 256 → (crc_byte s x ≡ times 8 bit (bit_xor s (x * 256))) × (times 8 bit (bit_xor s (x * 256)) < 65536)
unfolding crc_byte times
byte_bits s x h l =
    bits_is 8 (bit_xor s (x * 256)) (xor_lt 16 s (x * 256) h (omega arith))

-- the same at once, as the code does it
unfoldable pub byte : ℕ → ℕ → ℕ
byte s x =
    let y = bit_xor (s / 256) x in
    let t = bit_xor y (y / 16) in
    bit_xor (bit_xor (bit_xor (s * 256 % 65536) (t * 4096 % 65536)) (t * 32 % 65536)) t

-- it keeps exclusive or
pub lin_byte : {f g : ℕ → ℕ} → Linear f → Linear g → Linear (λ n. byte (f n) (g n))
unfolding byte
lin_byte l m =
    let y = lin_xor (lin_div l 8) m in
    let t = lin_xor y (lin_div y 4) in
    lin_xor (lin_xor (lin_xor (lin_mod (lin_mul l 8) 16) (lin_mod (lin_mul t 12) 16)) (lin_mod (lin_mul t 5) 16)) t

-- AT ONCE IS DIGIT BY DIGIT: both keep exclusive or, of register and byte together, and agree at the 24 powers of 2
at_once : (s x : ℕ) → s < 65536 → x < 256 → times 8 bit (bit_xor s (x * 256)) ≡ byte s x
unfolding byte times bit
at_once =
    same_at 16 8 (λ s x. times 8 bit (bit_xor s (x * 256))) byte
    (lin_on (lin_times lin_bit 8) (lin_xor (lin_div lin_self 8) (lin_mul (lin_mod lin_self 8) 8)))
    (lin_byte (lin_div lin_self 8) (lin_mod lin_self 8)) refl

-- [C1] so the code's step of a byte is the definition's, and leaves a register
pub byte_is : (s x : ℕ) → s < 65536 → x < 256 → (byte s x ≡ crc_byte s x) × (byte s x < 65536)
byte_is s x h l = let r = byte_bits s x h l in let e = at_once s x h l in (sym (r.0 ∙ e), rw e at r.1)

-- bytes one after the other
unfoldable pub run : ℕ → List ℕ → ℕ
run s [] = s
run s (x ∷ xs) = run (byte s x) xs

pub run_is : (xs : List ℕ) → Bytes xs → (s : ℕ) → s < 65536 → (crc_from s xs ≡ run s xs) × (run s xs < 65536)
unfolding crc_from run
run_is [] b s h = (refl, h)
run_is (x ∷ xs) b s h =
    let r = byte_is s x h (b 0) in
    let on = run_is xs (λ i. b (suc i)) (byte s x) r.1 in
    (ap (λ (t : ℕ). crc_from t xs) (sym r.0) ∙ on.0, on.1)
