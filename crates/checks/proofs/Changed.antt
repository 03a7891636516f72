-- A step of the CRC loses nothing: one changed byte changes the CRC.
use Prim.Native.Nat.{ℕ, zero, suc, ◌*◌, ◌/◌, ◌%◌, ◌<◌}
use mathlib.Core.List.{List, [], ◌∷◌}
use mathlib.Core.Path.{◌≡◌, refl, sym, ap, ◌∙◌}
use native.Mathlib.Omega.{arith}
use lib.Bits.{bit_xor, xor_comm, xor_lt}
use lib.Dec.{lit<}
use lib.ListN.{length, get_or, set}
use Rattle.numbers.specs.Numbers.{Bytes}
use Rattle.checks.specs.Check.{old_mark, crc_start, crc_byte, crc_from, check_of}
use Rattle.checks.proofs.Marks.{check_new}
use Rattle.checks.proofs.Xor.{Linear, lin_self, lin_on, lin_div, lin_mod, lin_mul, lin_xor, same, xor_off}
use Rattle.checks.proofs.Crc.{bit, lin_bit, times, lin_times, byte_bits}

-- a step of one digit taken back: the lowest, q, says whether the polynomial came in
unfoldable back : ℕ → ℕ
back s = let q = s % 2 in bit_xor (bit_xor (s / 2) (q * 32768)) (bit_xor (q * 2048) (q * 16))

lin_back : Linear back
unfolding back
lin_back =
    let q = lin_mod lin_self 1 in
    lin_xor (lin_xor (lin_div lin_self 1) (lin_mul q 15)) (lin_xor (lin_mul q 11) (lin_mul q 4))

-- eight steps taken back
undone : (s : ℕ) → s < 65536 → times 8 back (times 8 bit s) ≡ s
unfolding times bit back
undone = same (lin_on (lin_times lin_back 8) (lin_times lin_bit 8)) lin_self 16 refl

-- what leaves the same register came in the same
byte_undone : (s x t y : ℕ) → s < 65536 → x < 256 → t < 65536 → y < 256 → crc_byte s x ≡ crc_byte t y → bit_xor s (x * 256) ≡ bit_xor t (y * 256)
byte_undone s x t y h k l m e =
    sym (undone (bit_xor s (x * 256)) (xor_lt 16 s (x * 256) h (omega arith)))
    ∙ ap (times 8 back) (sym (byte_bits s x h k).0 ∙ e ∙ (byte_bits t y l m).0)
    ∙ undone (bit_xor t (y * 256)) (xor_lt 16 t (y * 256) l (omega arith))

byte_lt : (s x : ℕ) → s < 65536 → x < 256 → crc_byte s x < 65536
byte_lt s x h k = let r = byte_bits s x h k in rw r.0 r.1

-- what is put on both can go
off : (a b m : ℕ) → bit_xor a m ≡ bit_xor b m → a ≡ b
off a b m e = sym (xor_off a m) ∙ ap (λ (x : ℕ). bit_xor x m) e ∙ xor_off b m

-- two registers stay two
apart : (xs : List ℕ) → Bytes xs → (s t : ℕ) → s < 65536 → t < 65536 → crc_from s xs ≡ crc_from t xs → s ≡ t
unfolding crc_from
apart [] b s t h k e = e
apart (x ∷ xs) b s t h k e =
    let f = apart xs (λ i. b (suc i)) (crc_byte s x) (crc_byte t x) (byte_lt s x h (b 0)) (byte_lt t x k (b 0)) e in
    off s t (x * 256) (byte_undone s x t x h (b 0) k (b 0) f)

-- one changed byte, from any register on
changed : (xs : List ℕ) (j v s : ℕ) → Bytes xs → j < length xs → v < 256 → s < 65536 → crc_from s (set xs j v) ≡ crc_from s xs → v ≡ get_or xs j 0
unfolding crc_from
changed [] j v s b h k l e = absurd (omega arith)
changed (x ∷ xs) zero v s b h k l e =
    let f = apart xs (λ i. b (suc i)) (crc_byte s v) (crc_byte s x) (byte_lt s v l k) (byte_lt s x l (b 0)) e in
    let g = byte_undone s v s x l k l (b 0) f in
    let d = off (v * 256) (x * 256) s (xor_comm (v * 256) s ∙ g ∙ xor_comm s (x * 256)) in
    omega arith
changed (x ∷ xs) (suc j) v s b h k l e = changed xs j v (crc_byte s x) (λ i. b (suc i)) (omega arith) k (byte_lt s x l (b 0)) e

-- [C4] one changed byte under any mark but the old one
pub notices : (mark : ℕ) → (mark ≡ old_mark → ⊥) → (xs : List ℕ) (j v : ℕ) → Bytes xs → j < length xs → v < 256
    → check_of mark (set xs j v) ≡ check_of mark xs → v ≡ get_or xs j 0
notices mark n xs j v b h k e =
    changed xs j v crc_start b h k (lit< tt) (sym (check_new mark n (set xs j v)) ∙ e ∙ check_new mark n xs)
