-- The two checks of a record, and which of them its mark asks for.
use Rattle.std.specs.Prelude.{ℕ, ◌+◌, ◌-◌, ◌*◌, ◌%◌, List, [], ◌∷◌, leb, eqb}
use Rattle.std.specs.Int.Bits.{bit_xor}
use Rattle.entries.specs.Build.{pick}

-- [Y2, C1] «the mark C5 3A»; «New records use mark C5 3B»
abbrev pub old_mark : ℕ
old_mark = 0xC53A

abbrev pub new_mark : ℕ
new_mark = 0xC53B

-- [Y11] «sums a and b start at 0; for each byte of kind and body, a becomes (a + byte) mod 255, then b becomes (b + a) mod 255. Written
-- b, then a.» The two sums as one number of 2 bytes.
unfoldable pub fletcher : ℕ → ℕ → List ℕ → ℕ
fletcher a b [] = b * 256 + a
fletcher a b (x ∷ xs) = fletcher ((a + x) % 255) ((b + (a + x) % 255) % 255) xs

-- [C1] «CRC-16 with polynomial 0x1021, start FFFF, no reflection, no final change»: a step for each binary digit, the highest first. The
-- register is doubled, and where its highest digit goes out, the polynomial comes in, by exclusive or.
unfoldable pub crc_bit : ℕ → ℕ
crc_bit s = pick (leb 32768 s) (bit_xor (s * 2 - 65536) 0x1021) (s * 2)

-- a byte comes into the high half of the register, and then its eight steps
unfoldable pub crc_byte : ℕ → ℕ → ℕ
crc_byte s x = crc_bit (crc_bit (crc_bit (crc_bit (crc_bit (crc_bit (crc_bit (crc_bit (bit_xor s (x * 256)))))))))

-- [C1] the bytes in turn, from a register on
unfoldable pub crc_from : ℕ → List ℕ → ℕ
crc_from s [] = s
crc_from s (x ∷ xs) = crc_from (crc_byte s x) xs

-- [C1] «start FFFF»; «no final change»: the register after the last byte is the check, and is written «high byte first», as every number is (Y1)
abbrev pub crc_start : ℕ
crc_start = 0xFFFF

abbrev pub crc : List ℕ → ℕ
crc xs = crc_from crc_start xs

-- [Y11, C1] the check of kind and body in a record with this mark: Fletcher's under the old mark, the CRC under the new
unfoldable pub check_of : ℕ → List ℕ → ℕ
check_of mark xs = pick (eqb mark old_mark) (fletcher 0 0 xs) (crc xs)
