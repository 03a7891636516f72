-- Published and worked checks, by computing the definitions.
use mathlib.Core.List.{[], ◌∷◌}
use mathlib.Core.Path.{◌≡◌, refl}
use Rattle.entries.specs.Sets.{M}
use Rattle.numbers.specs.Numbers.{word_bytes}
use Rattle.checks.specs.Check.{old_mark, new_mark, fletcher, crc_bit, crc_byte, crc_from, check_of}

-- «The published example "abcde" gives C8 F0.»
abcde : check_of old_mark (97 ∷ 98 ∷ 99 ∷ 100 ∷ 101 ∷ []) ≡ 0xC8F0
unfolding check_of fletcher
abcde = refl

-- «("123456789" gives 29B1)»
nine_digits : check_of new_mark (49 ∷ 50 ∷ 51 ∷ 52 ∷ 53 ∷ 54 ∷ 55 ∷ 56 ∷ 57 ∷ []) ≡ 0x29B1
unfolding check_of crc_from crc_byte crc_bit
nine_digits = refl

-- case O: «range records for 0..0 and for 0..M both have check 11 10»; with the new mark they differ
both : check_of old_mark (0x10 ∷ word_bytes (0 ∷ 0 ∷ [])) ∷ check_of old_mark (0x10 ∷ word_bytes (0 ∷ M ∷ [])) ∷ [] ≡ 0x1110 ∷ 0x1110 ∷ []
unfolding check_of fletcher
both = refl

told_apart : check_of new_mark (0x10 ∷ word_bytes (0 ∷ 0 ∷ [])) ∷ check_of new_mark (0x10 ∷ word_bytes (0 ∷ M ∷ [])) ∷ [] ≡ 0xD9ED ∷ 0x7F0C ∷ []
unfolding check_of crc_from crc_byte crc_bit
told_apart = refl
