-- Signed keys, from -2^63 to 2^63 - 1, by the words that stand for them in a block: a shift of the number line that keeps the order.
use Rattle.std.specs.Prelude.{cond, ℕ, suc, ◌+◌, ◌-◌, ◌^◌, ◌<◌, ltb, ℤ, pos, negsuc, ◌-ℤ◌, Option, Some, None}
use Rattle.std.specs.Int.Signed.{mag}

-- 2^63: how far a key is shifted
abbrev pub half : ℕ
half = 2 ^ 63

-- [K1] a number is a key if it is from -2^63 to 2^63 - 1: `mag` is n for n and for -(n + 1)
abbrev pub IsKey : ℤ → Type 0
IsKey k = mag k < half

-- [K1, K2, K3] the word of a key: the key plus 2^63. A call on keys is the plain call at their words.
abbrev pub word_of : ℤ → ℕ
word_of (pos n) = n + half
word_of (negsuc n) = half - suc n

-- [K1] the key of a word: the word less 2^63
abbrev pub key_of : ℕ → ℤ
key_of x = cond (ltb x half) (negsuc (half - suc x)) (pos (x - half))

-- [K5] «the difference of two keys, first less second, exact where it fits a signed word and answered "too far" exactly where it doesn't»
abbrev pub apart_of : ℤ → ℤ → Option ℤ
apart_of a b = cond (ltb (mag (a -ℤ b)) half) (Some (a -ℤ b)) None

-- [K6] a key in two's complement, which is a number of 64 bits too: below 0, the key plus 2^64
abbrev pub twos_of : ℤ → ℕ
twos_of (pos n) = n
twos_of (negsuc n) = 2 ^ 64 - suc n

-- [K6] From a key's two's complement to its word, and from its word to its two's complement: the two halves of the 64-bit numbers change
-- places. A number that is no word stays.
abbrev pub turned : ℕ → ℕ
turned x = cond (ltb x half) (x + half) (cond (ltb x (2 ^ 64)) (x - half) x)
