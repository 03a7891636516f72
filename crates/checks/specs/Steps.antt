-- What the steps of the code promise each other. No public promise names these.
use Rattle.std.specs.Prelude.{ℕ, ◌+◌, ◌*◌, ◌/◌, ◌%◌, ◌^◌, ◌<◌, ◌≡◌, List, ◌∷◌, ◌++◌}
use Rattle.std.specs.Int.Bits.{bit_xor}
use Rattle.numbers.specs.Numbers.{be8}
use Rattle.checks.specs.Check.{fletcher, crc_from}
use Rattle.checks.specs.declared.Sums.{Sums}

-- the check that goes on over ys from the sums a and b, taken at their remainders; and from the code's sums
abbrev pub from : ℕ → ℕ → List ℕ → ℕ
from a b ys = fletcher (a % 255) (b % 255) ys

abbrev pub go_on : Sums → List ℕ → ℕ
go_on s ys = from s.a s.b ys

-- the sums over the kind alone
pub record Begun (kind : ℕ) (r : Sums) : Type 0 where
  pub on : (ys : List ℕ) → fletcher 0 0 (kind ∷ ys) ≡ go_on r ys
  pub first : r.a < 256
  pub second : r.b < 256

-- sums to which more can be added
pub record Small (s : Sums) : Type 0 where
  pub first : s.a < 2 ^ 40
  pub second : s.b < 2 ^ 50

-- the sums with the bytes xs behind
pub record After (xs : List ℕ) (s r : Sums) : Type 0 where
  pub on : (ys : List ℕ) → go_on s (xs ++ ys) ≡ go_on r ys
  pub first : r.a < s.a + 2 ^ 33
  pub second : r.b < s.b + 8 * s.a + 2 ^ 36

-- what 4 bytes add to the second sum, up to multiples of 255, by their number
unfoldable pub weight4 : ℕ → ℕ
weight4 v = v + v / 256 + v / 65536 + v / 16777216

-- the CRC that goes on over ys from a word u that stands for all bytes before: from register 0, over the word's bytes
unfoldable pub on_word : ℕ → List ℕ → ℕ
on_word u ys = crc_from 0 (be8 u ++ ys)

-- how often the fourth power of the polynomial goes into a word with 64 zeros behind
unfoldable pub carry : ℕ → ℕ
carry u =
    let v = bit_xor u (u / 4294967296) in
    bit_xor (bit_xor v (v / 65536)) (v / 17592186044416)

-- the word r stands for register s and the bytes of v behind; and for the word u and the bytes of v behind
abbrev pub Joined : ℕ → ℕ → ℕ → Type 0
Joined s v r = (ys : List ℕ) → crc_from s (be8 v ++ ys) ≡ on_word r ys

abbrev pub Mixed : ℕ → ℕ → ℕ → Type 0
Mixed u v r = (ys : List ℕ) → on_word u (be8 v ++ ys) ≡ on_word r ys
