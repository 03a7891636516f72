-- Which check a mark asks for, and the CRC of bytes one behind the other.
use Prim.Native.Nat.{ℕ, ◌+◌, ◌<◌, ◌≤◌}
use mathlib.Core.List.{List, [], ◌∷◌, ◌++◌}
use mathlib.Core.Path.{◌≡◌, refl}
use native.Mathlib.Omega.{arith}
use native.Mathlib.Numerals.{add-one}
use lib.ListN.{length, get_or, drop, drop_of_length-le}
use lib.Seq.{drop-cons}
use borrow.Author.Tests.{eq-eqb, ne_eqb}
use Rattle.checks.specs.Check.{old_mark, new_mark, fletcher, crc_start, crc_byte, crc_from, crc, check_of}

pub check_old : (mark : ℕ) → mark ≡ old_mark → (xs : List ℕ) → check_of mark xs ≡ fletcher 0 0 xs
unfolding check_of
check_old mark e xs = rw (eq-eqb mark old_mark e)

pub check_new : (mark : ℕ) → (mark ≡ old_mark → ⊥) → (xs : List ℕ) → check_of mark xs ≡ crc xs
unfolding check_of
check_new mark n xs = rw (ne_eqb mark old_mark n)

-- the new mark is not the old one
pub new_old : new_mark ≡ old_mark → ⊥
new_old e = omega arith

pub crc_on : (s : ℕ) (xs ys : List ℕ) → crc_from s (xs ++ ys) ≡ crc_from (crc_from s xs) ys
unfolding crc_from
crc_on s [] ys = refl
crc_on s (x ∷ xs) ys = crc_on (crc_byte s x) xs ys

-- from the start over the kind, on
pub crc_kind : (kind : ℕ) (ys : List ℕ) → crc (kind ∷ ys) ≡ crc_from (crc_byte crc_start kind) ys
unfolding crc_from
crc_kind kind ys = refl

pub crc_none : (s : ℕ) → crc_from s [] ≡ s
unfolding crc_from
crc_none s = refl

-- the bytes of a list, from place i on
pub crc_step : (xs : List ℕ) (i s x : ℕ) → x ≡ get_or xs i 0 → i < length xs → crc_from s (drop i xs) ≡ crc_from (crc_byte s x) (drop (i + 1) xs)
unfolding crc_from
crc_step xs i s x e h = rw (add-one, drop-cons xs i 0, e)

pub crc_end : (xs : List ℕ) (i s : ℕ) → length xs ≤ i → crc_from s (drop i xs) ≡ s
crc_end xs i s h = rw drop_of_length-le (crc_none s)
