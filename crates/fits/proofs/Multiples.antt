-- The multiples of 2^j: `aligned j` gives the least of them from a number on.
use mathlib.Core.Path.{◌≡◌, sym, ◌∙◌, ap, subst, fun_ext}
use Prim.Native.Nat.{ℕ, suc, ◌+◌, ◌*◌, ◌-◌, ◌/◌, ◌%◌, ◌^◌, ◌≤◌, ◌<◌}
use native.Mathlib.Omega.{arith}
use native.Mathlib.Decide.{ℕ_discrete}
use native.Mathlib.Nat.{mod-lt, mod-eq_of_lt, mul_comm, mul-suc, mul-le-mul_right}
use lib.Bits.{bit_and, and_mask}
use lib.Pow.{pow_pos, split, low, high, shr_mono}
use Rattle.fits.specs.Fits.{anywhere, aligned}
use Rattle.fits.specs.Starts.{LeastUp, Multiple}

-- a multiple at or above s that is less than 2^j away is the least one
pub aligned_is : (j s t : ℕ) → Multiple j t → s ≤ t → t < s + 2 ^ j → aligned j s ≡ t
unfolding aligned
aligned_is j s t m h l =
    let e = split t j in
    let q : s + (2 ^ j - 1) ≡ t / 2 ^ j * 2 ^ j + (s + (2 ^ j - 1) - t) = omega (arith, pow_pos j) in
    let b : s + (2 ^ j - 1) - t < 2 ^ j = omega (arith, pow_pos j) in
    ap (λ (n : ℕ). n / 2 ^ j * 2 ^ j) q ∙ ap (λ (n : ℕ). n * 2 ^ j) (high (t / 2 ^ j) j b) ∙ omega arith

above : (j s : ℕ) → s ≤ aligned j s
unfolding aligned
above j s =
    let n = s + (2 ^ j - 1) in
    let e = split n j in
    let r = mod-lt n (pow_pos j) in
    omega (arith, pow_pos j)

multiple : (j s : ℕ) → Multiple j (aligned j s)
unfolding aligned
multiple j s =
    let q = (s + (2 ^ j - 1)) / 2 ^ j in
    let z : q * 2 ^ j + 0 ≡ q * 2 ^ j = omega arith in
    ap (λ (n : ℕ). n % 2 ^ j) (sym z) ∙ low q j (pow_pos j)

rising : (j s t : ℕ) → s ≤ t → aligned j s ≤ aligned j t
unfolding aligned
rising j s t h = mul-le-mul_right (2 ^ j) (shr_mono j (omega (arith, h)))

-- [A3, A4] THE MULTIPLES OF 2^J are the allowed starts
pub multiples : (j : ℕ) → LeastUp (aligned j) (Multiple j)
multiples j = record {
  above = above j;
  allowed = multiple j;
  least = λ s t h m. omega (arith, rising j s t h, aligned_is j t t m (omega arith) (omega (arith, pow_pos j)));
}

-- [A6] 2^0 is 1, and every number is a multiple of it
pub every_start : aligned 0 ≡ anywhere
every_start = fun_ext (λ s. aligned_is 0 s s (omega arith) (omega arith) (omega arith))

-- HOW FAR AHEAD it is, as the code finds it: 2^j less one has j ones, and what n has in common with them is how far it is over a multiple
module _ (n j ones : ℕ) (o : ones + 1 ≡ 2 ^ j) where
  with_ones : (m : ℕ) → bit_and m ones ≡ m % 2 ^ j
  with_ones m = let z : ones ≡ 2 ^ j - 1 = omega (arith, o) in ap (bit_and m) z ∙ and_mask m j

  pub over_within : bit_and n ones ≤ ones
  over_within = omega (arith, o, with_ones n, mod-lt n (pow_pos j))

  -- n is a multiple, and nothing is left; or the next one is 2^j - n % 2^j above it
  pub ahead_is : n + bit_and (ones - bit_and n ones + 1) ones ≡ aligned j n
  ahead_is = ap (λ (m : ℕ). n + m) (with_ones (ones - bit_and n ones + 1)) ∙ go (ℕ_discrete (bit_and n ones) 0)
    where
      go : Dec (bit_and n ones ≡ 0) → n + (ones - bit_and n ones + 1) % 2 ^ j ≡ aligned j n
      go (yes z) =
          let m : 1 * 2 ^ j + 0 ≡ ones - bit_and n ones + 1 = omega (arith, o, z) in
          let w : (ones - bit_and n ones + 1) % 2 ^ j ≡ 0 = ap (λ (i : ℕ). i % 2 ^ j) (sym m) ∙ low 1 j (pow_pos j) in
          omega (arith, w, aligned_is j n n (sym (with_ones n) ∙ z) (omega arith) (omega (arith, pow_pos j)))
      go (no z) =
          let l : ones - bit_and n ones + 1 < 2 ^ j = omega (arith, o, over_within, z) in
          ap (λ (m : ℕ). n + m) (mod-eq_of_lt l)
          ∙ sym (aligned_is j n (n + (ones - bit_and n ones + 1)) next (omega arith) (omega (arith, l)))
        where
          next : Multiple j (n + (ones - bit_and n ones + 1))
          next =
              let q = n / 2 ^ j in
              let t : suc q * 2 ^ j + 0 ≡ n + (ones - bit_and n ones + 1) = omega
              (arith, split n j, with_ones n, over_within, o, mul_comm (suc q) (2 ^ j), mul-suc (2 ^ j) q, mul_comm (2 ^ j) q) in
              subst (Multiple j) t (low (suc q) j (pow_pos j))
