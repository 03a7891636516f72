-- The exponent of the next block by counts of zeros.
use mathlib.Core.Path.{◌≡◌, subst}
use Prim.Native.Nat.{ℕ, suc, ◌+◌, ◌-◌, ◌^◌, ◌≤◌, ◌<◌, min}
use native.Mathlib.Decide.{dec_lt}
use native.Mathlib.Omega.{arith}
use lib.Pow.{pow_mono}
use lib.Count.{count_trailing_zeros, count_leading_zeros, leading_top, trailing_le}
use Rattle.entries.specs.Sets.{M, past_m}
use Rattle.tilings.specs.Prefixes.{whole}
use Rattle.tilings.proofs.Powers.{Largest, largest_one, below, smaller, trailing_divides, trailing_most}
use Rattle.prefixes.specs.Steps.{Fits}

-- THE LARGEST BLOCK at low, of left + 1 numbers
module _ (low left : ℕ) where
  fits : (r : ℕ) → Largest whole low (left + 1) r → Fits low left r
  fits r l = record { is = largest_one whole low (left + 1) r (omega arith) l; small = l.small; within = l.within }

  -- the zeros that low trails say how far its powers go
  by_zeros : 2 ^ count_trailing_zeros 64 low ≤ left + 1 → Fits low left (count_trailing_zeros 64 low)
  by_zeros h = fits (count_trailing_zeros 64 low) (record {
    divides = trailing_divides 64 low;
    within = h;
    small = trailing_le 64 low;
    most = λ f l a b. trailing_most 64 low f l a;
  })

  -- with every number of 0..M left, nothing else bounds it
  pub all_left : left ≡ M → Fits low left (count_trailing_zeros 64 low)
  all_left e = by_zeros (omega (arith, pow_mono (trailing_le 64 low)))

  module _ (h : left + 1 < past_m) where
    top : (j : ℕ) × (count_leading_zeros 64 (left + 1) + suc j ≡ 64) × (2 ^ j ≤ left + 1) × (left + 1 < 2 ^ suc j)
    top = leading_top 64 (left + 1) (omega arith) h

    is : 63 - count_leading_zeros 64 (left + 1) ≡ top.0
    is = omega (arith, top.1)

    by_low : count_trailing_zeros 64 low < 63 - count_leading_zeros 64 (left + 1) → Fits low left (count_trailing_zeros 64 low)
    by_low o = by_zeros (let m : count_trailing_zeros 64 low ≤ top.0 = omega (arith, is) in omega (arith, pow_mono m, top.2))

    by_left : 63 - count_leading_zeros 64 (left + 1) ≤ count_trailing_zeros 64 low → Fits low left (63 - count_leading_zeros 64 (left + 1))
    by_left o = fits (63 - count_leading_zeros 64 (left + 1)) (record {
      divides = smaller low (63 - count_leading_zeros 64 (left + 1)) (count_trailing_zeros 64 low) o (trailing_divides 64 low);
      within = rw is top.2;
      small = omega arith;
      most = λ f l a b. let m : f < suc top.0 = below f (suc top.0) (omega (arith, top.3)) in omega (arith, is);
    })

    -- the lesser of the two
    pub lesser : {r : ℕ} → r ≡ min (count_trailing_zeros 64 low) (63 - count_leading_zeros 64 (left + 1)) → Fits low left r
    lesser {r} e = go (dec_lt (count_trailing_zeros 64 low) (63 - count_leading_zeros 64 (left + 1)))
      where
        go : Dec (count_trailing_zeros 64 low < 63 - count_leading_zeros 64 (left + 1)) → Fits low left r
        go (yes o) = subst (Fits low left) (omega arith) (by_low o)
        go (no o) = subst (Fits low left) (omega arith) (by_left (omega arith))
