-- Powers of two: their multiples; the zeros at a number's end; and that `largest` is the greatest exponent that fits.
use mathlib.Core.Path.{◌≡◌, refl, sym, ◌∙◌, ap, subst}
use mathlib.Core.Bool.{Bool, true, false}
use Prim.Native.Nat.{ℕ, zero, suc, ◌+◌, ◌*◌, ◌-◌, ◌/◌, ◌%◌, ◌^◌, ◌≤◌, ◌<◌, zero-le}
use native.Mathlib.Nat.{zero-mod, mul-le-mul_left, mul_comm, mul-suc, pow-suc}
use native.Mathlib.Numerals.{add-one}
use native.Mathlib.Omega.{arith}
use native.Mathlib.Decide.{dec_lt}
use lib.Pow.{pow_pos, pow_mono, mod-pow-add, mod-mod-pow, split, low}
use lib.Count.{count_trailing_zeros, under}
use lib.Dec.{leb, eqb}
use borrow.Author.Tests.{eqb-true, eqb-false, leb-true, leb-false}
use Rattle.entries.specs.Build.{pick, andb}
use Rattle.tilings.specs.Prefixes.{largest}

-- the exponents of two powers are ordered as the powers
pub below : (i j : ℕ) → 2 ^ i < 2 ^ j → i < j
below i j h = go (dec_lt i j)
  where
    go : Dec (i < j) → i < j
    go (yes p) = p
    go (no q) = let m : j ≤ i = omega (arith, q) in absurd (omega (arith, pow_mono m))

-- MULTIPLES. A multiple of a power is one of every smaller power.
pub smaller : (n i j : ℕ) → i ≤ j → n % 2 ^ j ≡ 0 → n % 2 ^ i ≡ 0
smaller n i j h p =
    let e : j - i + i ≡ j = omega arith in
    sym (mod-mod-pow n (j - i) i) ∙ ap (λ (k : ℕ). n % 2 ^ k % 2 ^ i) e ∙ ap (λ (r : ℕ). r % 2 ^ i) p ∙ zero-mod (2 ^ i)

-- a multiple of a power, as one
quotient : (k n : ℕ) → n % 2 ^ k ≡ 0 → 2 ^ k * (n / 2 ^ k) ≡ n
quotient k n p = omega (arith, split n k, mul_comm (2 ^ k) (n / 2 ^ k))

-- two multiples that differ are a power apart
pub apart : (k a b : ℕ) → a % 2 ^ k ≡ 0 → b % 2 ^ k ≡ 0 → a < b → a + 2 ^ k ≤ b
apart k a b p q h = go (dec_lt (a / 2 ^ k) (b / 2 ^ k)) (quotient k a p) (quotient k b q)
  where
    go : Dec (a / 2 ^ k < b / 2 ^ k) → 2 ^ k * (a / 2 ^ k) ≡ a → 2 ^ k * (b / 2 ^ k) ≡ b → a + 2 ^ k ≤ b
    go (yes l) ea eb = omega (arith, mul-le-mul_left (2 ^ k) l, mul-suc (2 ^ k) (a / 2 ^ k))
    go (no l) ea eb =
        let m : b / 2 ^ k ≤ a / 2 ^ k = omega (arith, l) in
        absurd (omega (arith, mul-le-mul_left (2 ^ k) m))

-- the next multiple is a power further on
pub next : (k a : ℕ) → a % 2 ^ k ≡ 0 → (a + 2 ^ k) % 2 ^ k ≡ 0
next k a p =
    let e : suc (a / 2 ^ k) * 2 ^ k + 0 ≡ a + 2 ^ k =
    omega (arith, quotient k a p, mul_comm (suc (a / 2 ^ k)) (2 ^ k), mul-suc (2 ^ k) (a / 2 ^ k)) in
    ap (λ (n : ℕ). n % 2 ^ k) (sym e) ∙ low (suc (a / 2 ^ k)) k (pow_pos k)

-- half a power behind a multiple there is none
pub no_half : (k a : ℕ) → a % 2 ^ suc k ≡ 0 → (a + 2 ^ k) % 2 ^ suc k ≡ 0 → ⊥
no_half k a p q = omega (arith, apart (suc k) a (a + 2 ^ k) p q (omega (arith, pow_pos k)), pow-suc 2 k, pow_pos k)

-- ZEROS AT THE END. One digit more: 2 ^ suc k divides n exactly where n is even and 2 ^ k divides its half.
digit : (n k : ℕ) → n % 2 ^ suc k ≡ n / 2 % 2 ^ k * 2 + n % 2
digit n k = ap (λ (j : ℕ). n % 2 ^ j) (sym (add-one k)) ∙ mod-pow-add n k 1

-- the power of as many zeros as n ends in divides it
pub trailing_divides : (d n : ℕ) → n % 2 ^ count_trailing_zeros d n ≡ 0
unfolding count_trailing_zeros
trailing_divides zero n = omega arith
trailing_divides (suc d) n = go (n % 2) refl (trailing_divides d (n / 2))
  where
    go : (r : ℕ) → n % 2 ≡ r → n / 2 % 2 ^ count_trailing_zeros d (n / 2) ≡ 0 → n % 2 ^ under r (count_trailing_zeros d (n / 2)) ≡ 0
    go zero e ih = omega (arith, digit n (count_trailing_zeros d (n / 2)))
    go (suc r) e ih = omega arith

-- and none, of those up to d, that is greater
pub trailing_most : (d n k : ℕ) → k ≤ d → n % 2 ^ k ≡ 0 → k ≤ count_trailing_zeros d n
unfolding count_trailing_zeros
trailing_most zero n k h p = h
trailing_most (suc d) n zero h p = zero-le
trailing_most (suc d) n (suc k) h p = go (n % 2) refl (trailing_most d (n / 2) k (omega arith) (omega (arith, digit n k)))
  where
    go : (r : ℕ) → n % 2 ≡ r → k ≤ count_trailing_zeros d (n / 2) → suc k ≤ under r (count_trailing_zeros d (n / 2))
    go zero e ih = omega arith
    go (suc r) e ih = absurd (omega (arith, digit n k))

-- THE LARGEST THAT FITS. r is the greatest exponent, of those up to e, whose power divides p and is at most n.
pub record Largest (e p n r : ℕ) : Type 0 where
  pub divides : p % 2 ^ r ≡ 0
  pub within : 2 ^ r ≤ n
  pub small : r ≤ e
  pub most : (f : ℕ) → f ≤ e → p % 2 ^ f ≡ 0 → 2 ^ f ≤ n → f ≤ r

-- where the power of suc e does not fit, the largest up to e is that up to suc e
one_more : {e p n r : ℕ} → (p % 2 ^ suc e ≡ 0 → 2 ^ suc e ≤ n → ⊥) → Largest e p n r → Largest (suc e) p n r
one_more {e} {p} {n} {r} no-fit l = record {
  divides = l.divides;
  within = l.within;
  small = omega arith;
  most = λ f h a b. go f a b (dec_lt f (suc e)) h;
}
  where
    go : (f : ℕ) → p % 2 ^ f ≡ 0 → 2 ^ f ≤ n → Dec (f < suc e) → f ≤ suc e → f ≤ r
    go f a b (yes h) k = l.most f (omega arith) a b
    go f a b (no h) k =
        let q : f ≡ suc e = omega (arith, h) in
        absurd (no-fit (subst (λ (i : ℕ). p % 2 ^ i ≡ 0) q a) (subst (λ (i : ℕ). 2 ^ i ≤ n) q b))

-- [P3] that is what `largest` gives
pub largest_is : (e p n : ℕ) → 1 ≤ n → Largest e p n (largest e p n)
unfolding largest
largest_is zero p n h = record { divides = omega arith; within = h; small = omega arith; most = λ f l a b. l }
largest_is (suc e) p n h = go (eqb (p % 2 ^ suc e) 0) refl (leb (2 ^ suc e) n) refl (largest_is e p n h)
  where
    go : (t : Bool) → eqb (p % 2 ^ suc e) 0 ≡ t → (u : Bool) → leb (2 ^ suc e) n ≡ u → Largest e p n (largest e p n)
        → Largest (suc e) p n (pick (andb t u) (suc e) (largest e p n))
    go true a true b l = record {
      divides = eqb-true (p % 2 ^ suc e) 0 a;
      within = leb-true (2 ^ suc e) n b;
      small = omega arith;
      most = λ f k x y. k;
    }
    go true a false b l = one_more (λ x y. omega (arith, leb-false (2 ^ suc e) n b)) l
    go false a u b l = one_more (λ x y. eqb-false (p % 2 ^ suc e) 0 a x) l

-- and nothing else is it
pub largest_one : (e p n r : ℕ) → 1 ≤ n → Largest e p n r → r ≡ largest e p n
largest_one e p n r h l =
    let k = largest_is e p n h in
    omega (arith, l.most (largest e p n) k.small k.divides k.within, k.most r l.small l.divides l.within)
