-- THE LAW OF HALVING, over any function that does not fall on 0..n-1: the words at one offset of a block's items are one such function, the
-- high ends in a run of records another. And that it is short: a step leaves at most half of the open places, so n take at most `steps n`.
use mathlib.Core.Bool.{Bool, true, false}
use mathlib.Core.Path.{◌≡◌, sym}
use Prim.Native.Nat.{ℕ, zero, suc, ◌+◌, ◌-◌, ◌/◌, ◌^◌, ◌≤◌, ◌<◌}
use native.Mathlib.Omega.{arith}
use lib.Dec.{ltb}
use borrow.Author.Tests.{ltb-true, ltb-false}
use Rattle.entries.specs.Build.{pick}
use Rattle.searches.specs.Steps.{Rises, First}

-- NOT DECIDED is what stands from low up to high: before low all are below x, and that at high is not
pub record Open (f : ℕ → ℕ) (n x low high : ℕ) : Type 0 where
  pub order : low ≤ high
  pub upto : high ≤ n
  pub under : (k : ℕ) → k < low → f k < x
  pub from : high < n → x ≤ f high

pub open_all : {f : ℕ → ℕ} {n x : ℕ} → Open f n x 0 n
open_all = record { order = omega arith; upto = omega arith; under = λ k h. absurd (omega arith); from = λ h. absurd (omega arith) }

pub closed : {f : ℕ → ℕ} {n x low high : ℕ} → Open f n x low high → high ≤ low → First f n x low
closed {f} {n} {x} {low} {high} o h =
    let e : low ≡ high = omega (arith, o.order) in
    record { within = omega (arith, o.upto); before = o.under; from = λ l. rw e (o.from (omega arith)) }

module _ {f : ℕ → ℕ} {n x low high : ℕ} (r : Rises f n) (o : Open f n x low high) (middle : ℕ) (a : low ≤ middle) (b : middle < high) where
  up : f middle < x → Open f n x (middle + 1) high
  up h = record {
    order = omega arith;
    upto = o.upto;
    under = λ k l. omega (arith, r k middle (omega arith) (omega (arith, o.upto)));
    from = o.from;
  }

  down : x ≤ f middle → Open f n x low middle
  down h = record { order = a; upto = omega (arith, o.upto); under = o.under; from = λ l. h }

  -- the code's step: up or down, by one test
  pub halved : (t : Bool) → t ≡ ltb (f middle) x → (low' high' : ℕ) → low' ≡ pick t (middle + 1) low → high' ≡ pick t high middle → Open f n x low' high'
  halved true e low' high' p q = rw (p, q) (up (ltb-true (f middle) x (sym e)))
  halved false e low' high' p q = rw (p, q) (down (ltb-false (f middle) x (sym e)))

-- HOW LONG IT TAKES: as many steps at most as n has binary digits, counted within k of them
abbrev digits : ℕ → ℕ → ℕ
digits zero n = zero
digits (suc k) zero = zero
digits (suc k) (suc n) = suc (digits k (suc n / 2))

abbrev pub steps : ℕ → ℕ
steps n = digits n n

more_digits : (k j n m : ℕ) → n ≤ k → m ≤ n → digits j m ≤ digits k n
more_digits k zero n m h l = omega arith
more_digits k (suc j) n zero h l = omega arith
more_digits zero (suc j) n (suc m) h l = absurd (omega arith)
more_digits (suc k) (suc j) zero (suc m) h l = absurd (omega arith)
more_digits (suc k) (suc j) (suc n) (suc m) h l = let i = more_digits k j (suc n / 2) (suc m / 2) (omega arith) (omega arith) in omega arith

half_less : (n m : ℕ) → 0 < n → m ≤ n / 2 → steps m < steps n
half_less zero m p h = absurd (omega arith)
half_less (suc n) m p h = let i = more_digits n m (suc n / 2) m (omega arith) h in omega arith

abbrev pub middle : ℕ → ℕ → ℕ
middle low high = low + (high - low) / 2

-- [L1] a step at the middle leaves at most half of what is open, so that the steps left are fewer: the measure of the code's loops
pub half_open : (t : Bool) (low high low' high' : ℕ) → low < high → low' ≡ pick t (middle low high + 1) low → high' ≡ pick t high (middle low high)
    → steps (high' - low') < steps (high - low)
half_open true low high low' high' h p q = half_less (high - low) (high' - low') (omega arith) (omega arith)
half_open false low high low' high' h p q = half_less (high - low) (high' - low') (omega arith) (omega arith)

few_digits : (j k n : ℕ) → n < 2 ^ k → digits j n ≤ k
few_digits zero k n h = omega arith
few_digits (suc j) k zero h = omega arith
few_digits (suc j) zero (suc n) h = absurd (omega arith)
few_digits (suc j) (suc k) (suc n) h = let i = few_digits j k (suc n / 2) (omega arith) in omega arith

-- [L1] fewer than 2^k items take k steps at most: 4,095 take 12
pub few_steps : (k n : ℕ) → n < 2 ^ k → steps n ≤ k
few_steps k n h = few_digits n k n h
