-- The blocks that are taken from each range of a set, the largest that fits again and again, are the set's tiling.
use mathlib.Core.Path.{◌≡◌, refl, sym, ◌∙◌, ap}
use mathlib.Core.Bool.{Bool, true, false}
use mathlib.Core.List.{List, [], ◌∷◌}
use Prim.Native.Nat.{ℕ, zero, suc, ◌+◌, ◌-◌, ◌^◌, ◌≤◌, ◌<◌}
use native.Mathlib.Omega.{arith}
use native.Mathlib.Decide.{dec_le}
use lib.Pow.{pow_pos}
use Rattle.entries.specs.Entries.{Entry, Sound}
use Rattle.entries.specs.Sets.{past_m, Plain, has, member}
use Rattle.entries.proofs.Values.{true≢false}
use Rattle.entries.proofs.Sides.{val_in, val_past, none_under}
use Rattle.entries.proofs.Building.{Begins}
use Rattle.entries.proofs.Plain.{gap_of}
use Rattle.entries.proofs.Questions.{Under}
use Rattle.tilings.specs.Prefixes.{whole, largest, taken, taken_all, prefixes}
use Rattle.tilings.proofs.Powers.{Largest, largest_is, below}
use Rattle.tilings.proofs.Judging.{Full}
use Rattle.tilings.proofs.Tiles.{Greatest, Tiles, done, tiles_first, tiles_earlier, tiles_append}

-- ONE RANGE. The numbers from p up to y are in S, and y is not.
module _ (S : ℕ → Bool) (y : ℕ) (out : S y ≡ false) where
  -- a block that S holds ends before y
  fitting : (p n g : ℕ) → p + n ≡ y → Full S p g → 2 ^ g ≤ n
  fitting p n g q v = go (dec_le (2 ^ g) n)
    where
      go : Dec (2 ^ g ≤ n) → 2 ^ g ≤ n
      go (yes h) = h
      go (no h) = absurd (true≢false (sym (v y (omega arith) (omega (arith, h))) ∙ out))

  -- so that the largest that fits into the n numbers is the largest that S holds
  largest_greatest : (p n r : ℕ) → p + n ≡ y → n ≤ past_m → ((z : ℕ) → p ≤ z → z < y → S z ≡ true) → Largest whole p n r → Greatest S p r
  largest_greatest p n r q small run l = record {
    aligned = l.divides;
    full = λ z a b. run z a (omega (arith, l.within));
    most = λ g a v.
        let h = fitting p n g q v in
        let k : g < 65 = below g 65 (omega arith) in
        l.most g (omega arith) a h;
  }

  pub taken_tiles : (k p n : ℕ) → p + n ≡ y → n ≤ k → n ≤ past_m → ((z : ℕ) → p ≤ z → z < y → S z ≡ true) → Tiles S p y (taken k p n)
  unfolding taken
  taken_tiles zero p n q h small run = let l : p ≤ y = omega arith in done l (λ z a b. absurd (omega arith))
  taken_tiles (suc k) p zero q h small run = let l : p ≤ y = omega arith in done l (λ z a b. absurd (omega arith))
  taken_tiles (suc k) p (suc n) q h small run =
      let r = largest whole p (suc n) in
      let l = largest_is whole p (suc n) (omega arith) in
      let w : 2 ^ r ≤ suc n = l.within in
      tiles_first (largest_greatest p (suc n) r q small run l)
      (taken_tiles k (p + 2 ^ r) (suc n - 2 ^ r) (omega arith) (omega (arith, pow_pos r)) (omega arith) (λ z a b. run z (omega arith) b))

-- EACH RANGE. What the first says of a number: below it,
pub first_under : (e : Entry) (es : List Entry) → Sound (e ∷ es) → (z : ℕ) → z < e.low → member (e ∷ es) z ≡ false
first_under e es s z h = ap has (none_under e es s z h)

-- in it,
pub first_in : (e : Entry) (es : List Entry) (z : ℕ) → e.low ≤ z → z ≤ e.high → member (e ∷ es) z ≡ true
first_in e es z a b = ap has (val_in e es z a b)

-- past it,
pub first_past : (e : Entry) (es : List Entry) (z : ℕ) → e.high < z → member (e ∷ es) z ≡ member es z
first_past e es z a = ap has (val_past e es z a)

-- and right behind it, where a set has no member
first_end : (e : Entry) (es : List Entry) → Sound (e ∷ es) → Plain (e ∷ es) → member es (suc e.high) ≡ false
first_end e [] s f = refl
first_end e (d ∷ ds) s f = let g = gap_of e (d ∷ ds) f s.1 in first_under d ds s.2 (suc e.high) (omega arith)

-- the others begin behind it
others_begin : (e : Entry) (es : List Entry) → Sound (e ∷ es) → Begins (suc e.high) es
others_begin e [] s = tt
others_begin e (d ∷ ds) s = s.1.0

-- [P3] the blocks of the ranges that begin at x or later, where S has, from x on, the numbers that they name
pub prefixes_tiles : (S : ℕ → Bool) (es : List Entry) (x : ℕ) → Sound es → Plain es → Under past_m es → x ≤ past_m → Begins x es
    → ((z : ℕ) → x ≤ z → S z ≡ member es z) → Tiles S x past_m (prefixes es)
unfolding prefixes
prefixes_tiles S [] x s f u l b same = done l (λ z h k. same z h)
prefixes_tiles S (e ∷ es) x s f u l b same =
    let y = suc e.high in
    let n = y - e.low in
    let out : S y ≡ false = same y (omega (arith, s.0)) ∙ first_past e es y (omega arith) ∙ first_end e es s f in
    let first : Tiles S e.low y (taken_all e.low n) =
    taken_tiles S y out n e.low n (omega (arith, s.0)) (omega arith) (omega (arith, u.0))
    (λ z h k. same z (omega arith) ∙ first_in e es z h (omega arith)) in
    let rest : Tiles S y past_m (prefixes es) =
    prefixes_tiles S es y s.2 f.1 u.1 (omega (arith, u.0)) (others_begin e es s)
    (λ z h. same z (omega (arith, s.0)) ∙ first_past e es z h) in
    tiles_append (tiles_earlier b (λ z h k. same z h ∙ first_under e es s z k) first) rest
