-- Tilings: from each least number of a set that is left, the largest block that the set holds. There is one such list, it names exactly the
-- set, and its blocks are in order.
use mathlib.Core.Path.{◌≡◌, refl, sym, ◌∙◌, ap₂, subst}
use mathlib.Core.Bool.{Bool, true, false}
use mathlib.Core.List.{List, [], ◌∷◌, ◌++◌}
use Prim.Native.Nat.{ℕ, ◌+◌, ◌%◌, ◌^◌, ◌≤◌, ◌<◌}
use native.Mathlib.Omega.{arith}
use native.Mathlib.Decide.{dec_lt}
use lib.Pow.{pow_pos}
use borrow.Author.Tests.{le-leb, lt-leb, lt-ltb, le-ltb}
use Rattle.entries.specs.Entries.{Each}
use Rattle.entries.specs.Sets.{past_m}
use Rattle.entries.proofs.Values.{true≢false}
use Rattle.tilings.specs.Prefixes.{Prefix, prefix, Block, holds, named, InOrder}
use Rattle.tilings.proofs.Powers.{below}
use Rattle.tilings.proofs.Judging.{Full, Free}

-- the block of 2^e numbers from s on is the largest from there that S holds
pub record Greatest (S : ℕ → Bool) (s e : ℕ) : Type 0 where
  pub aligned : s % 2 ^ e ≡ 0
  pub full : Full S s e
  pub most : (f : ℕ) → s % 2 ^ f ≡ 0 → Full S s f → f ≤ e

-- the blocks from x up to y: at the least number of S that is left, the largest block; behind the last block S has none
pub data Tiles (S : ℕ → Bool) : ℕ → ℕ → List Prefix → Type 0 where
  done : {x y : ℕ} → x ≤ y → Free S x y → Tiles S x y []
  block : {x y s e : ℕ} {ps : List Prefix} → x ≤ s → Free S x s → Greatest S s e → Tiles S (s + 2 ^ e) y ps → Tiles S x y (prefix s e ∷ ps)

-- where a number stands by a block
pub data Stands (p : Prefix) (x : ℕ) : Type 0 where
  under : x < p.start → holds p x ≡ false → Stands p x
  inside : p.start ≤ x → x < p.start + 2 ^ p.exponent → holds p x ≡ true → Stands p x
  past : p.start + 2 ^ p.exponent ≤ x → holds p x ≡ false → Stands p x

-- one of these it is
pub stands : (p : Prefix) (x : ℕ) → Stands p x
stands p x = go (dec_lt x p.start) (dec_lt x (p.start + 2 ^ p.exponent))
  where
    go : Dec (x < p.start) → Dec (x < p.start + 2 ^ p.exponent) → Stands p x
    go (yes a) d = under a (rw (lt-leb p.start x a))
    go (no a) (yes b) =
        let l : p.start ≤ x = omega (arith, a) in
        inside l b (rw (le-leb p.start x l, lt-ltb x (p.start + 2 ^ p.exponent) b))
    go (no a) (no b) =
        let l : p.start ≤ x = omega (arith, a) in
        let m : p.start + 2 ^ p.exponent ≤ x = omega (arith, b) in
        past m (rw (le-leb p.start x l, le-ltb x (p.start + 2 ^ p.exponent) m))

module _ {S : ℕ → Bool} where
  -- a block's own start is in S
  pub own : (s e : ℕ) → Full S s e → S s ≡ true
  own s e u = u s (omega arith) (omega (arith, pow_pos e))

  -- what is tiled ends where it begins or later
  pub tiles_le : {x y : ℕ} {ps : List Prefix} → Tiles S x y ps → x ≤ y
  tiles_le (done l f) = l
  tiles_le (block l f g t) = omega (arith, tiles_le t)

  -- TOGETHER. Two free parts are one,
  free_both : (x m y : ℕ) → Free S x m → Free S m y → Free S x y
  free_both x m y a b z h k = go (dec_lt z m)
    where
      go : Dec (z < m) → S z ≡ false
      go (yes l) = a z h l
      go (no l) = b z (omega (arith, l)) k

  -- what is free may stand before,
  pub tiles_earlier : {x m y : ℕ} {ps : List Prefix} → x ≤ m → Free S x m → Tiles S m y ps → Tiles S x y ps
  tiles_earlier {x} {m} {y} h r (done l f) = let k : x ≤ y = omega arith in done k (free_both x m y r f)
  tiles_earlier {x} {m} {y} h r (block {s = s} l f g t) = let k : x ≤ s = omega arith in block k (free_both x m s r f) g t

  -- and so may other blocks
  pub tiles_append : {x m y : ℕ} {ps qs : List Prefix} → Tiles S x m ps → Tiles S m y qs → Tiles S x y (ps ++ qs)
  tiles_append (done l f) u = tiles_earlier l f u
  tiles_append (block l f g t) u = block l f g (tiles_append t u)

  -- where nothing is left
  pub tiles_none : (x : ℕ) → Tiles S x x []
  tiles_none x = let h : x ≤ x = omega arith in done h (λ z a b. absurd (omega arith))

  -- a block right at the start
  pub tiles_first : {s e y : ℕ} {ps : List Prefix} → Greatest S s e → Tiles S (s + 2 ^ e) y ps → Tiles S s y (prefix s e ∷ ps)
  tiles_first {s} g t = let h : s ≤ s = omega arith in block h (λ z a b. absurd (omega arith)) g t

  -- ONE LIST. Where S is free no block starts,
  clash : (x z s e : ℕ) → Free S x z → x ≤ s → s < z → Greatest S s e → ⊥
  clash x z s e r l h g = true≢false (sym (own s e g.full) ∙ r s l h)

  -- from one number there is one largest block,
  one_greatest : {s e f : ℕ} → Greatest S s e → Greatest S s f → e ≡ f
  one_greatest {s} {e} {f} g k = omega (arith, k.most e g.aligned g.full, g.most f k.aligned k.full)

  -- so that the blocks are one list
  pub one_list : {x y : ℕ} {ps qs : List Prefix} → Tiles S x y ps → Tiles S x y qs → ps ≡ qs
  one_list (done l f) (done m k) = refl
  one_list {x} {y} (done l f) (block {s = s} {e = e} m k g t) = absurd (clash x y s e f m (omega (arith, pow_pos e, tiles_le t)) g)
  one_list {x} {y} (block {s = s} {e = e} m k g t) (done l f) = absurd (clash x y s e f m (omega (arith, pow_pos e, tiles_le t)) g)
  one_list {x} {y} (block {s = s} {e = e} {ps = ps} l f g t) (block {s = r} {e = d} {ps = qs} m k h u) =
      go (dec_lt s r) (dec_lt r s) (λ v. one_list t v)
    where
      go : Dec (s < r) → Dec (r < s) → (Tiles S (s + 2 ^ e) y qs → ps ≡ qs) → prefix s e ∷ ps ≡ prefix r d ∷ qs
      go (yes a) b ih = absurd (clash x r s e k l a g)
      go (no a) (yes b) ih = absurd (clash x s r d f m b h)
      go (no a) (no b) ih =
          let i : r ≡ s = omega (arith, a, b) in
          let j : d ≡ e = one_greatest (subst (λ (z : ℕ). Greatest S z d) i h) g in
          let n : r + 2 ^ d ≡ s + 2 ^ e = ap₂ (λ (a b : ℕ). a + 2 ^ b) i j in
          ap₂ ◌∷◌ (ap₂ prefix (sym i) (sym j)) (ih (subst (λ (z : ℕ). Tiles S z y qs) n u))

  -- NAMES. The blocks from x up to y name nothing below x,
  pub named_under : {x y : ℕ} {ps : List Prefix} → Tiles S x y ps → (z : ℕ) → z < x → named ps z ≡ false
  named_under (done l f) z h = refl
  named_under (block {s = s} {e = e} l f g t) z h = rw (lt-leb s z (omega arith)) (named_under t z (omega arith))

  -- and up to y exactly what is in S
  pub named_between : {x y : ℕ} {ps : List Prefix} → Tiles S x y ps → (z : ℕ) → x ≤ z → z < y → named ps z ≡ S z
  named_between (done l f) z h k = sym (f z h k)
  named_between {y = y} (block {s = s} {e = e} {ps = ps} l f g t) z h k = go (stands (prefix s e) z) (λ a. named_under t z a) (λ a b. named_between t z a b)
    where
      go : Stands (prefix s e) z → (z < s + 2 ^ e → named ps z ≡ false) → (s + 2 ^ e ≤ z → z < y → named ps z ≡ S z)
          → named (prefix s e ∷ ps) z ≡ S z
      go (under a q) low rest = rw q (low (omega arith) ∙ sym (f z h a))
      go (inside a b q) low rest = rw q (sym (g.full z a b))
      go (past a q) low rest = rw q (rest a k)

  -- [P1] each is a block of 0..M
  pub tiles_blocks : {x : ℕ} {ps : List Prefix} → Tiles S x past_m ps → Each Block ps
  tiles_blocks (done l f) = tt
  tiles_blocks (block {s = s} {e = e} l f g t) =
      let h = tiles_le t in
      let b : e < 65 = below e 65 (omega arith) in
      (record { in_line = omega (arith, pow_pos e); small = omega arith; aligned = g.aligned }, tiles_blocks t)

  -- [P2] each ends before the next begins
  pub tiles_order : {x y : ℕ} {ps : List Prefix} → Tiles S x y ps → InOrder ps
  tiles_order (done l f) = tt
  tiles_order (block l f g (done m k)) = tt
  tiles_order (block l f g (block m k h t)) = (m, tiles_order (block m k h t))
