-- No list of blocks that names the same numbers is shorter than a tiling: each block of the tiling begins where one of the list begins.
use mathlib.Core.Path.{◌≡◌, refl, sym, ◌∙◌, ap, subst}
use mathlib.Core.Bool.{Bool, true, false}
use mathlib.Core.List.{List, [], ◌∷◌}
use Prim.Native.Nat.{ℕ, suc, ◌+◌, ◌%◌, ◌^◌, ◌≤◌, ◌<◌}
use native.Mathlib.Omega.{arith}
use native.Mathlib.Decide.{dec_le, dec_lt}
use lib.Pow.{pow_pos}
use lib.ListN.{length}
use Rattle.entries.specs.Entries.{Each}
use Rattle.entries.specs.Sets.{orb}
use Rattle.entries.proofs.Values.{true≢false}
use Rattle.entries.proofs.Cuts.{NotIn, Below, Rising}
use Rattle.entries.proofs.Bounds.{rising_length}
use Rattle.tilings.specs.Prefixes.{Prefix, Block, holds, named}
use Rattle.tilings.proofs.Powers.{smaller, apart, next}
use Rattle.tilings.proofs.Judging.{Full, Free}
use Rattle.tilings.proofs.Tiles.{Greatest, Tiles, done, block, Stands, under, inside, past, stands, own}

-- the first numbers of blocks
abbrev pub starts : List Prefix → List ℕ
starts [] = []
starts (p ∷ ps) = p.start ∷ starts ps

length_starts : (ps : List Prefix) → length (starts ps) ≡ length ps
length_starts [] = refl
length_starts (p ∷ ps) = ap suc (length_starts ps)

-- a block that S holds
pub record Held (S : ℕ → Bool) (q : Prefix) : Type 0 where
  pub aligned : q.start % 2 ^ q.exponent ≡ 0
  pub full : Full S q.start q.exponent

-- every block that S holds and that begins below x ends there at the latest
abbrev pub Clear : (ℕ → Bool) → ℕ → Type 0
Clear S x = (c f : ℕ) → c % 2 ^ f ≡ 0 → Full S c f → c < x → c + 2 ^ f ≤ x

-- what a list names, a longer one does
named_later : (q : Prefix) (qs : List Prefix) (x : ℕ) → named qs x ≡ true → named (q ∷ qs) x ≡ true
named_later q qs x h = go (holds q x)
  where
    go : (t : Bool) → orb t (named qs x) ≡ true
    go true = refl
    go false = h

-- each number of the first block is named
named_first : (q : Prefix) (qs : List Prefix) → Full (named (q ∷ qs)) q.start q.exponent
named_first q qs x a b = go (stands q x)
  where
    go : Stands q x → named (q ∷ qs) x ≡ true
    go (under h e) = absurd (omega arith)
    go (inside h k e) = rw e
    go (past h e) = absurd (omega arith)

module _ {S : ℕ → Bool} where
  -- blocks that name nothing else are blocks that S holds
  pub all_held : (qs : List Prefix) → Each Block qs → ((x : ℕ) → named qs x ≡ true → S x ≡ true) → Each (Held S) qs
  all_held [] b n = tt
  all_held (q ∷ qs) b n =
      (record { aligned = b.0.aligned; full = λ x h k. n x (named_first q qs x h k) }, all_held qs b.1 (λ x h. n x (named_later q qs x h)))

  -- a number at which no block begins, and over which none runs, is not named
  missed : (qs : List Prefix) → Each (Held S) qs → (x : ℕ) → Clear S x → NotIn x (starts qs) → named qs x ≡ false
  missed [] w x k n = refl
  missed (q ∷ qs) w x k n = go (stands q x) (missed qs w.1 x k n.1)
    where
      go : Stands q x → named qs x ≡ false → named (q ∷ qs) x ≡ false
      go (under h e) rest = rw (e, rest)
      go (inside h l e) rest = absurd (omega (arith, n.0, k q.start q.exponent w.0.aligned w.0.full (omega (arith, n.0))))
      go (past h e) rest = rw (e, rest)

  -- from a number over which no block runs, none runs over the next that is in S,
  clear_free : (x s : ℕ) → Free S x s → Clear S x → x ≤ s → Clear S s
  clear_free x s r k l c f a u h = go (dec_lt c x)
    where
      go : Dec (c < x) → c + 2 ^ f ≤ s
      go (yes y) = omega (arith, k c f a u y)
      go (no y) = absurd (true≢false (sym (own c f u) ∙ r c (omega (arith, y)) h))

  -- nor over the end of the largest block from there
  clear_block : (s e : ℕ) → Greatest S s e → Clear S s → Clear S (s + 2 ^ e)
  clear_block s e g k c f a u h = go (dec_lt c s) (dec_le f e) (dec_lt s c)
    where
      go : Dec (c < s) → Dec (f ≤ e) → Dec (s < c) → c + 2 ^ f ≤ s + 2 ^ e
      go (yes x) y z = omega (arith, k c f a u x)
      go (no x) (yes y) z = apart f c (s + 2 ^ e) a (smaller (s + 2 ^ e) f e y (next e s g.aligned)) h
      go (no x) (no y) (yes z) = absurd (omega (arith, apart e s c g.aligned (smaller c e f (omega (arith, y)) a) z))
      go (no x) (no y) (no z) =
          let q : c ≡ s = omega (arith, x, z) in
          absurd (y (g.most f (subst (λ (i : ℕ). i % 2 ^ f ≡ 0) q a) (subst (λ (i : ℕ). Full S i f) q u)))

  -- a tiling's blocks begin one behind the other
  starts_below : {x y : ℕ} {ps : List Prefix} → (c : ℕ) → c < x → Tiles S x y ps → Below c (starts ps)
  starts_below c h (done l f) = tt
  starts_below c h (block l f g t) = omega arith

  starts_rise : {x y : ℕ} {ps : List Prefix} → Tiles S x y ps → Rising (starts ps)
  starts_rise (done l f) = tt
  starts_rise (block {s = s} {e = e} l f g t) = (starts_below s (omega (arith, pow_pos e)) t, starts_rise t)

  module _ (qs : List Prefix) (held : Each (Held S) qs) (names : (x : ℕ) → S x ≡ true → named qs x ≡ true) where
    -- where none of these blocks begins, none of a tiling does
    begin_there : {x y : ℕ} {ps : List Prefix} → Tiles S x y ps → Clear S x → (z : ℕ) → NotIn z (starts qs) → NotIn z (starts ps)
    begin_there (done l f) k z n = tt
    begin_there {x} (block {s = s} {e = e} l f g t) k z n =
        let c = clear_free x s f k l in (
          λ q. true≢false (sym (names z (subst (λ (i : ℕ). S i ≡ true) (sym q) (own s e g.full))) ∙ missed qs held z (subst (Clear S) (sym q) c) n),
          begin_there t (clear_block s e g c) z n,
        )

    -- [P4] so that these are at least as many
    pub no_shorter : {y : ℕ} {ps : List Prefix} → Tiles S 0 y ps → length ps ≤ length qs
    no_shorter {y} {ps} t =
        let r = rising_length (starts ps) (starts qs) (starts_rise t) (begin_there t (λ c f a u h. absurd (omega arith))) in
        omega (arith, length_starts ps, length_starts qs)
