-- THE BLOCKS OF A SET: both methods give one list; it names exactly the set's numbers, in order, and no list of blocks that does is shorter.
use mathlib.Core.Path.{◌≡◌, refl, sym, ◌∙◌, ap}
use mathlib.Core.Bool.{false}
use mathlib.Core.List.{List, [], ◌∷◌}
use Prim.Native.Nat.{ℕ, ◌+◌, ◌^◌, ◌≤◌, ◌<◌}
use native.Mathlib.Omega.{arith}
use native.Mathlib.Decide.{dec_le}
use lib.Pow.{pow_mono}
use lib.ListN.{length}
use Rattle.entries.specs.Entries.{Entry, Sound, Each}
use Rattle.entries.specs.Sets.{M, past_m, Plain, has, member}
use Rattle.entries.proofs.Values.{true≢false}
use Rattle.entries.proofs.Sides.{val_past}
use Rattle.entries.proofs.Building.{Begins}
use Rattle.entries.proofs.Questions.{Under}
use Rattle.tilings.specs.Prefixes.{Prefix, Block, whole, named, InOrder, prefixes, audited}
use Rattle.tilings.proofs.Powers.{smaller, apart}
use Rattle.tilings.proofs.Judging.{Full}
use Rattle.tilings.proofs.Tiles.{Tiles, Stands, under, inside, past, stands, one_list, named_between, tiles_blocks, tiles_order}
use Rattle.tilings.proofs.Fewest.{all_held, no_shorter}
use Rattle.tilings.proofs.Greedy.{prefixes_tiles}
use Rattle.tilings.proofs.Cutting.{audit_tiles}

-- a set has no member past its numbers
none_past : (es : List Entry) (N : ℕ) → Under N es → (x : ℕ) → N ≤ x → member es x ≡ false
none_past [] N u x h = refl
none_past (e ∷ es) N u x h = ap has (val_past e es x (omega (arith, u.0))) ∙ none_past es N u.1 x h

-- a block ends in the line
pub block_ends : (q : Prefix) → Block q → q.start + 2 ^ q.exponent ≤ past_m
block_ends q b = apart q.exponent q.start past_m b.aligned (smaller past_m q.exponent whole b.small refl) (omega (arith, b.in_line))

-- so that past it blocks name nothing
blocks_past : (qs : List Prefix) → Each Block qs → (x : ℕ) → past_m ≤ x → named qs x ≡ false
blocks_past [] b x h = refl
blocks_past (q ∷ qs) b x h = go (stands q x) (blocks_past qs b.1 x h)
  where
    go : Stands q x → named qs x ≡ false → named (q ∷ qs) x ≡ false
    go (under k e) rest = rw (e, rest)
    go (inside k l e) rest = absurd (omega (arith, block_ends q b.0))
    go (past k e) rest = rw (e, rest)

-- every list begins at 0 or later
begins_zero : (es : List Entry) → Begins 0 es
begins_zero [] = tt
begins_zero (e ∷ es) = omega arith

-- a sound set of numbers up to M
module _ (es : List Entry) (so : Sound es) (pl : Plain es) (un : Under past_m es) where
  -- [P3] what is taken from its ranges is its tiling,
  pub taken_is : Tiles (member es) 0 past_m (prefixes es)
  taken_is = prefixes_tiles (member es) es 0 so pl un (omega arith) (begins_zero es) (λ z h. refl)

  -- [P5] and what the plain method keeps is
  pub audited_is : Tiles (member es) 0 past_m (audited es)
  audited_is = audit_tiles es so whole 0 (omega arith) refl (λ f h a u. none_larger f h u)
    where
      none_larger : (f : ℕ) → whole < f → Full (member es) 0 f → ⊥
      none_larger f h u =
          let m : 65 ≤ f = omega arith in
          true≢false (sym (u past_m (omega arith) (omega (arith, pow_mono m))) ∙ none_past es past_m un past_m (omega arith))

  -- [P6] both methods agree
  pub agree : prefixes es ≡ audited es
  agree = one_list taken_is audited_is

  -- [P1] each is a block
  pub each_block : Each Block (prefixes es)
  each_block = tiles_blocks taken_is

  -- [P2] in rising order
  pub in_order : InOrder (prefixes es)
  in_order = tiles_order taken_is

  -- blocks that name the set's numbers of 0..M name no others
  names_all : (qs : List Prefix) → Each Block qs → ((x : ℕ) → x ≤ M → named qs x ≡ member es x) → (x : ℕ) → named qs x ≡ member es x
  names_all qs b n x = go (dec_le x M)
    where
      go : Dec (x ≤ M) → named qs x ≡ member es x
      go (yes h) = n x h
      go (no h) = let k : past_m ≤ x = omega (arith, h) in blocks_past qs b x k ∙ sym (none_past es past_m un x k)

  -- [P4] the blocks name exactly the set's numbers
  pub names : (x : ℕ) → named (prefixes es) x ≡ member es x
  names = names_all (prefixes es) each_block (λ x h. named_between taken_is x (omega arith) (omega arith))

  -- [P4] no list of blocks that names exactly these numbers is shorter
  pub fewest : (qs : List Prefix) → Each Block qs → ((x : ℕ) → x ≤ M → named qs x ≡ member es x) → length (prefixes es) ≤ length qs
  fewest qs b n =
      let same = names_all qs b n in
      no_shorter qs (all_held qs b (λ x h. sym (same x) ∙ h)) (λ x h. same x ∙ h) taken_is
