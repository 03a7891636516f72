-- The sum that the size's loop holds: with what the ranges from index i on have, it is the size.
use mathlib.Core.Path.{◌≡◌, refl, ◌∙◌, ap}
use borrow.Author.Tests.{ne_eqb}
use mathlib.Core.List.{List, [], ◌∷◌}
use Prim.Native.Nat.{ℕ, zero, suc, ◌+◌, ◌*◌, ◌-◌, ◌≤◌, ◌<◌}
use native.Mathlib.Omega.{arith}
use lib.ListN.{length, get_or, drop}
use lib.Seq.{get_or-drop}
use Rattle.std.proofs.lemmas.List.{at_drop_more, at_drop_all}
use Rattle.entries.specs.Sets.{past_m}
use Rattle.entries.specs.Entries.{Entry}
use Rattle.answers.specs.Answers.{less_one, given}
use Rattle.entries.proofs.Index.{sound_ok}
use Rattle.entries.proofs.Questions.{size_most, Under}
use Rattle.blocks.specs.Blocks.{items_of, entries_of, set_layout, SoundBlock, Lent}
use Rattle.blocks.specs.Steps.{zero_item, item_at}
use Rattle.blocks.proofs.Items.{entries_count, entry_is}
use Rattle.entries.specs.Questions.{size_of}

items_under : (n : ℕ) (ws : List ℕ) (N : ℕ) → ((j : ℕ) → get_or ws j 0 < N) → Under N (items_of 2 n ws)
items_under zero ws N h = tt
items_under (suc n) ws N h = (h 1, items_under n (drop 2 ws) N (λ j. rw (get_or-drop 2 ws j 0) (h (2 + j))))

-- every number of a set is below 2^64
pub entries_under : (w : List ℕ) → Lent w → Under past_m (entries_of 2 w)
entries_under w h = items_under (get_or w 0 0) (drop 1 w) past_m (λ j. rw (get_or-drop 1 w j 0) (h (1 + j)))

-- and so is the size of a set
pub size_fits : (w : List ℕ) → SoundBlock set_layout w → Lent w → size_of (entries_of 2 w) ≤ past_m
size_fits w b h = size_most (entries_of 2 w) past_m b.sound (entries_under w h)

-- the range at index i
module _ (w : List ℕ) (b : SoundBlock set_layout w) (i : ℕ) (h : i < get_or w 0 0) where
  among : i < length (entries_of 2 w)
  among = omega (arith, h, entries_count 2 (omega arith) w (get_or w 0 0) refl)

  is : get_or (entries_of 2 w) i zero_item ≡ item_at 2 w i
  is = entry_is 2 (omega arith) w (get_or w 0 0) refl i h

  pub range_order : get_or w (2 * i + 1) 0 ≤ get_or w (2 * i + 2) 0
  range_order =
      omega (
        arith,
        sound_ok zero_item (entries_of 2 w) b.sound i among,
        ap (λ (e : Entry). e.low) is,
        ap (λ (e : Entry). e.high) is,
      )

  pub range_passed : size_of (drop i (entries_of 2 w)) ≡ get_or w (2 * i + 2) 0 - get_or w (2 * i + 1) 0 + 1 + size_of (drop (i + 1) (entries_of 2 w))
  range_passed =
      let e = at_drop_more size_of (entries_of 2 w) i zero_item among ∙ ap (λ (e : Entry). size_of (e ∷ drop (i + 1) (entries_of 2 w))) is in
      omega (arith, e, range_order)

-- behind the last range
pub all_passed : (w : List ℕ) (i : ℕ) → get_or w 0 0 ≤ i → size_of (drop i (entries_of 2 w)) ≡ 0
all_passed w i h = at_drop_all size_of (entries_of 2 w) i (omega (arith, h, entries_count 2 (omega arith) w (get_or w 0 0) refl))

-- [S3] empty, or the size less one
pub size_none : (w : List ℕ) (n : ℕ) → n ≡ get_or w 0 0 → n ≡ 0 → given [] ≡ less_one (size_of (entries_of 2 w))
size_none w n e z = let k : get_or w 0 0 ≡ 0 = omega arith in rw k

pub size_some : (w : List ℕ) (r : ℕ) → r + 1 ≡ size_of (entries_of 2 w) → given (r ∷ []) ≡ less_one (size_of (entries_of 2 w))
size_some w r e =
    let n : size_of (entries_of 2 w) ≡ 0 → ⊥ = λ z. omega arith in
    let k : r ≡ size_of (entries_of 2 w) - 1 = omega arith in
    rw (ne_eqb (size_of (entries_of 2 w)) 0 n) (ap (λ (x : ℕ). given (x ∷ [])) k)
