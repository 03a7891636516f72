-- Where a number sits in a sound block: from the one search, and what that tells of the items before it and of the next one.
use mathlib.Core.Path.{◌≡◌, refl, sym, ◌∙◌, ap}
use mathlib.Core.Bool.{Bool, true, false}
use mathlib.Core.Option.{some}
use mathlib.Core.List.{List}
use Prim.Native.Nat.{ℕ, suc, ◌+◌, ◌*◌, ◌-◌, ◌≤◌, ◌<◌}
use native.Mathlib.Omega.{arith}
use native.Mathlib.Nat.{mul-suc, mul-le-mul_left}
use native.Mathlib.Decide.{dec_lt}
use lib.Dec.{leb}
use lib.ListN.{length, get_or, take, drop}
use lib.Seq.{length-take-le}
use borrow.Author.Tests.{leb-true, leb-false}
use Rattle.entries.specs.Entries.{Entry, value_at}
use Rattle.entries.specs.Sets.{has}
use Rattle.entries.specs.Questions.{wholly_below}
use Rattle.entries.proofs.Values.{true≢false}
use Rattle.entries.proofs.Windows.{Passed, below_take, below_passed}
use Rattle.entries.proofs.Finding.{found_in, found_under, found_end}
use Rattle.blocks.specs.declared.Layout.{Layout}
use Rattle.blocks.specs.Blocks.{entries_of, SoundBlock}
use Rattle.blocks.specs.Steps.{zero_item}
use Rattle.blocks.proofs.Items.{entries_count, entry_is, held}
use Rattle.searches.specs.declared.Spot.{Spot}
use Rattle.searches.specs.Steps.{FirstFrom, SpotOf}
use Rattle.searches.proofs.Finding.{passed}

-- FROM THE SEARCH: i items of n end below x
module _ {l : Layout} {w : List ℕ} (two : 2 ≤ l.width) (b : SoundBlock l w) {n i x : ℕ} (e : n ≡ get_or w 0 0) (p : FirstFrom w l.width 2 n x i) where
  here : Passed zero_item (entries_of l.width w) x i
  here = passed l.width two w n e x i p

  count : length (entries_of l.width w) ≡ n
  count = entries_count l.width two w n e

  pub below_is : length (wholly_below x (entries_of l.width w)) ≡ i
  below_is =
      ap length (below_take zero_item (entries_of l.width w) x i b.sound here)
      ∙ length-take-le i (entries_of l.width w) (omega (arith, count, p.within))

  pub spot_end : n ≤ i → SpotOf l w x (record { below = i; inside = false })
  spot_end h = record {
    below = sym below_is;
    inside = sym (ap has (found_end zero_item (entries_of l.width w) x i b.sound here (omega (arith, count))));
  }

  module _ (h : i < n) where
    pub item_held : l.width * i + 1 + l.width ≤ length w
    item_held = omega (
      arith,
      (held l two w n e b).held,
      mul-le-mul_left {m = suc i} {n = n} l.width h,
      mul-suc l.width i,
    )

    low_is : (get_or (entries_of l.width w) i zero_item).low ≡ get_or w (l.width * i + 1) 0
    low_is = ap (λ (f : Entry). f.low) (entry_is l.width two w n e i h)

    module _ (low : ℕ) (q : low ≡ get_or w (l.width * i + 1) 0) where
      pub spot_under : x < low → SpotOf l w x (record { below = i; inside = false })
      spot_under k = record {
        below = sym below_is;
        inside = sym (ap has (found_under zero_item (entries_of l.width w) x i b.sound here (omega (arith, count)) (omega (arith, low_is))));
      }

      pub spot_in : low ≤ x → SpotOf l w x (record { below = i; inside = true })
      spot_in k = record {
        below = sym below_is;
        inside = sym (ap has (found_in zero_item (entries_of l.width w) x i b.sound here (omega (arith, count)) (omega (arith, low_is))));
      }

      -- by the code's one test
      pub spot_by : SpotOf l w x (record { below = i; inside = leb low x })
      spot_by = go (leb low x) refl
        where
          go : (t : Bool) → leb low x ≡ t → SpotOf l w x (record { below = i; inside = t })
          go true k = spot_in (leb-true low x k)
          go false k = spot_under (leb-false low x k)

-- WHAT A SPOT TELLS
module _ {l : Layout} {w : List ℕ} (two : 2 ≤ l.width) (b : SoundBlock l w) {x : ℕ} {r : Spot} (g : SpotOf l w x r) where
  pub spot_passed : Passed zero_item (entries_of l.width w) x r.below
  spot_passed = rw g.below (below_passed zero_item (entries_of l.width w) x b.sound)

  all : length (entries_of l.width w) ≡ get_or w 0 0
  all = entries_count l.width two w (get_or w 0 0) refl

  -- [W1] the count is the first item whose high is at least x
  pub spot_first : FirstFrom w l.width 2 (get_or w 0 0) x r.below
  spot_first = record {
    within = omega (arith, spot_passed.within, all);
    before = λ k h. omega (arith, spot_passed.before k h, high_at k (omega (arith, spot_passed.within, all)));
    from = λ h. omega (arith, spot_passed.from (omega (arith, all)), high_at r.below h);
  }
    where
      high_at : (k : ℕ) → k < get_or w 0 0 → (get_or (entries_of l.width w) k zero_item).high ≡ get_or w (l.width * k + 2) 0
      high_at k h = ap (λ (f : Entry). f.high) (entry_is l.width two w (get_or w 0 0) refl k h)

  -- the item behind those below x, and its words
  pub record Next : Type 0 where
    pub within : r.below < get_or w 0 0
    pub among : r.below < length (entries_of l.width w)
    pub held : l.width * r.below + 1 + l.width ≤ length w
    pub low : (get_or (entries_of l.width w) r.below zero_item).low ≡ get_or w (l.width * r.below + 1) 0
    pub high : (get_or (entries_of l.width w) r.below zero_item).high ≡ get_or w (l.width * r.below + 2) 0

  pub next : r.below < get_or w 0 0 → Next
  next h = record {
    within = h;
    among = omega (arith, all);
    held = item_held two b refl spot_first h;
    low = ap (λ (f : Entry). f.low) (entry_is l.width two w (get_or w 0 0) refl r.below h);
    high = ap (λ (f : Entry). f.high) (entry_is l.width two w (get_or w 0 0) refl r.below h);
  }

  -- x is in it
  pub record Inside : Type 0 where
    pub item : Next
    pub from : (get_or (entries_of l.width w) r.below zero_item).low ≤ x
    pub value : value_at (entries_of l.width w) x ≡ some (take (l.width - 2) (drop (l.width * r.below + 3) w))

  pub inside_is : r.inside ≡ true → Inside
  inside_is t = go (dec_lt r.below (get_or w 0 0))
    where
      go : Dec (r.below < get_or w 0 0) → Inside
      go (no h) = absurd (true≢false (sym t ∙ g.inside ∙ sym (spot_end two b refl spot_first (omega arith)).inside))
      go (yes h) = under (dec_lt x (get_or w (l.width * r.below + 1) 0))
        where
          under : Dec (x < get_or w (l.width * r.below + 1) 0) → Inside
          under (yes k) = absurd (true≢false (sym t ∙ g.inside ∙ sym (spot_under two b refl spot_first h _ refl k).inside))
          under (no k) =
              let m = next h in
              let f : (get_or (entries_of l.width w) r.below zero_item).low ≤ x = omega (arith, m.low) in
              record {
                item = m;
                from = f;
                value = found_in zero_item (entries_of l.width w) x r.below b.sound spot_passed m.among f
                    ∙ ap (λ (i : Entry). some i.value) (entry_is l.width two w (get_or w 0 0) refl r.below h);
              }

  -- x is below it, or there is none
  pub outside_is : r.inside ≡ false → r.below < length (entries_of l.width w) → x < (get_or (entries_of l.width w) r.below zero_item).low
  outside_is t h = go (dec_lt x (get_or w (l.width * r.below + 1) 0))
    where
      m : Next
      m = next (omega (arith, all))

      go : Dec (x < get_or w (l.width * r.below + 1) 0) → x < (get_or (entries_of l.width w) r.below zero_item).low
      go (yes k) = omega (arith, m.low)
      go (no k) = absurd (true≢false ((spot_in two b refl spot_first m.within _ refl (omega arith)).inside ∙ sym g.inside ∙ t))
