-- The entry that holds a number as a part of its block, from where the number stands; the words that stand there.
use mathlib.Core.Path.{◌≡◌, refl, sym, ◌∙◌, ap, ap₂}
use mathlib.Core.Bool.{Bool, true, false}
use mathlib.Core.Option.{Option, none, some}
use mathlib.Core.List.{List}
use Prim.Native.Nat.{ℕ, ◌+◌, ◌*◌, ◌-◌, ◌≤◌}
use native.Mathlib.Omega.{arith}
use native.Mathlib.Nat.{mul-zero, mul-le-mul_left}
use lib.ListN.{length, get_or, take, drop}
use Rattle.entries.specs.Entries.{Value, value_at}
use Rattle.entries.specs.Build.{pick}
use Rattle.entries.specs.Sets.{has}
use Rattle.entries.specs.Questions.{meeting, wholly_below}
use Rattle.entries.proofs.Values.{true≢false}
use Rattle.entries.proofs.Windows.{one_meets}
use Rattle.blocks.specs.declared.Layout.{Layout}
use Rattle.blocks.specs.Blocks.{entries_of, SoundBlock}
use Rattle.blocks.proofs.Items.{held}
use Rattle.searches.specs.declared.Spot.{Spot}
use Rattle.searches.specs.Parts.{part}
use Rattle.searches.specs.Calls.{window_part}
use Rattle.searches.specs.Steps.{SpotOf, EntryOf}
use Rattle.searches.proofs.Spots.{spot_first, inside_is}

no_value : (o : Option Value) → has o ≡ false → o ≡ none
no_value none e = refl
no_value (some v) e = absurd (true≢false e)

module _ {l : Layout} {w : List ℕ} (two : 2 ≤ l.width) (b : SoundBlock l w) {x : ℕ} {r : Spot} (g : SpotOf l w x r) where
  -- the window x..x by the spot: behind the items below x, one item or none
  one_item : (t : Bool) → r.inside ≡ t → part (l.width * r.below + 1) (l.width * pick t 1 0) ≡ window_part l.width w x x
  one_item t e =
      let i : l.width * r.below + 1 ≡ 1 + l.width * r.below = omega arith in
      let k : l.width * r.below + 1 ≡ 1 + l.width * length (wholly_below x (entries_of l.width w)) =
      i ∙ ap (λ (n : ℕ). 1 + l.width * n) g.below in
      let m : length (meeting x x (entries_of l.width w)) ≡ pick t 1 0 =
      one_meets (entries_of l.width w) x b.sound ∙ ap (λ (h : Bool). pick h 1 0) (sym g.inside ∙ e) in
      ap₂ part k (ap (λ (n : ℕ). l.width * n) (sym m))

  pub below_held : l.width * r.below + 1 ≤ length w
  below_held = omega (
    arith,
    (held l two w (get_or w 0 0) refl b).held,
    mul-le-mul_left {m = r.below} {n = get_or w 0 0} l.width (spot_first two b g).within,
  )

  -- [M1, M8] no entry holds x
  pub entry_out : r.inside ≡ false → EntryOf l w x (part (l.width * r.below + 1) 0)
  entry_out t = record {
    is = ap (part (l.width * r.below + 1)) (sym (mul-zero l.width)) ∙ one_item false t;
    held = omega (arith, below_held);
    none = λ z. no_value (value_at (entries_of l.width w) x) (sym g.inside ∙ t);
    value = λ n. absurd (n refl);
  }

  -- [M1, M8] the item behind those below it does
  pub entry_in : r.inside ≡ true → EntryOf l w x (part (l.width * r.below + 1) l.width)
  entry_in t =
      let i = inside_is two b g t in
      let one : l.width ≡ l.width * 1 = omega arith in
      let m : l.width * r.below + 3 ≡ l.width * r.below + 1 + 2 = omega arith in
      record {
        is = ap (part (l.width * r.below + 1)) one ∙ one_item true t;
        held = i.item.held;
        none = λ z. absurd (omega arith);
        value = λ n. (i.value ∙ ap (λ (p : ℕ). some (take (l.width - 2) (drop p w))) m, refl);
      }
