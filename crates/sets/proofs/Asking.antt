-- What the code's tests make of the questions' definitions.
use mathlib.Core.Path.{◌≡◌, refl, sym, ◌∙◌, ap, ap₂}
use mathlib.Core.Bool.{true, false}
use mathlib.Core.Option.{some}
use mathlib.Core.List.{List, [], ◌∷◌}
use Prim.Native.Nat.{ℕ, zero, suc, ◌+◌, ◌*◌, ◌≤◌, ◌<◌, max}
use native.Mathlib.Omega.{arith}
use lib.ListN.{length, get_or, drop}
use Rattle.std.specs.Prelude.{Ok}
use Rattle.blocks.proofs.Items.{entries_count, entry_is}
use Rattle.searches.specs.declared.Spot.{Spot}
use Rattle.searches.specs.Steps.{SpotOf}
use Rattle.searches.proofs.Spots.{spot_passed, next, inside_is, outside_is}
use Rattle.entries.specs.Entries.{Entry}
use Rattle.entries.specs.Sets.{Plain, M, has, member}
use Rattle.entries.specs.Questions.{range_at, least_member}
use Rattle.entries.proofs.Windows.{Passed}
use Rattle.entries.proofs.Finding.{least_at, least_end, behind_free}
use Rattle.entries.proofs.Append.{value_index}
use Rattle.entries.proofs.Questions.{range_in, range_out, non_member_is, non_member_none}
use Rattle.answers.specs.Answers.{Answer, given, outcome, optional}
use Rattle.answers.specs.Steps.{FirstOf}
use Rattle.answers.proofs.Turns.{given_by}
use Rattle.blocks.specs.Blocks.{entries_of, items_of, SoundBlock, set_layout}
use Rattle.blocks.specs.Calls.{input}
use Rattle.blocks.specs.Steps.{zero_item}
use Rattle.sets.specs.Calls.{asked, ends, non_member}

-- a question answered
pub give_asked : (w : List ℕ) {u : Unit {0}} → FirstOf (input 0 set_layout w ∷ []) (Ok u) → (answer : List Entry → Answer) (a : Answer)
    → a ≡ answer (entries_of 2 w) → outcome a [] ≡ asked w answer
give_asked w f answer a q = given_by f [] (outcome a []) (outcome (answer (entries_of 2 w)) []) (ap (λ (b : Answer). outcome b []) q)

-- the entries of a set block carry no value
items_plain : (n : ℕ) (ws : List ℕ) → Plain (items_of 2 n ws)
items_plain zero ws = tt
items_plain (suc n) ws = (refl, items_plain n (drop 2 ws))

pub entries_plain : (w : List ℕ) → Plain (entries_of 2 w)
entries_plain w = items_plain (get_or w 0 0) (drop 1 w)

-- what the spot of x tells
module _ {w : List ℕ} (b : SoundBlock set_layout w) {x : ℕ} {r : Spot} (g : SpotOf set_layout w x r) where
  here : Passed zero_item (entries_of 2 w) x r.below
  here = spot_passed (omega arith) b g

  count : length (entries_of 2 w) ≡ get_or w 0 0
  count = entries_count 2 (omega arith) w (get_or w 0 0) refl

  pub least_inside : r.inside ≡ true → given (x ∷ []) ≡ optional (least_member (entries_of 2 w) x)
  least_inside t =
      let i = inside_is (omega arith) b g t in
      let k : max x (get_or (entries_of 2 w) r.below zero_item).low ≡ x = omega (arith, i.from) in
      sym (ap optional (least_at zero_item (entries_of 2 w) x r.below here i.item.among ∙ ap some k))

  module _ (t : r.inside ≡ false) where
    pub least_none : get_or w 0 0 ≤ r.below → given [] ≡ optional (least_member (entries_of 2 w) x)
    least_none h = sym (ap optional (least_end zero_item (entries_of 2 w) x r.below here (omega (arith, count))))

    pub least_next : r.below < get_or w 0 0 → (low : ℕ) → low ≡ get_or w (2 * r.below + 1) 0 → given (low ∷ []) ≡ optional (least_member (entries_of 2 w) x)
    least_next h low q =
        let m = next (omega arith) b g h in
        let k : max x (get_or (entries_of 2 w) r.below zero_item).low ≡ low = omega (arith, m.low, outside_is (omega arith) b g t m.among) in
        sym (ap optional (least_at zero_item (entries_of 2 w) x r.below here m.among ∙ ap some k))

    pub free_here : x ≤ M → given (x ∷ []) ≡ optional (non_member (entries_of 2 w) x)
    free_here m = sym (ap optional (non_member_is (entries_of 2 w) x x (omega arith) m (sym g.inside ∙ t) (λ z p q. absurd (omega arith))))

  module _ (t : r.inside ≡ true) (high : ℕ) (q : high ≡ get_or w (2 * r.below + 2) 0) where
    -- from x to the end of its range
    in_range : (z : ℕ) → x ≤ z → z ≤ high → member (entries_of 2 w) z ≡ true
    in_range z p l =
        let i = inside_is (omega arith) b g t in
        ap has (value_index (entries_of 2 w) r.below zero_item b.sound i.item.among z (omega (arith, i.from)) (omega (arith, i.item.high)))

    pub free_none : high ≡ M → given [] ≡ optional (non_member (entries_of 2 w) x)
    free_none e = sym (ap optional (non_member_none (entries_of 2 w) x (λ z p l. in_range z p (omega arith))))

    pub free_next : high < M → given ((high + 1) ∷ []) ≡ optional (non_member (entries_of 2 w) x)
    free_next l =
        let i = inside_is (omega arith) b g t in
        let k : suc (get_or (entries_of 2 w) r.below zero_item).high ≡ high + 1 = omega (arith, i.item.high) in
        let out : member (entries_of 2 w) (high + 1) ≡ false =
        ap (member (entries_of 2 w)) (sym k) ∙ ap has (behind_free zero_item (entries_of 2 w) r.below (entries_plain w) b.sound i.item.among) in
        sym (ap optional (non_member_is (entries_of 2 w) x (high + 1) (omega (arith, here.from i.item.among, i.item.high)) (omega arith) out
        (λ z p m. in_range z p (omega arith))))

-- the range at an index
module _ (w : List ℕ) (n k : ℕ) (e : n ≡ get_or w 0 0) where
  pub range_none : n ≤ k → given [] ≡ ends (range_at (entries_of 2 w) k)
  range_none h = sym (ap ends (range_out (entries_of 2 w) k (omega (arith, entries_count 2 (omega arith) w n e))))

  pub range_is : k < n → (l h : ℕ) → l ≡ get_or w (2 * k + 1) 0 → h ≡ get_or w (2 * k + 2) 0 → given (l ∷ h ∷ []) ≡ ends (range_at (entries_of 2 w) k)
  range_is p l h q r =
      ap₂ (λ (x y : ℕ). given (x ∷ y ∷ [])) q r
      ∙ sym (ap ends (range_in (entries_of 2 w) k zero_item (omega (arith, entries_count 2 (omega arith) w n e)) ∙ ap some (entry_is 2 (omega arith) w n e k p)))
