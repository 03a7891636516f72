-- What the judge finds, by the tests of its code; and what it tells that a refusal does not apply.
use mathlib.Core.Path.{◌≡◌, refl, sym, ◌∙◌, ap}
use mathlib.Core.Bool.{Bool, true, false}
use mathlib.Core.List.{List, [], ◌∷◌}
use Prim.Native.Nat.{ℕ, ◌≤◌, ◌<◌}
use native.Mathlib.Omega.{arith}
use lib.Dec.{ltb, eqb}
use lib.ListN.{length, get_or, drop}
use Rattle.std.specs.Prelude.{Ok, Err}
use borrow.Author.Tests.{eqb-false, ltb-false, eq-eqb, ne_eqb}
use Rattle.entries.specs.Entries.{Entry}
use Rattle.entries.specs.Build.{pick}
use Rattle.answers.specs.declared.Reason.TheVariants.{NoBlock, Count, Order}
use Rattle.answers.specs.declared.Refusal.{Refusal}
use Rattle.answers.specs.Says.{at_place}
use Rattle.answers.specs.Steps.{FirstOf}
use Rattle.answers.proofs.Turns.{applies_clear, stops, ends}
use Rattle.blocks.specs.declared.Layout.{Layout}
use Rattle.blocks.specs.Blocks.{items_of, capacity, soundb, verdict, SoundBlock}
use Rattle.blocks.specs.Calls.{input, output, no_block, backwards, no_room}
use Rattle.blocks.proofs.Tests.{v1, v2, v03}
use Rattle.blocks.proofs.Judging.{verdict_sound}

-- the judge, by its tests in turn
module _ (l : Layout) (w : List ℕ) (p : ℕ) where
  pub judged_empty : (f : Refusal) → f ≡ at_place NoBlock p → length w ≡ 0 → FirstOf (input p l w ∷ []) (Err f)
  judged_empty f q h = stops NoBlock f (verdict l w) p [] q (v1 l w h)

  module _ (h : length w ≡ 0 → ⊥) (c n : ℕ) (e : c ≡ capacity l (length w)) (d : n ≡ get_or w 0 0) where
    pub judged_full : (f : Refusal) → f ≡ at_place Count p → c < n → FirstOf (input p l w ∷ []) (Err f)
    judged_full f q g = stops Count f (verdict l w) p [] q (v2 l w h c n e d g)

    module _ (g : n ≤ c) (t : Bool) (s : t ≡ soundb (items_of l.width n (drop 1 w))) where
      pub judged_sound : t ≡ true → FirstOf (input p l w ∷ []) (Ok tt)
      judged_sound k = ends (verdict l w) p (sym (ap (λ (b : Bool). pick b 0 3) (sym k) ∙ v03 l w h c n e d g t s))

      pub judged_unsound : (f : Refusal) → f ≡ at_place Order p → t ≡ false → FirstOf (input p l w ∷ []) (Err f)
      judged_unsound f q k = stops Order f (verdict l w) p [] q (ap (λ (b : Bool). pick b 0 3) (sym k) ∙ v03 l w h c n e d g t s)

-- [R1, R2, R3] what the judge accepts is sound
pub accepted_sound : {l : Layout} {w : List ℕ} {p : ℕ} {u : Unit {0}} → FirstOf (input p l w ∷ []) (Ok u) → SoundBlock l w
accepted_sound {l} {w} f = verdict_sound l w (f.clear.0)

-- the judge of an output
pub output_empty : (words p : ℕ) (f : Refusal) → f ≡ at_place NoBlock p → words ≡ 0 → FirstOf (output p words ∷ []) (Err f)
output_empty words p f q z = stops NoBlock f (no_block words) p [] q (rw (eq-eqb words 0 z) refl)

pub output_some : (words p : ℕ) → (words ≡ 0 → ⊥) → FirstOf (output p words ∷ []) (Ok tt)
output_some words p n = ends (no_block words) p (rw (ne_eqb words 0 n) refl)

-- [R1, R18] not 1: the output has words
pub some_words : (words : ℕ) → no_block words ≡ 0 → 0 < words
some_words words e = let n : words ≡ 0 → ⊥ = eqb-false words 0 (applies_clear (eqb words 0) 0 e) in omega arith

-- [R4] not 4: the range is in order
pub in_order : (a b : ℕ) → (backwards a b).number ≡ 0 → a ≤ b
in_order a b e = ltb-false b a (applies_clear (ltb b a) 3 e)

-- [R5, R19] not 5: the result is within the capacity
pub room_fits : (l : Layout) (words : ℕ) (es : List Entry) → no_room l words es ≡ 0 → length es ≤ capacity l words
room_fits l words es e = ltb-false (capacity l words) (length es) (applies_clear (ltb (capacity l words) (length es)) 4 e)
