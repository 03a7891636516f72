-- The refusal for want of room, by the test of the code; what the sweep needs and writes; and what is known
-- where a call is not refused.
use mathlib.Core.Path.{◌≡◌, refl, sym, ◌∙◌, ap}
use mathlib.Core.Bool.{Bool, true, false}
use mathlib.Core.List.{List, [], ◌∷◌}
use Prim.Native.Nat.{ℕ, ◌+◌, ◌*◌, ◌≤◌}
use native.Mathlib.Omega.{arith}
use lib.Dec.{leb}
use lib.ListN.{length, get_or, drop}
use borrow.Author.Tests.{le-ltb, lt-ltb, leb-true, leb-false}
use Rattle.std.specs.Prelude.{Ok, Err}
use Rattle.entries.specs.Entries.{Entry}
use Rattle.entries.proofs.Bulletins.{amended_bound}
use Rattle.answers.specs.declared.Reason.TheVariants.{Room}
use Rattle.answers.specs.declared.Refusal.{Refusal}
use Rattle.answers.specs.Says.{at_place}
use Rattle.answers.specs.Steps.{FirstOf}
use Rattle.answers.proofs.Turns.{stops, ends}
use Rattle.blocks.specs.Blocks.{set_layout, capacity, entries_of, block_of, SoundBlock, Lent}
use Rattle.blocks.specs.Calls.{input, no_room, room}
use Rattle.blocks.proofs.Judging.{verdict_sound, room_words}
use Rattle.blocks.proofs.Refusing.{room_fits, some_words}
use Rattle.blocks.proofs.Words.{items_length}
use Rattle.sweeps.specs.Sweeps.{sweep_result, amending}
use Rattle.sweeps.proofs.Tables.{amended_table, bounded}
use Rattle.bulletins.specs.Calls.{amended_with, apply_refusals, fold_refusals}
use Rattle.bulletins.specs.Steps.{Amends, Writes}

-- two sets that the judge accepts are sound
pub two_sound : {a b : List ℕ} {p q : ℕ} {u : Unit {0}} → FirstOf (input p set_layout a ∷ input q set_layout b ∷ []) (Ok u)
    → SoundBlock set_layout a × SoundBlock set_layout b
two_sound {a} {b} f = (verdict_sound set_layout a f.clear.0, verdict_sound set_layout b f.clear.1.0)

-- what the sweep makes of a list, what is released and what is withdrawn
abbrev pub swept : List ℕ → List ℕ → List ℕ → List Entry
swept s r w = sweep_result amending 2 (entries_of 2 s) (entries_of 2 r) (entries_of 2 w)

-- The judged sets are what the sweep takes, and its own result is the list amended. It has no more ranges than all three; whether it has
-- room is as the code tests it, 5; and where it has room, its words fit.
module _ {s r w : List ℕ} {words : ℕ} (g : Amends s r w words) (ls : Lent s) (lr : Lent r) (lw : Lent w) where
  swept_is : swept s r w ≡ amended_with s r w
  swept_is = amended_table (entries_of 2 s) (entries_of 2 r) (entries_of 2 w) (bounded 2 s ls) (bounded 2 r lr) (bounded 2 w lw)

  pub most : {n m k : ℕ} → n ≡ get_or s 0 0 → m ≡ get_or r 0 0 → k ≡ get_or w 0 0 → length (swept s r w) ≤ n + m + k
  most {n} {m} {k} a b c = omega (
    arith,
    ap length swept_is,
    amended_bound (entries_of 2 s) (entries_of 2 r) (entries_of 2 w) g.first.sound g.second.sound g.third.sound,
    items_length 2 (get_or s 0 0) (drop 1 s),
    items_length 2 (get_or r 0 0) (drop 1 r),
    items_length 2 (get_or w 0 0) (drop 1 w),
  )

  module _ {cap : ℕ} (e : cap ≡ capacity set_layout words) {t : Bool} (f : t ≡ leb (length (swept s r w)) cap) where
    tested : t ≡ leb (length (amended_with s r w)) (capacity set_layout words)
    tested = f ∙ ap (λ (l : List Entry). leb (length l) cap) swept_is ∙ ap (leb (length (amended_with s r w))) e

    pub room_yes : t ≡ true → {p : ℕ} → FirstOf (room p set_layout words (amended_with s r w) ∷ []) (Ok tt)
    room_yes z {p} =
        ends (no_room set_layout words (amended_with s r w)) p
        (rw (le-ltb (capacity set_layout words) (length (amended_with s r w)) (leb-true _ _ (sym tested ∙ z))) refl)

    pub room_no : t ≡ false → {p : ℕ} {x : Refusal} → x ≡ at_place Room p → FirstOf (room p set_layout words (amended_with s r w) ∷ []) (Err x)
    room_no z {p} {x} q =
        stops Room x (no_room set_layout words (amended_with s r w)) p [] q
        (rw (lt-ltb (capacity set_layout words) (length (amended_with s r w)) (leb-false _ _ (sym tested ∙ z))) refl)

pub written : {s r w : List ℕ} {words : ℕ} → Writes s r w words → Lent s → Lent r → Lent w → {o : List ℕ}
    → o ≡ block_of words (swept s r w) → o ≡ block_of words (amended_with s r w)
written {s} {r} {w} {words} g a b c e = e ∙ ap (block_of words) (swept_is g.amends a b c)

pub write_fits : {s r w : List ℕ} {words : ℕ} → Writes s r w words → Lent s → Lent r → Lent w → 1 + 2 * length (swept s r w) ≤ words
write_fits {s} {r} {w} {words} g a b c =
    room_words set_layout words (length (swept s r w)) g.amends.some
    (omega (arith, ap length (swept_is g.amends a b c), room_fits set_layout words (amended_with s r w) g.room))

-- an application that is not refused can be written
pub applies_clear : {s r w : List ℕ} {words : ℕ} {u : Unit {0}} → FirstOf (apply_refusals s r w words) (Ok u) → Writes s r w words
applies_clear {s} {r} {w} {words} f = record {
  amends = record {
    first = verdict_sound set_layout s f.clear.0;
    second = verdict_sound set_layout r f.clear.1.0;
    third = verdict_sound set_layout w f.clear.1.1.0;
    some = some_words words f.clear.1.1.1.0;
  };
  room = f.clear.1.1.1.1.1.0;
}

-- and so can the first half of a fold,
pub first_half : (r1 w1 r2 w2 : List ℕ) (words4 words5 : ℕ) {u : Unit {0}} → FirstOf (fold_refusals r1 w1 r2 w2 words4 words5) (Ok u)
    → Writes r1 r2 w2 words4
first_half r1 w1 r2 w2 words4 words5 f = record {
  amends = record {
    first = verdict_sound set_layout r1 f.clear.0;
    second = verdict_sound set_layout r2 f.clear.1.1.0;
    third = verdict_sound set_layout w2 f.clear.1.1.1.0;
    some = some_words words4 f.clear.1.1.1.1.0;
  };
  room = f.clear.1.1.1.1.1.1.1.1.0;
}

-- and the second
pub second_half : (r1 w1 r2 w2 : List ℕ) (words4 words5 : ℕ) {u : Unit {0}} → FirstOf (fold_refusals r1 w1 r2 w2 words4 words5) (Ok u)
    → Writes w1 w2 r2 words5
second_half r1 w1 r2 w2 words4 words5 f = record {
  amends = record {
    first = verdict_sound set_layout w1 f.clear.1.0;
    second = verdict_sound set_layout w2 f.clear.1.1.1.0;
    third = verdict_sound set_layout r2 f.clear.1.1.0;
    some = some_words words5 f.clear.1.1.1.1.1.0;
  };
  room = f.clear.1.1.1.1.1.1.1.1.1.0;
}
