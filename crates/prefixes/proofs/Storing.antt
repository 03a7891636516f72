-- The output that a call leaves: whether there is room, before the first pair is stored, and then the block of the pairs.
use mathlib.Core.Path.{◌≡◌, refl, sym, ◌∙◌, ap, ap₂, subst}
use mathlib.Core.Bool.{Bool, true, false}
use mathlib.Core.List.{List, [], ◌∷◌, ◌++◌}
use Prim.Native.Nat.{ℕ, suc, ◌+◌, ◌*◌, ◌-◌, ◌≤◌, ◌<◌, min}
use native.Mathlib.Decide.{dec_le}
use native.Mathlib.Omega.{arith}
use lib.Dec.{leb}
use lib.ListN.{length, get_or, set, take, drop, length-set, take-append-drop}
use lib.Seq.{sets, sets-eq, length-sets, take_at}
use borrow.Author.Tests.{leb-true, le-leb, lt-leb}
use Rattle.std.specs.Prelude.{Ok}
use Rattle.entries.specs.Entries.{Entry}
use Rattle.answers.specs.Answers.{Finding}
use Rattle.answers.specs.declared.Reason.TheVariants.{Room}
use Rattle.answers.specs.declared.Refusal.{Refusal}
use Rattle.answers.specs.Answers.{Outcome, outcome, given}
use Rattle.answers.specs.Says.{at_place, refusal_says}
use Rattle.answers.specs.Steps.{FirstOf}
use Rattle.answers.proofs.Turns.{given_by}
use Rattle.blocks.specs.Blocks.{set_layout, SoundBlock, capacity, entries_of, words_of, block_of, Shaped, Lent}
use Rattle.blocks.specs.Calls.{input, output, stored}
use Rattle.blocks.specs.Steps.{Cleared}
use Rattle.blocks.proofs.Items.{entries_count}
use Rattle.blocks.proofs.Judging.{verdict_sound, room_words}
use Rattle.blocks.proofs.Refusing.{some_words}
use Rattle.blocks.proofs.Words.{words_length}
use Rattle.blocks.proofs.Moves.{part_eq, zeros, block_path}
use Rattle.operations.specs.Calls.{from_one}
use Rattle.operations.proofs.Making.{stored_yes, stored_no}
use Rattle.sets.proofs.Asking.{entries_plain}
use Rattle.sets.proofs.Sizes.{entries_under}
use Rattle.tilings.specs.Prefixes.{Prefix, most, prefixes, audited, pairs_of}
use Rattle.tilings.proofs.Blocks.{agree}
use Rattle.tilings.proofs.Most.{at_most}
use Rattle.prefixes.specs.Calls.{pair_layout}
use Rattle.prefixes.specs.Steps.{Tally, tally, all_noted, HasRoom, Fitting}
use Rattle.prefixes.proofs.Noting.{all_counted, all_stored}

-- as many pairs as blocks, of two words each
pub length_pairs : (ps : List Prefix) → length (pairs_of ps) ≡ length ps
length_pairs [] = refl
length_pairs (p ∷ ps) = ap suc (length_pairs ps)

pub shaped_pairs : (ps : List Prefix) → Shaped 2 (pairs_of ps)
shaped_pairs [] = tt
shaped_pairs (p ∷ ps) = (refl, shaped_pairs ps)

-- words laid behind the first, and the first set
laid : (ws o : List ℕ) (n : ℕ) → 1 + length ws ≤ length o → set (sets o 1 ws) 0 n ≡ (n ∷ ws) ++ drop (1 + length ws) o
laid ws [] n h = absurd (omega arith)
laid ws (x ∷ o) n h = ap (λ (l : List ℕ). set l 0 n) (sets-eq ws (x ∷ o) 1 h)

-- the count, the pairs, and zeros
block : (ps : List Prefix) (o o' : List ℕ) (n : ℕ) → n ≡ length ps → 1 + 2 * n ≤ length o
    → Cleared (set (sets o 1 (words_of (pairs_of ps))) 0 n) (2 * n + 1) o' → o' ≡ block_of (length o) (pairs_of ps)
block ps o o' n e h c =
    let ws = words_of (pairs_of ps) in
    let lw : length ws ≡ 2 * n = words_length 2 (pairs_of ps) (shaped_pairs ps) ∙ omega (arith, length_pairs ps) in
    let f = 2 * n + 1 in
    let o3 = set (sets o 1 ws) 0 n in
    let l : length o3 ≡ length o = simp (length-set, length-sets) in
    sym (take-append-drop f o')
    ∙ ap₂ ◌++◌ (part_eq o' o3 0 0 f (omega (arith, c.same)) (omega arith) (λ k m. c.before (0 + k) (omega arith))
    ∙ ap (take f) (laid ws o n (omega arith)) ∙ take_at (n ∷ ws) (drop (1 + length ws) o) f (omega (arith, lw)))
    (zeros o' f c.zero)
    ∙ block_path (length o) (pairs_of ps) n (length o' - f) ws (e ∙ sym (length_pairs ps)) refl (omega (arith, c.same))

-- HOW MANY BLOCKS at most, by either method
module _ {w : List ℕ} (b : SoundBlock set_layout w) (lent : Lent w) {n : ℕ} (e : n ≡ get_or w 0 0) where
  pub taken_most : length (prefixes (entries_of 2 w)) ≤ most * n
  taken_most = omega (
    arith,
    at_most (entries_of 2 w) b.sound (entries_plain w) (entries_under w lent),
    entries_count 2 (omega arith) w n e,
  )

  pub audited_most : length (audited (entries_of 2 w)) ≤ most * n
  audited_most = omega (arith, taken_most, ap length (agree (entries_of 2 w) b.sound (entries_plain w) (entries_under w lent)))

pub by_count : (ps : List Prefix) (room : ℕ) (o : List ℕ) {n : ℕ} {o₁ : List ℕ} → room < length o → tally n o₁ ≡ all_noted 0 ps (tally 0 o)
    → Fitting ps room o (leb n room) o₁
by_count ps room o {n} {o₁} h q = record { fits = go (dec_le (length ps) room); same = ap (λ (t : Tally). t.words) counted }
  where
    counted : tally n o₁ ≡ tally (min (0 + length ps) (length o)) o
    counted = q ∙ all_counted ps 0 o (omega arith)

    many : n ≡ min (0 + length ps) (length o)
    many = ap (λ (t : Tally). t.count) counted

    go : Dec (length ps ≤ room) → leb n room ≡ leb (length ps) room
    go (yes l) = le-leb n room (omega (arith, many)) ∙ sym (le-leb (length ps) room l)
    go (no l) = lt-leb n room (omega (arith, many, l)) ∙ sym (lt-leb (length ps) room (omega (arith, l)))

-- A CALL, by either method: `make` gives the blocks that are due of a set's entries
module _ (make : List Entry → List Prefix) (w o : List ℕ) where
  abbrev ps : List Prefix
  ps = make (entries_of 2 w)

  abbrev due : Outcome
  due = from_one set_layout pair_layout (λ es. pairs_of (make es)) w o

  -- the refusals that come before room
  abbrev judges : List Finding
  judges = input 0 set_layout w ∷ output 1 (length o) ∷ []

  abbrev rest : Outcome
  rest = stored 1 pair_layout o (pairs_of ps)

  -- where none of them applies the set is sound and the output has words; and whatever is found of the room and then stored, the answer is
  -- the one that is due
  module _ {u : Unit {0}} (g : FirstOf judges (Ok u)) where
    pub sound : SoundBlock set_layout w
    sound = verdict_sound set_layout w g.clear.0

    pub some : 0 < length o
    some = some_words (length o) g.clear.1.0

    module _ {room : ℕ} (r : room ≡ capacity pair_layout (length o)) where
      in_words : 1 + 2 * room ≤ length o
      in_words = room_words pair_layout (length o) room some (omega (arith, r))

      -- as many pairs as blocks
      test : {t : Bool} {o₁ : List ℕ} → Fitting ps room o t o₁ → t ≡ leb (length (pairs_of ps)) room
      test q = q.fits ∙ ap (λ (k : ℕ). leb k room) (sym (length_pairs ps))

      -- THE PAIRS are stored
      module _ {t : Bool} {o₁ : List ℕ} (q : Fitting ps room o t o₁) (z : t ≡ true) {m : ℕ} {o₂ : List ℕ}
          (p : tally m o₂ ≡ all_noted room ps (tally 0 o₁)) where
        few : length ps ≤ room
        few = leb-true (length ps) room (sym q.fits ∙ z)

        pairs : tally m o₂ ≡ tally (0 + length ps) (sets o 1 (words_of (pairs_of ps)))
        pairs = p ∙ ap (λ (v : List ℕ). all_noted room ps (tally 0 v)) q.same ∙ all_stored room ps 0 o in_words (omega (arith, few))

        all : m ≡ length ps
        all = omega (arith, ap (λ (u : Tally). u.count) pairs)

        words : o₂ ≡ sets o 1 (words_of (pairs_of ps))
        words = ap (λ (u : Tally). u.words) pairs

        whole_block : (o₃ : List ℕ) → Cleared (set o₂ 0 m) (2 * m + 1) o₃ → o₃ ≡ block_of (length o) (pairs_of ps)
        whole_block o₃ c =
            block ps o o₃ m all (omega (arith, all, few, in_words)) (subst (λ (v : List ℕ). Cleared (set v 0 m) (2 * m + 1) o₃) words c)

        pub fits_in : 1 + 2 * m ≤ length o₂
        fits_in = omega (arith, all, few, in_words, ap length words, length-sets o 1 (words_of (pairs_of ps)))

      pub less : room < length o
      less = omega (arith, in_words)

      pub has_room : {t : Bool} {o₁ : List ℕ} → Fitting ps room o t o₁ → HasRoom room o₁
      has_room q = omega (arith, ap length q.same, in_words)

      pub refused : {t : Bool} {o₁ : List ℕ} → Fitting ps room o t o₁ → t ≡ false → {x : Refusal} → x ≡ at_place Room 1
          → outcome (refusal_says x) (o₁ ∷ []) ≡ due
      refused {t} q z {x} e =
          given_by g (o ∷ []) _ rest
          (ap (λ (v : List ℕ). outcome (refusal_says x) (v ∷ [])) q.same ∙ stored_no 1 pair_layout (pairs_of ps) o room r t (test q) z x e)

      pub accepted : {t : Bool} {o₁ : List ℕ} → Fitting ps room o t o₁ → t ≡ true → {m : ℕ} {o₂ : List ℕ} → tally m o₂ ≡ all_noted room ps (tally 0 o₁)
          → {o₃ : List ℕ} → Cleared (set o₂ 0 m) (2 * m + 1) o₃ → outcome (given []) (o₃ ∷ []) ≡ due
      accepted {t} q z p {o₃} c =
          given_by g (o ∷ []) _ rest
          (stored_yes 1 pair_layout (pairs_of ps) o room r t (test q) z o₃ (whole_block q z p o₃ c))
