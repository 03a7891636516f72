-- A reservation is the question followed by the insertion.
use mathlib.Core.Path.{◌≡◌, refl, sym, ◌∙◌, ap, subst}
use mathlib.Core.Option.{Option, none, some}
use mathlib.Core.List.{List, [], ◌∷◌}
use Prim.Native.Nat.{ℕ, zero, suc, ◌+◌, ◌-◌, ◌≤◌}
use native.Mathlib.Omega.{arith}
use lib.Dec.{ltb}
use lib.ListN.{length}
use borrow.Author.Tests.{le-ltb}
use Rattle.entries.specs.Entries.{Entry}
use Rattle.entries.specs.Sets.{M}
use Rattle.answers.specs.declared.Refusal.{Refusal}
use Rattle.answers.specs.Answers.{Answer, given, refused, Outcome, outcome, judged, applies, Clear}
use Rattle.answers.specs.Says.{number_of, refusal_says}
use Rattle.answers.proofs.Turns.{refused≢given, turn_refused, turn_accepted, clear_turn, clear_both, clear_split}
use Rattle.blocks.specs.Blocks.{set_layout, capacity, entries_of, block_of}
use Rattle.blocks.proofs.Judging.{sound_verdict}
use Rattle.edits.specs.Calls.{edit_call}
use Rattle.fits.specs.Fits.{aligned, place_in}
use Rattle.fits.specs.Calls.{ask_refusals, fit_refusals, gapless, no_gap, place_of, answered, fit_call, reserved_at, reserve_call}
use Rattle.fits.specs.Calls.{too_high, align_refusals, fit_aligned_refusals, aligned_place, fit_aligned_call, reserve_aligned_call}
use Rattle.fits.specs.Meaning.{answering}
use Rattle.fits.specs.Starts.{Multiple, FirstAt, BestAt}
use Rattle.fits.specs.declared.Choice.{Choice}
use Rattle.fits.specs.declared.Choice.TheVariants.{First, Shortest}
use Rattle.fits.specs.Steps.{chooser, Asked, Placing, reserving}
use Rattle.fits.proofs.Multiples.{multiples}
use Rattle.fits.proofs.Asking.{asked_right, at_place, aligned_fit, aligned_reserve}
use Rattle.fits.proofs.Meaning.{first_at, best_at}

-- where nothing is refused before, and the question finds no place, the reservation is refused as the question is
last : (w : List ℕ) (k : ℕ) (o : Option ℕ) (n p : ℕ) → at_place o ≡ outcome (refused n p) []
    → judged (gapless o) 0 (w ∷ []) (reserving w (place_of o) k) ≡ outcome (refused n p) (w ∷ [])
last w k none n p h = let i : refused 7 0 ≡ refused n p = cc in ap (λ (x : Answer). outcome x (w ∷ [])) i
last w k (some s) n p h = absurd (refused≢given (sym h))

module _ (fit : ℕ → ℕ → ℕ → List Entry → Option ℕ) (w : List ℕ) (a b k : ℕ) where
  -- what an answer of the question tells
  pub record Chosen (s : ℕ) : Type 0 where
    pub clear : Clear (ask_refusals w a b k)
    pub place : fit a b k (entries_of 2 w) ≡ some s

  pub fit_chosen : (s : ℕ) → answered s ≡ fit_call fit w a b k → Chosen s
  unfolding fit_call
  fit_chosen s e =
      let t = turn_accepted (fit_refusals w a b k (fit a b k (entries_of 2 w))) [] (answered (place_of (fit a b k (entries_of 2 w)))) (s ∷ []) [] (sym e) in
      record { clear = (t.0.0, (t.0.1.0, (t.0.1.1.0, tt))); place = go (fit a b k (entries_of 2 w)) t.0.1.1.1.0 t.1 }
    where
      go : (o : Option ℕ) → gapless o ≡ 0 → answered (place_of o) ≡ answered s → o ≡ some s
      go none z h = absurd (omega arith)
      go (some t) z h = let i : t ≡ s = cc in ap some i

  -- a reservation at the place that the question answers
  pub reserved_at_lem : (s : ℕ) → Chosen s → reserve_call fit w a b k ≡ reserving w s k
  unfolding reserve_call
  reserved_at_lem s c =
      clear_turn (ask_refusals w a b k) (w ∷ []) (rest (fit a b k (entries_of 2 w))) c.clear ∙ ap rest c.place
    where
      rest : Option ℕ → Outcome
      rest o = judged (gapless o) 0 (w ∷ []) (reserving w (place_of o) k)

  -- A RESERVATION IS THE QUESTION FOLLOWED BY THE INSERTION. Where the question answers s it inserts s to s+k-1, with that call's block
  -- and refusal, and answers s; else it refuses as the question does, and changes nothing.
  -- [F4, F5] the reservation of a place that the question answers is the insertion there, which judges room for that place only
  pub reserve_inserts : (s : ℕ) → fit_call fit w a b k ≡ answered s
      → reserve_call fit w a b k ≡ answering s (edit_call set_layout w s (s + k - 1) (some []))
  unfolding edit_call
  reserve_inserts s e =
      let c = fit_chosen s (sym e) in
      let j = asked_right w a b k 0 (clear_both (ask_refusals w a b k) (too_high 0 ∷ []) c.clear (refl, tt)) in
      let m : s ≤ s + k - 1 = omega (arith, j.run) in
      reserved_at_lem s c
      ∙ rw (sound_verdict set_layout w j.block, le-ltb (s + k - 1) s m)
      (go (applies (ltb (capacity set_layout (length w)) (length (reserved_at w s k))) 5) (block_of (length w) (reserved_at w s k)))
    where
      go : (n : ℕ) (l : List ℕ) → judged n 0 (w ∷ []) (outcome (given (s ∷ [])) (l ∷ [])) ≡ answering s (judged n 0 (w ∷ []) (outcome (given []) (l ∷ [])))
      go zero l = refl
      go (suc n) l = refl

  -- [F4] where the question is refused, so is the reservation, with the same number and place
  pub reserve_refuses : (n p : ℕ) → fit_call fit w a b k ≡ outcome (refused n p) [] → reserve_call fit w a b k ≡ outcome (refused n p) (w ∷ [])
  unfolding fit_call reserve_call
  reserve_refuses n p e = turn_refused (ask_refusals w a b k) (w ∷ []) (last w k (fit a b k (entries_of 2 w)) n p) e

-- THE SAME OF ALIGNED CALLS
module _ (choose : List Entry → Option Entry) (w : List ℕ) (a b k j : ℕ) where
  -- what an answer of the question tells
  pub record ChosenAligned (s : ℕ) : Type 0 where
    pub asked : Asked w a b k j
    pub chosen : Chosen (place_in (aligned j) choose) w a b k s

  aligned_asked : (s : ℕ) → answered s ≡ fit_aligned_call choose w a b k j → Asked w a b k j
  unfolding fit_aligned_call
  aligned_asked s e =
      let place = aligned_place choose w a b k j in
      let t = turn_accepted (fit_aligned_refusals w a b k j place) [] (answered (place_of place)) (s ∷ []) [] (sym e) in
      asked_right w a b k j (clear_split (align_refusals w a b k j) (no_gap place ∷ []) t.0).0

  pub aligned_chosen : (s : ℕ) → answered s ≡ fit_aligned_call choose w a b k j → ChosenAligned s
  aligned_chosen s e =
      let g = aligned_asked s e in
      record { asked = g; chosen = fit_chosen (place_in (aligned j) choose) w a b k s (e ∙ aligned_fit choose w a b k j g.power) }

  -- what remains of a reservation there
  aligned_at : (s : ℕ) → ChosenAligned s → reserve_aligned_call choose w a b k j ≡ reserving w s k
  aligned_at s c = aligned_reserve choose w a b k j c.asked.power ∙ reserved_at_lem (place_in (aligned j) choose) w a b k s c.chosen

  -- [A1, F4, F5] the reservation of the place that the question answers is the insertion there
  pub aligned_inserts : (s : ℕ) → fit_aligned_call choose w a b k j ≡ answered s
      → reserve_aligned_call choose w a b k j ≡ answering s (edit_call set_layout w s (s + k - 1) (some []))
  aligned_inserts s e =
      let h = (aligned_chosen s (sym e)).asked.power in
      aligned_reserve choose w a b k j h ∙ reserve_inserts (place_in (aligned j) choose) w a b k s (sym (aligned_fit choose w a b k j h) ∙ e)

  -- [A1, F4] where the question is refused, so is the reservation, with the same number and place
  pub aligned_refuses : (n p : ℕ) → fit_aligned_call choose w a b k j ≡ outcome (refused n p) []
      → reserve_aligned_call choose w a b k j ≡ outcome (refused n p) (w ∷ [])
  unfolding fit_aligned_call reserve_aligned_call
  aligned_refuses n p e = turn_refused (align_refusals w a b k j) (w ∷ []) (last w k (aligned_place choose w a b k j) n p) e

-- a run of k from the place on ends in the window
place_fits : (choice : Choice) (a b k j s : ℕ) (es : List Entry) → 1 ≤ k → place_in (aligned j) (chooser choice) a b k es ≡ some s → s + k ≤ suc b
place_fits Shortest a b k j s es one e =
    let c = subst (BestAt (Multiple j) a b k es) e (best_at (aligned j) (Multiple j) (multiples j) a b k es one) in
    omega (arith, c.holds.upto, c.gap.run.upto)
place_fits First a b k j s es one e =
    let c = subst (FirstAt (Multiple j) a b k es) e (first_at (aligned j) (Multiple j) (multiples j) a b k es one) in
    omega (arith, c.run.upto)

-- what follows the question's answer in a reservation
module _ (choice : Choice) (w : List ℕ) (a b k j : ℕ) where
  module _ (s : ℕ) (e : answered s ≡ fit_aligned_call (chooser choice) w a b k j) where
    pub placing : b ≤ M → Placing w s k
    placing m =
        let c = aligned_chosen (chooser choice) w a b k j s e in
        let g = c.asked in
        record { block = g.block; run = g.run; fits = omega (arith, place_fits choice a b k j s (entries_of 2 w) g.run c.chosen.place) }

    pub reserve_at : (x : Outcome) → x ≡ reserving w s k → x ≡ reserve_aligned_call (chooser choice) w a b k j
    reserve_at x d = d ∙ sym (aligned_at (chooser choice) w a b k j s (aligned_chosen (chooser choice) w a b k j s e))

  pub reserve_not : (f : Refusal) → outcome (refusal_says f) [] ≡ fit_aligned_call (chooser choice) w a b k j
      → outcome (refusal_says f) (w ∷ []) ≡ reserve_aligned_call (chooser choice) w a b k j
  reserve_not f e = sym (aligned_refuses (chooser choice) w a b k j (number_of f.reason) f.place (sym e))
