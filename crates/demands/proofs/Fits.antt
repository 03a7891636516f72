-- Fits and reservations: the statements of specs/Fits.
use mathlib.Core.Path.{◌≡◌, refl, sym, ◌∙◌, ap, subst}
use mathlib.Core.Bool.{true}
use mathlib.Core.Option.{Option, none, some}
use mathlib.Core.List.{List, [], ◌∷◌}
use Prim.Native.Nat.{ℕ, ◌+◌, ◌-◌, ◌≤◌, ◌<◌}
use native.Mathlib.Omega.{arith}
use lib.Dec.{eqb}
use lib.ListN.{length}
use borrow.Author.Tests.{eqb-false}
use Rattle.entries.specs.Entries.{Entry}
use Rattle.entries.specs.Build.{pick}
use Rattle.answers.specs.Answers.{Finding}
use Rattle.answers.specs.Answers.{Outcome, outcome, given, refused, refuse, applies, Clear}
use Rattle.answers.proofs.Turns.{turn_keeps, turn_accepted, clear_turn, clear_at, applies_clear, refused≢given}
use Rattle.blocks.specs.Blocks.{set_layout, capacity, entries_of, block_of}
use Rattle.fits.specs.Fits.{first_fit, best_fit}
use Rattle.fits.specs.Meaning.{FirstOf, BestOf, answering}
use Rattle.fits.specs.Calls.{gapless, place_of, ask_refusals, fit_refusals, answered, fit_call, reserved_at, reserved_with, reserve_refusals, reserve_call}
use Rattle.fits.proofs.Meaning.{first_fit_lem, best_fit_lem}
use Rattle.fits.proofs.Reserving.{fit_chosen, reserve_inserts}
use Rattle.sets.specs.Calls.{insert_call}
use Rattle.demands.specs.Plain.{Iff, In, answers, SetLeft, between}
use Rattle.demands.specs.Fits.{FirstFit, BestFit, ReserveKeeps, Reserve, ReserveRoom}
use Rattle.demands.proofs.Sets.{insert_means}
use Rattle.demands.proofs.Findings.{Where, Numbered, applied}
use Rattle.demands.proofs.Rooms.{Not5, input_not, range_not, refused_alone}

-- a run of no numbers is not asked for
pub some_run : (k : ℕ) → applies (eqb k 0) 6 ≡ 0 → 1 ≤ k
some_run k e = let n : k ≡ 0 → ⊥ = eqb-false k 0 (applies_clear (eqb k 0) 5 e) in omega arith

pub first_fit_answers : FirstFit
first_fit_answers w a b k s e =
    let c = fit_chosen first_fit w a b k s (sym e) in
    subst (FirstOf a b k (entries_of 2 w)) c.place (first_fit_lem a b k (entries_of 2 w) (some_run k (clear_at (ask_refusals w a b k) c.clear 2)))

pub best_fit_answers : BestFit
best_fit_answers w a b k s e =
    let c = fit_chosen best_fit w a b k s (sym e) in
    subst (BestOf a b k (entries_of 2 w)) c.place (best_fit_lem a b k (entries_of 2 w) (some_run k (clear_at (ask_refusals w a b k) c.clear 2)))

pub reserve_keeps : ReserveKeeps
unfolding reserve_call
reserve_keeps fit w a b k =
    turn_keeps (reserve_refusals w a b k (fit a b k (entries_of 2 w))) (w ∷ []) (reserved_with w (place_of (fit a b k (entries_of 2 w))) k) tt

-- outcomes that are the same answer the same place
same_place : (p s : ℕ) (l m : List (List ℕ)) → outcome (given (p ∷ [])) l ≡ outcome (given (s ∷ [])) m → p ≡ s
same_place p s l m e = cc

module _ (fit : ℕ → ℕ → ℕ → List Entry → Option ℕ) (w : List ℕ) (a b k s : ℕ) where
  -- a reservation that is accepted answers what the question answers
  asked : (after : List ℕ) → reserve_call fit w a b k ≡ outcome (given (s ∷ [])) (after ∷ []) → fit_call fit w a b k ≡ answers (s ∷ [])
  unfolding reserve_call fit_call
  asked after e =
      let o = fit a b k (entries_of 2 w) in
      let t = turn_accepted (reserve_refusals w a b k o) (w ∷ []) (reserved_with w (place_of o) k) (s ∷ []) (after ∷ []) e in
      clear_turn (fit_refusals w a b k o) [] (answered (place_of o)) (t.0.0, (t.0.1.0, (t.0.1.1.0, (t.0.1.1.1.0, tt))))
      ∙ ap answered (same_place (place_of o) s _ _ t.1)

  inserted : (after : List ℕ) (x : Outcome) → insert_call w s (s + k - 1) ≡ x → answering s x ≡ outcome (given (s ∷ [])) (after ∷ [])
      → SetLeft (length w) (λ x. pick (between s (s + k - 1) x) true (In w x)) after
  inserted after (outcome (given xs) lent) i d =
      let l : lent ≡ after ∷ [] = cc in insert_means w s (s + k - 1) xs after (i ∙ ap (outcome (given xs)) l)
  inserted after (outcome (refused n p) lent) i d = absurd (refused≢given d)

pub reserve_means : Reserve
reserve_means fit w a b k s after e =
    let f = asked fit w a b k s after e in
    (f, inserted fit w a b k s after (insert_call w s (s + k - 1)) refl (sym (reserve_inserts fit w a b k s f) ∙ e))

-- ROOM exactly: what is tried before it is what the question tries, and that is clear exactly where the question answers a place
pub reserve_room : ReserveRoom
unfolding reserve_call fit_call
reserve_room fit w a b k = record {
  to = λ e. let h = exactly.to e in record { place = place_of o; answered = clear_turn firsts [] (answered (place_of o)) h.0; short = h.1 };
  from = λ h.
      let t = turn_accepted firsts [] (answered (place_of o)) (h.place ∷ []) [] h.answered in
      exactly.from (t.0, rw (same_place (place_of o) h.place _ _ t.1) h.short);
}
  where
    o : Option ℕ
    o = fit a b k (entries_of 2 w)

    firsts : List Finding
    firsts = fit_refusals w a b k o

    -- where there is no place, the number is 7
    gap_not : (p : Option ℕ) → Where Not5 (gapless p)
    gap_not none z e = omega arith
    gap_not (some s) z e = omega arith

    other : Numbered Not5 firsts
    other = (input_not set_layout w, (range_not a b, (applied Not5 (eqb k 0) 6 (λ e. omega arith), (gap_not o, tt))))

    exactly : Iff (reserve_call fit w a b k ≡ refuse 5 0 (w ∷ [])) (Clear firsts × (capacity set_layout (length w) < length (reserved_at w (place_of o) k)))
    exactly = refused_alone set_layout 0 w (reserved_at w (place_of o) k) firsts other (place_of o ∷ []) (block_of (length w) (reserved_at w (place_of o) k) ∷ [])
