-- Aligned fits and reservations: the statements of specs/Aligned on answers, reservations, later words and j = 0. When they are refused with 4, 6, 7 and
-- 16, and when they are accepted, stands in FitOutcomes. With j at most 63 each call is the call with the multiples of 2^j as its starts, of
-- which the laws on fits hold as they stand.
use mathlib.Core.Path.{◌≡◌, refl, sym, ◌∙◌, ap, subst}
use mathlib.Core.Logic.{◌⊎◌, inl, inr}
use mathlib.Core.Option.{Option, some}
use mathlib.Core.List.{List, [], ◌∷◌, ◌++◌}
use Prim.Native.Nat.{ℕ, ◌≤◌}
use native.Mathlib.Omega.{arith}
use lib.Dec.{eqb, ltb}
use lib.ListN.{length}
use Rattle.entries.specs.Entries.{Entry}
use Rattle.answers.specs.Answers.{Finding}
use Rattle.answers.specs.Answers.{outcome, given, refuse, Clear}
use Rattle.answers.specs.Steps.{Named}
use Rattle.answers.proofs.Turns.{turn_keeps, turn_accepted, clear_split, refused_named}
use Rattle.blocks.specs.Blocks.{set_layout, entries_of}
use Rattle.blocks.specs.Calls.{backwards, room}
use Rattle.blocks.proofs.Judging.{verdict_sound, sound_verdict}
use Rattle.fits.specs.Fits.{aligned, place_in, first_gap, shortest_gap}
use Rattle.fits.specs.Starts.{Multiple, FirstAt, BestAt}
use Rattle.fits.specs.Steps.{Asked}
use Rattle.fits.specs.Calls.{zero_run, no_gap, place_of, answered, fit_call, reserved_at, reserved_with, reserve_call}
use Rattle.fits.specs.Calls.{last_power, too_high, align_refusals, aligned_place, fit_aligned_call, reserve_aligned_call}
use Rattle.fits.proofs.Multiples.{multiples, every_start}
use Rattle.fits.proofs.Meaning.{first_at, best_at, first_at_only, best_at_only}
use Rattle.fits.proofs.Asking.{asked_right, at_place, fit_asked, aligned_fit, aligned_reserve, fit_anywhere, reserve_anywhere}
use Rattle.fits.proofs.Reserving.{aligned_chosen}
use Rattle.demands.specs.Plain.{Iff}
use Rattle.demands.specs.Outcomes.{Accepts, Reservable}
use Rattle.demands.specs.Stored.{SameOutcome, both_refuse}
use Rattle.demands.specs.Aligned.{AlignedAsked, FirstFitAligned, BestFitAligned, ReserveAlignedKeeps, ReserveAligned, AlignedReservable, AlignedNoRoom}
use Rattle.demands.specs.Aligned.{ReserveAlignedRoom, LaterAligned, AlignedZero, AlignedZeroCalls}
use Rattle.demands.proofs.Findings.{Numbered, applied, named_number, named_split}
use Rattle.demands.proofs.Rooms.{Not5, input_not, range_not}
use Rattle.demands.proofs.Later.{inputs_same, inputs_alike, turn_alike}
use Rattle.demands.proofs.Fits.{reserve_means, reserve_room}
use Rattle.demands.proofs.FitOutcomes.{at_least_one, takes-last, reserve_accepted_exactly}

-- ANSWERS: the call answers what the meaning says, and only that
module _ (choose : List Entry → Option Entry) (w : List ℕ) (a b k j : ℕ) where
  asked_aligned : Asked w a b k j → AlignedAsked w a b k j
  asked_aligned g = record {
    run = record { sound = sound_verdict set_layout w g.block; order = g.order; some = λ z. omega (arith, g.run, z) };
    power = g.power;
  }

  -- rightly asked for, the call answers its place
  answers_place : (s : ℕ) → AlignedAsked w a b k j → aligned_place choose w a b k j ≡ some s → fit_aligned_call choose w a b k j ≡ answered s
  answers_place s h e =
      aligned_fit choose w a b k j h.power
      ∙ fit_asked (place_in (aligned j) choose) w a b k (verdict_sound set_layout w h.run.sound) h.run.order (at_least_one k h.run.some)
      ∙ ap at_place e

  -- of a meaning that the place has, and that only one place has
  answers_exactly : (Means : Option ℕ → Type 0) → (1 ≤ k → Means (aligned_place choose w a b k j)) → ((o p : Option ℕ) → Means o → Means p → o ≡ p)
      → (s : ℕ) → Iff (fit_aligned_call choose w a b k j ≡ answered s) (AlignedAsked w a b k j × Means (some s))
  answers_exactly Means is only s = record {
    to = λ e. let c = aligned_chosen choose w a b k j s (sym e) in (asked_aligned c.asked, subst Means c.chosen.place (is c.asked.run));
    from = λ h. answers_place s h.0 (only (aligned_place choose w a b k j) (some s) (is (at_least_one k h.0.run.some)) h.1);
  }

pub first_fit_aligned : FirstFitAligned
first_fit_aligned w a b k j s =
    answers_exactly first_gap w a b k j (FirstAt (Multiple j) a b k (entries_of 2 w)) (first_at (aligned j) (Multiple j) (multiples j) a b k (entries_of 2 w))
    (first_at_only (Multiple j) a b k (entries_of 2 w)) s

pub best_fit_aligned : BestFitAligned
best_fit_aligned w a b k j s =
    answers_exactly shortest_gap w a b k j (BestAt (Multiple j) a b k (entries_of 2 w)) (best_at (aligned j) (Multiple j) (multiples j) a b k (entries_of 2 w))
    (best_at_only (Multiple j) a b k (entries_of 2 w)) s

-- RESERVATIONS
pub reserve_aligned_keeps : ReserveAlignedKeeps
unfolding reserve_aligned_call
reserve_aligned_keeps choose w a b k j =
    turn_keeps (align_refusals w a b k j ++ takes-last choose w a b k j) (w ∷ []) (reserved_with w (place_of (aligned_place choose w a b k j)) k) tt

module _ (choose : List Entry → Option Entry) (w : List ℕ) (a b k j : ℕ) where
  -- the call with the multiples of 2^j as its starts
  abbrev fit : ℕ → ℕ → ℕ → List Entry → Option ℕ
  fit = place_in (aligned j) choose

  -- where a reservation is accepted, or refused for want of room, and where the question answers, j is at most 63
  taken_power : (xs : List ℕ) (after : List (List ℕ)) → reserve_aligned_call choose w a b k j ≡ outcome (given xs) after → j ≤ last_power
  unfolding reserve_aligned_call
  taken_power xs after e =
      let s = place_of (aligned_place choose w a b k j) in
      let t = turn_accepted (align_refusals w a b k j ++ takes-last choose w a b k j) (w ∷ []) (reserved_with w s k) xs after e in
      (asked_right w a b k j (clear_split (align_refusals w a b k j) (takes-last choose w a b k j) t.0).0).power

  room_power : reserve_aligned_call choose w a b k j ≡ refuse 5 0 (w ∷ []) → j ≤ last_power
  unfolding reserve_aligned_call
  room_power e =
      go (named_split (align_refusals w a b k j) (takes-last choose w a b k j)
      (refused_named (align_refusals w a b k j ++ takes-last choose w a b k j) (w ∷ []) _ _ 5 0 (w ∷ []) e))
    where
      other : Numbered Not5 (align_refusals w a b k j)
      other = (
        input_not set_layout w,
        (range_not a b, (applied Not5 (eqb k 0) 6 (λ e. omega arith), (applied Not5 (ltb last_power j) 16 (λ e. omega arith), tt))),
      )

      go : {gs : List Finding} → Named (align_refusals w a b k j) 5 0 ⊎ (Clear (align_refusals w a b k j) × Named gs 5 0) → j ≤ last_power
      go (inl m) = absurd (named_number Not5 (align_refusals w a b k j) other m refl)
      go (inr c) = (asked_right w a b k j c.0).power

  asked_power : (s : ℕ) → fit_aligned_call choose w a b k j ≡ answered s → j ≤ last_power
  asked_power s e = (aligned_chosen choose w a b k j s (sym e)).asked.power

  module _ (h : j ≤ last_power) where
    asks : fit_aligned_call choose w a b k j ≡ fit_call fit w a b k
    asks = aligned_fit choose w a b k j h

    takes : reserve_aligned_call choose w a b k j ≡ reserve_call fit w a b k
    takes = aligned_reserve choose w a b k j h

  aligned_accepted : Iff (Accepts (reserve_aligned_call choose w a b k j)) (AlignedReservable choose w a b k j)
  aligned_accepted = record {
    to = λ c.
        let h = taken_power c.values c.after c.is in
        let r = (reserve_accepted_exactly fit w a b k).to (subst Accepts (takes h) c) in
        record { place = r.place; answered = asks h ∙ r.answer; room = r.room };
    from = λ r.
        let h = asked_power r.place r.answered in
        let d : Reservable fit w a b k = record { place = r.place; answer = sym (asks h) ∙ r.answered; room = r.room } in
        subst Accepts (sym (takes h)) ((reserve_accepted_exactly fit w a b k).from d);
  }

  aligned_no_room : Iff (reserve_aligned_call choose w a b k j ≡ refuse 5 0 (w ∷ [])) (AlignedNoRoom choose w a b k j)
  aligned_no_room = record {
    to = λ e.
        let h = room_power e in
        let r = (reserve_room fit w a b k).to (sym (takes h) ∙ e) in
        record { place = r.place; answered = asks h ∙ r.answered; short = r.short };
    from = λ r.
        let h = asked_power r.place r.answered in
        takes h ∙ (reserve_room fit w a b k).from (record { place = r.place; answered = sym (asks h) ∙ r.answered; short = r.short });
  }

pub reserve_aligned_room : ReserveAlignedRoom
reserve_aligned_room choose w a b k j = (aligned_accepted choose w a b k j, aligned_no_room choose w a b k j)

pub reserve_aligned_means : ReserveAligned
reserve_aligned_means choose w a b k j s after e =
    let h = taken_power choose w a b k j (s ∷ []) (after ∷ []) e in
    let r = reserve_means (place_in (aligned j) choose) w a b k s after (sym (takes choose w a b k j h) ∙ e) in
    (asks choose w a b k j h ∙ r.0, r.1)

-- LATER WORDS
pub later_aligned : LaterAligned
unfolding fit_aligned_call reserve_aligned_call
later_aligned w v s choose a b k j = (
  inputs_same [] set_layout (omega arith) 0 (w ∷ []) (v ∷ []) (s, tt) [] [] _ _ (λ e. cc),
  inputs_alike (SameOutcome (w ∷ []) (v ∷ [])) (w ∷ []) (v ∷ []) both_refuse set_layout (omega arith) 0 (w ∷ []) (v ∷ []) (s, tt) [] [] _ _
      (λ e. let h : entries_of 2 w ≡ entries_of 2 v = cc in
      let place = aligned_place choose v a b k j in
      rw (s.long, h) (turn_alike _ _ (backwards a b ∷ zero_run k ∷ too_high j ∷ no_gap place
      ∷ room 0 set_layout (length v) (reserved_at v (place_of place) k) ∷ []) _ _)),
)

-- J = 0
pub aligned_zero : AlignedZero
aligned_zero = (ap (λ (up : ℕ → ℕ). place_in up first_gap) every_start, ap (λ (up : ℕ → ℕ). place_in up shortest_gap) every_start)

pub aligned_zero_calls : AlignedZeroCalls
aligned_zero_calls w a b k = (
  fit_anywhere first_gap w a b k,
  fit_anywhere shortest_gap w a b k,
  reserve_anywhere first_gap w a b k,
  reserve_anywhere shortest_gap w a b k,
)
