-- What the code's tests make of the questions' definition.
use mathlib.Core.Path.{◌≡◌, refl, sym, ◌∙◌, ap}
use mathlib.Core.Option.{Option}
use mathlib.Core.List.{List, [], ◌∷◌}
use Prim.Native.Nat.{ℕ, ◌≤◌, ◌<◌}
use native.Mathlib.Omega.{arith}
use lib.Dec.{eqb, ltb}
use borrow.Author.Tests.{eqb-false, eq-eqb, ne_eqb, le-ltb}
use borrow.Author.Tests.{ltb-false, lt-ltb}
use Rattle.std.specs.Prelude.{Option as Held, Result, Ok, Err}
use Rattle.entries.specs.Entries.{Entry}
use Rattle.entries.specs.Questions.{filter}
use Rattle.answers.specs.declared.Reason.TheVariants.{ZeroRun, Align}
use Rattle.answers.specs.declared.Refusal.{Refusal}
use Rattle.answers.specs.Answers.{Outcome, outcome, judged, applies, Clear}
use Rattle.answers.specs.Steps.{FirstOf}
use Rattle.answers.specs.Says.{refusal_says, at_place as refusal_at}
use Rattle.answers.proofs.Turns.{stops, stops_in, passes, passes_in, ends, refused_by, given_by, applies_clear}
use Rattle.blocks.specs.Blocks.{set_layout, entries_of, SoundBlock}
use Rattle.blocks.proofs.Judging.{sound_verdict}
use Rattle.searches.specs.Calls.{window_refusals}
use Rattle.searches.proofs.Windows.{clear_window}
use Rattle.fits.specs.declared.gap.Gap.{Gap}
use Rattle.fits.specs.Fits.{gaps, fits, anywhere, aligned, start_in, place_in}
use Rattle.fits.specs.Calls.{zero_run, gapless, place_of, answered, fit_call, reserve_call}
use Rattle.fits.specs.Calls.{last_power, too_high, align_refusals, aligned_place, fit_aligned_call, reserve_aligned_call}
use Rattle.fits.specs.Steps.{Asked, GapIs, gap_of}
use Rattle.fits.proofs.Multiples.{every_start}

-- THE REFUSALS before a place is sought
module _ (w : List ℕ) (a b k j : ℕ) where
  pub ask_window : (e : Refusal) → FirstOf (window_refusals set_layout w a b) (Err e) → FirstOf (align_refusals w a b k j) (Err e)
  ask_window e f = stops_in (window_refusals set_layout w a b) (zero_run k ∷ too_high j ∷ []) e f

  module _ (u : Unit {0}) (f : FirstOf (window_refusals set_layout w a b) (Ok u)) where
    pub ask_zero : (e : Refusal) → e ≡ refusal_at ZeroRun 0 → k ≡ 0 → FirstOf (align_refusals w a b k j) (Err e)
    ask_zero e q h =
        passes_in (window_refusals set_layout w a b) (zero_run k ∷ too_high j ∷ []) u (Err e) f
        (stops ZeroRun e (applies (eqb k 0) 6) 0 (too_high j ∷ []) q (rw (eq-eqb k 0 h) refl))

    module _ (n : k ≡ 0 → ⊥) where
      some_asked : (r : Result (Unit {0}) Refusal) → FirstOf (too_high j ∷ []) r → FirstOf (align_refusals w a b k j) r
      some_asked r g =
          passes_in (window_refusals set_layout w a b) (zero_run k ∷ too_high j ∷ []) u r f
          (passes (applies (eqb k 0) 6) 0 (too_high j ∷ []) r (rw (ne_eqb k 0 n) refl) g)

      pub ask_high : (e : Refusal) → e ≡ refusal_at Align 0 → last_power < j → FirstOf (align_refusals w a b k j) (Err e)
      ask_high e q h = some_asked (Err e) (stops Align e (applies (ltb last_power j) 16) 0 [] q (rw (lt-ltb last_power j h) refl))

      pub ask_right : j ≤ last_power → FirstOf (align_refusals w a b k j) (Ok tt)
      ask_right h = some_asked (Ok tt) (ends (applies (ltb last_power j) 16) 0 (rw (le-ltb last_power j h) refl))

pub asked_right : (w : List ℕ) (a b k j : ℕ) → Clear (align_refusals w a b k j) → Asked w a b k j
asked_right w a b k j c =
    let g = clear_window set_layout w a b (omega arith) (c.0, (c.1.0, tt)) in
    let n : k ≡ 0 → ⊥ = eqb-false k 0 (applies_clear (eqb k 0) 5 c.1.1.0) in
    let h = ltb-false last_power j (applies_clear (ltb last_power j) 15 c.1.1.1.0) in
    record { block = g.block; order = g.order; run = omega arith; power = omega (arith, h) }

-- what the question says of a place, or of none, where nothing is refused before
abbrev pub at_place : Option ℕ → Outcome
at_place o = judged (gapless o) 0 [] (answered (place_of o))

-- the question refused, given, or with no gap
module _ (choose : List Entry → Option Entry) (w : List ℕ) (a b k j : ℕ) where
  pub fit_refused : (e : Refusal) → FirstOf (align_refusals w a b k j) (Err e) → outcome (refusal_says e) [] ≡ fit_aligned_call choose w a b k j
  unfolding fit_aligned_call
  fit_refused e f = refused_by f [] (at_place (aligned_place choose w a b k j))

  pub fit_answers : (u : Unit {0}) → FirstOf (align_refusals w a b k j) (Ok u) → (o : Option ℕ) (y : Outcome) → aligned_place choose w a b k j ≡ o
      → y ≡ at_place o → y ≡ fit_aligned_call choose w a b k j
  unfolding fit_aligned_call
  fit_answers u f o y p q = given_by f [] y (at_place (aligned_place choose w a b k j)) (q ∙ ap at_place (sym p))

module _ (fit : ℕ → ℕ → ℕ → List Entry → Option ℕ) (w : List ℕ) (a b k : ℕ) where
  -- Where nothing is refused before, the question answers what `fit` names: its place, or 7 where it names none.
  pub fit_asked : SoundBlock set_layout w → a ≤ b → 1 ≤ k → fit_call fit w a b k ≡ at_place (fit a b k (entries_of 2 w))
  unfolding fit_call
  fit_asked s h n = rw (sound_verdict set_layout w s, le-ltb b a h, ne_eqb k 0 (λ z. omega arith))

-- AN ALIGNED CALL whose j is at most 63 is the call with the multiples of 2^j as its starts: so whatever holds of a call with any starts holds of it
module _ (choose : List Entry → Option Entry) (w : List ℕ) (a b k : ℕ) where
  -- [A1] the question,
  pub aligned_fit : (j : ℕ) → j ≤ last_power → fit_aligned_call choose w a b k j ≡ fit_call (place_in (aligned j) choose) w a b k
  unfolding fit_aligned_call fit_call
  aligned_fit j h = rw (le-ltb last_power j h)

  -- [A1] the reservation,
  pub aligned_reserve : (j : ℕ) → j ≤ last_power → reserve_aligned_call choose w a b k j ≡ reserve_call (place_in (aligned j) choose) w a b k
  unfolding reserve_aligned_call reserve_call
  aligned_reserve j h = rw (le-ltb last_power j h)

  -- [A6] and with j = 0 they are the calls with every number as a start
  pub fit_anywhere : fit_aligned_call choose w a b k 0 ≡ fit_call (place_in anywhere choose) w a b k
  fit_anywhere = aligned_fit 0 (omega arith) ∙ ap (λ (up : ℕ → ℕ). fit_call (place_in up choose) w a b k) every_start

  pub reserve_anywhere : reserve_aligned_call choose w a b k 0 ≡ reserve_call (place_in anywhere choose) w a b k
  reserve_anywhere = aligned_reserve 0 (omega arith) ∙ ap (λ (up : ℕ → ℕ). reserve_call (place_in up choose) w a b k) every_start

-- so what the aligned calls with j = 0 come to is what they come to
module _ (choose : List Entry → Option Entry) (w : List ℕ) (a b k : ℕ) {x : Outcome} where
  pub by_fit : x ≡ fit_aligned_call choose w a b k 0 → x ≡ fit_call (place_in anywhere choose) w a b k
  by_fit e = e ∙ fit_anywhere choose w a b k

  pub by_reserve : x ≡ reserve_aligned_call choose w a b k 0 → x ≡ reserve_call (place_in anywhere choose) w a b k
  by_reserve e = e ∙ reserve_anywhere choose w a b k

-- the gap that was found, as a place
module _ (choose : List Entry → Option Entry) (w : List ℕ) (a b k j : ℕ) (g : Held Gap)
    (e : GapIs j (choose (filter (fits (aligned j) k) (gaps a b (entries_of 2 w)))) g) where
  pub place_is : aligned_place choose w a b k j ≡ start_in (aligned j) (gap_of g)
  unfolding place_in
  place_is = ap (start_in (aligned j)) (sym e.gap)
