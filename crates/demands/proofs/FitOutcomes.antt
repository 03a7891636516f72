-- Fits and reservations, and ranges that are backwards: when they are accepted and when refused, by specs/Outcomes.
use mathlib.Core.Path.{◌≡◌, refl, sym, ◌∙◌, ap, subst}
use mathlib.Core.Option.{Option, none, some}
use mathlib.Core.List.{List, [], ◌∷◌, ◌++◌}
use Prim.Native.Nat.{ℕ, zero, suc, ◌≤◌, ◌<◌}
use native.Mathlib.Omega.{arith}
use native.Mathlib.Decide.{dec_lt}
use lib.Dec.{ltb, eqb}
use lib.ListN.{length}
use borrow.Author.Tests.{le-ltb, ne_eqb}
use borrow.Author.Tests.{ltb-false}
use Rattle.entries.specs.Entries.{Entry}
use Rattle.answers.specs.Answers.{Finding}
use Rattle.answers.specs.Answers.{given, outcome, refuse, in_turn, Clear}
use Rattle.answers.proofs.Turns.{clear_turn, clear_both, clear_split}
use Rattle.answers.proofs.Turns.{applies_clear}
use Rattle.blocks.specs.declared.Layout.{Layout}
use Rattle.blocks.specs.Blocks.{set_layout, entries_of, verdict}
use Rattle.blocks.specs.Calls.{input, backwards, no_room, room}
use Rattle.blocks.proofs.Refusing.{in_order, room_fits}
use Rattle.edits.specs.Calls.{edited, edit_call}
use Rattle.fits.specs.Fits.{anywhere, first_fit, best_fit}
use Rattle.fits.specs.Fits.{aligned, first_gap, shortest_gap}
use Rattle.fits.specs.Meaning.{FirstOf}
use Rattle.fits.specs.Starts.{Multiple, FirstAt}
use Rattle.fits.specs.Calls.{zero_run, gapless, no_gap, place_of, ask_refusals, fit_refusals, answered, fit_call, reserved_at, reserve_refusals, reserve_call}
use Rattle.fits.specs.Calls.{last_power, too_high, align_refusals, aligned_place, fit_aligned_call, reserve_aligned_call}
use Rattle.fits.proofs.Meaning.{first_fit_lem, first_none, best_none}
use Rattle.fits.proofs.Meaning.{first_at}
use Rattle.fits.proofs.Multiples.{multiples}
use Rattle.fits.proofs.Reserving.{fit_chosen}
use Rattle.forms.proofs.Forms.{has_room}
use Rattle.searches.specs.Calls.{window_refusal_call}
use Rattle.demands.specs.Plain.{Iff, SoundSet}
use Rattle.demands.specs.Outcomes.{Accepts, BackwardsExactly, ZeroRunExactly, RunAsked, FreeSomewhere, NoGapExactly, FitAccepted, ReserveAccepted}
use Rattle.demands.specs.Aligned.{AlignedAsked, AlignedSomewhere, NoGapAligned, FitAlignedAccepted, AlignExactly, AlignedBackwards, AlignedZeroRun}
use Rattle.demands.proofs.Findings.{Where, Numbered, applied}
use Rattle.demands.proofs.Rooms.{Other, input_other, range_other, room_other}
use Rattle.demands.proofs.Fits.{some_run}
use Rattle.demands.proofs.Outcomes.{accepted_exactly, iff_by, refused_one}

-- the numbers that a run of no numbers, and one that fits nowhere, do not have
zero_other : (n : ℕ) → Other n 6 → (k : ℕ) → Where (Other n) (zero_run k).number
zero_other n h k = applied (Other n) (eqb k 0) 6 h

gap_other : (n : ℕ) → Other n 7 → (o : Option ℕ) → Where (Other n) (gapless o)
gap_other n h none z e = h e
gap_other n h (some s) z e = z refl

-- the length of a run is not refused exactly if it is not 0
some_asked : (k : ℕ) → (zero_run k).number ≡ 0 → k ≡ 0 → ⊥
some_asked k e z = omega (arith, some_run k e, z)

asked_some : (k : ℕ) → (k ≡ 0 → ⊥) → (zero_run k).number ≡ 0
asked_some k h = rw (ne_eqb k 0 h)

-- 4: a sound block, and then the range, whatever is tried behind it
module _ (l : Layout) (w : List ℕ) (a b : ℕ) (hs : List Finding) (other : Numbered (Other 4) hs) where
  backwards_given : (lent : List (List ℕ)) (xs : List ℕ) (after : List (List ℕ))
      → Iff (in_turn (input 0 l w ∷ backwards a b ∷ hs) lent (outcome (given xs) after) ≡ refuse 4 0 lent) ((verdict l w ≡ 0) × (b < a))
  backwards_given lent xs after =
      iff_by (refused_one 4 0 (backwards a b).number (input 0 l w ∷ []) hs (input_other 4 (omega arith) l w, tt)
      (applied (λ m. m ≡ 4) (ltb b a) 4 refl) other lent xs after)
      (λ h. (h.0.0, not_in_order (dec_lt b a) h.1)) (λ h. ((h.0, tt), λ z. omega (arith, in_order a b z, h.1)))
    where
      not_in_order : Dec (b < a) → ((backwards a b).number ≡ 0 → ⊥) → b < a
      not_in_order (yes h) n = h
      not_in_order (no h) n = absurd (n (rw (le-ltb b a (omega arith))))

pub backwards_exactly : BackwardsExactly
unfolding edit_call window_refusal_call fit_call reserve_call
backwards_exactly w a b = (
  λ l o. backwards_given l w a b (room 0 l (length w) (edited l w a b o) ∷ []) (later l (edited l w a b o), tt) (w ∷ []) _ _,
  λ l. backwards_given l w a b [] tt [] _ _,
  λ fit k. backwards_given set_layout w a b (zero_run k ∷ no_gap (fit a b k (entries_of 2 w)) ∷ []) (run k, (gap fit k, tt)) [] _ _,
  λ fit k.
      let es = reserved_at w (place_of (fit a b k (entries_of 2 w))) k in
      backwards_given set_layout w a b (zero_run k ∷ no_gap (fit a b k (entries_of 2 w)) ∷ room 0 set_layout (length w) es ∷ [])
      (run k, (gap fit k, (later set_layout es, tt))) (w ∷ []) _ _,
)
  where
    later : (l : Layout) (es : List Entry) → Where (Other 4) (no_room l (length w) es)
    later l es = room_other 4 (λ e. omega arith) l (length w) es

    run : (k : ℕ) → Where (Other 4) (zero_run k).number
    run k = zero_other 4 (λ e. omega arith) k

    gap : (fit : ℕ → ℕ → ℕ → List Entry → Option ℕ) (k : ℕ) → Where (Other 4) (gapless (fit a b k (entries_of 2 w)))
    gap fit k = gap_other 4 (λ e. omega arith) (fit a b k (entries_of 2 w))

-- 6: a sound block and a window in order, and then the length of the run, whatever is tried behind it
zero_run_given : (w : List ℕ) (a b k : ℕ) (hs : List Finding) → Numbered (Other 6) hs → (lent : List (List ℕ)) (xs : List ℕ) (after : List (List ℕ))
    → Iff (in_turn (ask_refusals w a b k ++ hs) lent (outcome (given xs) after) ≡ refuse 6 0 lent) (SoundSet w × (a ≤ b) × (k ≡ 0))
zero_run_given w a b k hs other lent xs after =
    iff_by (refused_one 6 0 (zero_run k).number (input 0 set_layout w ∷ backwards a b ∷ []) hs
    (input_other 6 (omega arith) set_layout w, (range_other 6 (λ e. omega arith) a b, tt)) (applied (λ m. m ≡ 6) (eqb k 0) 6 refl) other lent xs after)
    (λ h. (h.0.0, in_order a b h.0.1.0, none_asked k h.1))
    (λ h. ((h.0, (rw (le-ltb b a h.1), tt)), λ z. some_asked k z h.2))
  where
    none_asked : (n : ℕ) → ((zero_run n).number ≡ 0 → ⊥) → n ≡ 0
    none_asked zero h = refl
    none_asked (suc n) h = absurd (h (asked_some (suc n) (λ z. omega arith)))

pub zero_run_exactly : ZeroRunExactly
unfolding fit_call reserve_call
zero_run_exactly fit w a b k = (
  zero_run_given w a b k (no_gap place ∷ []) (gap, tt) [] _ _,
  zero_run_given w a b k (no_gap place ∷ room 0 set_layout (length w) (reserved_at w (place_of place) k) ∷ [])
      (gap, (room_other 6 (λ e. omega arith) set_layout (length w) (reserved_at w (place_of place) k), tt)) (w ∷ []) _ _,
)
  where
    place : Option ℕ
    place = fit a b k (entries_of 2 w)

    gap : Where (Other 6) (gapless (fit a b k (entries_of 2 w)))
    gap = gap_other 6 (λ e. omega arith) (fit a b k (entries_of 2 w))

-- 7: a fit that finds no place exactly where first fit finds none, as best fit does
record Alike (fit : ℕ → ℕ → ℕ → List Entry → Option ℕ) : Type 0 where
  to_first : (a b k : ℕ) (es : List Entry) → fit a b k es ≡ none → first_fit a b k es ≡ none
  from_first : (a b k : ℕ) (es : List Entry) → first_fit a b k es ≡ none → fit a b k es ≡ none

first_alike : Alike first_fit
first_alike = record { to_first = λ a b k es e. e; from_first = λ a b k es e. e }

best_alike : Alike best_fit
best_alike = record { to_first = best_none anywhere; from_first = first_none anywhere }

-- what is asked before a place is looked for
module _ (w : List ℕ) (a b k : ℕ) where
  asked_clear : Clear (ask_refusals w a b k) → RunAsked w a b k
  asked_clear c = record { sound = c.0; order = in_order a b c.1.0; some = some_asked k c.1.1.0 }

  clear_asked : RunAsked w a b k → Clear (ask_refusals w a b k)
  clear_asked r = (r.sound, (rw (le-ltb b a r.order), (asked_some k r.some, tt)))

module _ (fit : ℕ → ℕ → ℕ → List Entry → Option ℕ) (alike : Alike fit) (w : List ℕ) (a b k : ℕ) where
  -- the meaning of first fit's answer
  means : (k ≡ 0 → ⊥) → (o : Option ℕ) → first_fit a b k (entries_of 2 w) ≡ o → FirstOf a b k (entries_of 2 w) o
  means h o e = subst (FirstOf a b k (entries_of 2 w)) e (first_fit_lem a b k (entries_of 2 w) (one k h))
    where
      one : (n : ℕ) → (n ≡ 0 → ⊥) → 1 ≤ n
      one n h = omega arith

  -- a place is found exactly if there is one
  found_free : (k ≡ 0 → ⊥) → gapless (fit a b k (entries_of 2 w)) ≡ 0 → FreeSomewhere w a b k
  found_free h e = go (first_fit a b k (entries_of 2 w)) refl (means h)
    where
      go : (o : Option ℕ) → first_fit a b k (entries_of 2 w) ≡ o
          → ((p : Option ℕ) → first_fit a b k (entries_of 2 w) ≡ p → FirstOf a b k (entries_of 2 w) p) → FreeSomewhere w a b k
      go none q m = absurd (let z : 7 ≡ 0 = sym (ap gapless (alike.from_first a b k (entries_of 2 w) q)) ∙ e in omega arith)
      go (some s) q m = record { start = s; run = (m (some s) q).run }

  free_found : (k ≡ 0 → ⊥) → FreeSomewhere w a b k → gapless (fit a b k (entries_of 2 w)) ≡ 0
  free_found h f = go (fit a b k (entries_of 2 w)) refl (means h)
    where
      go : (o : Option ℕ) → fit a b k (entries_of 2 w) ≡ o
          → ((p : Option ℕ) → first_fit a b k (entries_of 2 w) ≡ p → FirstOf a b k (entries_of 2 w) p) → gapless o ≡ 0
      go none q m = absurd (m none (alike.to_first a b k (entries_of 2 w) q) f.start f.run)
      go (some s) q m = refl

  -- so it is refused with 7 exactly if there is none, whatever is tried behind it
  no_gap_given : (hs : List Finding) → Numbered (Other 7) hs → (lent : List (List ℕ)) (xs : List ℕ) (after : List (List ℕ))
      → Iff (in_turn (fit_refusals w a b k (fit a b k (entries_of 2 w)) ++ hs) lent (outcome (given xs) after) ≡ refuse 7 0 lent)
      (RunAsked w a b k × (FreeSomewhere w a b k → ⊥))
  no_gap_given hs other lent xs after =
      iff_by (refused_one 7 0 (gapless (fit a b k (entries_of 2 w))) (ask_refusals w a b k) hs
      (input_other 7 (omega arith) set_layout w, (range_other 7 (λ e. omega arith) a b, (zero_other 7 (λ e. omega arith) k, tt)))
      (only (fit a b k (entries_of 2 w))) other lent xs after)
      (λ h. let r = asked_clear w a b k h.0 in (r, λ f. h.1 (free_found r.some f)))
      (λ h. (clear_asked w a b k h.0, λ z. h.1 (found_free h.0.some z)))
    where
      only : (o : Option ℕ) → Where (λ m. m ≡ 7) (gapless o)
      only none z = refl
      only (some s) z = absurd (z refl)

  ask_no_gap : Iff (fit_call fit w a b k ≡ refuse 7 0 []) (RunAsked w a b k × (FreeSomewhere w a b k → ⊥))
  unfolding fit_call
  ask_no_gap = no_gap_given [] tt [] _ _

  reserve_no_gap : Iff (reserve_call fit w a b k ≡ refuse 7 0 (w ∷ [])) (RunAsked w a b k × (FreeSomewhere w a b k → ⊥))
  unfolding reserve_call
  reserve_no_gap =
      let es = reserved_at w (place_of (fit a b k (entries_of 2 w))) k in
      no_gap_given (room 0 set_layout (length w) es ∷ []) (room_other 7 (λ e. omega arith) set_layout (length w) es, tt) (w ∷ []) _ _

pub no_gap_exactly : NoGapExactly
no_gap_exactly w a b k = (
  ask_no_gap first_fit first_alike w a b k,
  ask_no_gap best_fit best_alike w a b k,
  reserve_no_gap first_fit first_alike w a b k,
  reserve_no_gap best_fit best_alike w a b k,
)

-- ACCEPTED EXACTLY
fit_accepted : (fit : ℕ → ℕ → ℕ → List Entry → Option ℕ) → Alike fit → (w : List ℕ) (a b k : ℕ)
    → Iff (Accepts (fit_call fit w a b k)) (RunAsked w a b k × FreeSomewhere w a b k)
unfolding fit_call
fit_accepted fit alike w a b k =
    let last = no_gap (fit a b k (entries_of 2 w)) ∷ [] in
    iff_by (accepted_exactly (fit_refusals w a b k (fit a b k (entries_of 2 w))) [] _ _)
    (λ c. let s = clear_split (ask_refusals w a b k) last c in
    let r = asked_clear w a b k s.0 in (r, found_free fit alike w a b k r.some s.1.0))
    (λ h. clear_both (ask_refusals w a b k) last (clear_asked w a b k h.0) (free_found fit alike w a b k h.0.some h.1, tt))

pub fit_accepted_exactly : FitAccepted
fit_accepted_exactly w a b k = (fit_accepted first_fit first_alike w a b k, fit_accepted best_fit best_alike w a b k)

pub reserve_accepted_exactly : ReserveAccepted
unfolding reserve_call fit_call
reserve_accepted_exactly fit w a b k =
    iff_by (accepted_exactly (reserve_refusals w a b k place) (w ∷ []) _ _)
    (λ c. let s = clear_split (fit_refusals w a b k place) (room_at (place_of place)) c in record {
      place = place_of place;
      answer = clear_turn (fit_refusals w a b k place) [] (answered (place_of place)) s.0;
      room = room_fits set_layout (length w) (reserved_at w (place_of place) k) s.1.0;
    })
    (λ r. let h = fit_chosen fit w a b k r.place (sym r.answer) in
    rw h.place (h.clear.0, (h.clear.1.0, (h.clear.1.1.0, (refl, (has_room _ _ r.room, tt))))))
  where
    place : Option ℕ
    place = fit a b k (entries_of 2 w)

    room_at : ℕ → List Finding
    room_at s = room 0 set_layout (length w) (reserved_at w s k) ∷ []

-- a run that is not one of no numbers has at least one
pub at_least_one : (n : ℕ) → (n ≡ 0 → ⊥) → 1 ≤ n
at_least_one n h = omega arith

-- ALIGNED: what is tried behind 6, and its number
high_other : (n : ℕ) → Other n 16 → (j : ℕ) → Where (Other n) (too_high j).number
high_other n h j = applied (Other n) (ltb last_power j) 16 h

-- j is not refused exactly if it is at most 63
low_power : (j : ℕ) → (too_high j).number ≡ 0 → j ≤ last_power
low_power j e = ltb-false last_power j (applies_clear (ltb last_power j) 15 e)

power_low : (j : ℕ) → j ≤ last_power → (too_high j).number ≡ 0
power_low j h = rw (le-ltb last_power j h)

-- 16: a run that is rightly asked for, and then j, whatever is tried behind it
align_given : (w : List ℕ) (a b k j : ℕ) (hs : List Finding) → Numbered (Other 16) hs → (lent : List (List ℕ)) (xs : List ℕ) (after : List (List ℕ))
    → Iff (in_turn (align_refusals w a b k j ++ hs) lent (outcome (given xs) after) ≡ refuse 16 0 lent) (RunAsked w a b k × (last_power < j))
align_given w a b k j hs other lent xs after =
    iff_by (refused_one 16 0 (too_high j).number (ask_refusals w a b k) hs
    (input_other 16 (omega arith) set_layout w, (range_other 16 (λ e. omega arith) a b, (zero_other 16 (λ e. omega arith) k, tt)))
    (applied (λ m. m ≡ 16) (ltb last_power j) 16 refl) other lent xs after)
    (λ h. (asked_clear w a b k h.0, above (dec_lt last_power j) h.1))
    (λ h. (clear_asked w a b k h.0, λ z. omega (arith, low_power j z, h.1)))
  where
    above : Dec (last_power < j) → ((too_high j).number ≡ 0 → ⊥) → last_power < j
    above (yes h) n = h
    above (no h) n = absurd (n (power_low j (omega arith)))

module _ (choose : List Entry → Option Entry) (w : List ℕ) (a b k j : ℕ) where
  -- what comes last: 7, and of a reservation then 5
  abbrev pub asks-last : List Finding
  asks-last = no_gap (aligned_place choose w a b k j) ∷ []

  abbrev pub takes-last : List Finding
  takes-last = no_gap (aligned_place choose w a b k j) ∷ room 0 set_layout (length w) (reserved_at w (place_of (aligned_place choose w a b k j)) k) ∷ []

  module _ (n : ℕ) (seven : Other n 7) (five : Other n 5) where
    last_asked : Numbered (Other n) asks-last
    last_asked = (gap_other n seven (aligned_place choose w a b k j), tt)

    last_taken : Numbered (Other n) takes-last
    last_taken = (last_asked.0, (room_other n five set_layout (length w) (reserved_at w (place_of (aligned_place choose w a b k j)) k), tt))

pub align_exactly : AlignExactly
unfolding fit_aligned_call reserve_aligned_call
align_exactly choose w a b k j = (
  align_given w a b k j (asks-last choose w a b k j) (last_asked choose w a b k j 16 (λ e. omega arith) (λ e. omega arith)) [] _ _,
  align_given w a b k j (takes-last choose w a b k j) (last_taken choose w a b k j 16 (λ e. omega arith) (λ e. omega arith)) (w ∷ []) _ _,
)

-- 4, and 6: what is tried behind them is j too
pub aligned_backwards : AlignedBackwards
unfolding fit_aligned_call reserve_aligned_call
aligned_backwards choose w a b k j = (
  backwards_given set_layout w a b (zero_run k ∷ too_high j ∷ asks-last choose w a b k j)
      (zero, (high, last_asked choose w a b k j 4 (λ e. omega arith) (λ e. omega arith))) [] _ _,
  backwards_given set_layout w a b (zero_run k ∷ too_high j ∷ takes-last choose w a b k j)
      (zero, (high, last_taken choose w a b k j 4 (λ e. omega arith) (λ e. omega arith))) (w ∷ []) _ _,
)
  where
    zero : Where (Other 4) (zero_run k).number
    zero = zero_other 4 (λ e. omega arith) k

    high : Where (Other 4) (too_high j).number
    high = high_other 4 (λ e. omega arith) j

pub aligned_zero_run : AlignedZeroRun
unfolding fit_aligned_call reserve_aligned_call
aligned_zero_run choose w a b k j = (
  zero_run_given w a b k (too_high j ∷ asks-last choose w a b k j) (high, last_asked choose w a b k j 6 (λ e. omega arith) (λ e. omega arith)) [] _ _,
  zero_run_given w a b k (too_high j ∷ takes-last choose w a b k j) (high, last_taken choose w a b k j 6 (λ e. omega arith) (λ e. omega arith)) (w ∷ []) _ _,
)
  where
    high : Where (Other 6) (too_high j).number
    high = high_other 6 (λ e. omega arith) j

-- 7: a place is found exactly if there is one, by first fit
module _ (w : List ℕ) (a b k j : ℕ) where
  aligned_clear : Clear (align_refusals w a b k j) → AlignedAsked w a b k j
  aligned_clear c =
      let s = clear_split (ask_refusals w a b k) (too_high j ∷ []) c in
      record { run = asked_clear w a b k s.0; power = low_power j s.1.0 }

  clear_aligned : AlignedAsked w a b k j → Clear (align_refusals w a b k j)
  clear_aligned r = clear_both (ask_refusals w a b k) (too_high j ∷ []) (clear_asked w a b k r.run) (power_low j r.power, tt)

  -- a fit finds a place exactly if there is one
  abbrev Finds : (List Entry → Option Entry) → Type 0
  Finds choose = (k ≡ 0 → ⊥) → Iff (gapless (aligned_place choose w a b k j) ≡ 0) (AlignedSomewhere w a b k j)

  first_finds : Finds first_gap
  first_finds h = go (aligned_place first_gap w a b k j) (first_at (aligned j) (Multiple j) (multiples j) a b k (entries_of 2 w) (at_least_one k h))
    where
      go : (o : Option ℕ) → FirstAt (Multiple j) a b k (entries_of 2 w) o → Iff (gapless o ≡ 0) (AlignedSomewhere w a b k j)
      go none n = record { to = λ e. absurd (omega arith); from = λ s. absurd (n s.start s.multiple s.run) }
      go (some s) f = record { to = λ e. record { start = s; multiple = f.allowed; run = f.run }; from = λ e. refl }

  best_finds : Finds shortest_gap
  best_finds h = record { to = λ e. (first_finds h).to (same _ _ to_best e); from = λ s. same _ _ to_first ((first_finds h).from s) }
    where
      to_best : aligned_place first_gap w a b k j ≡ none → aligned_place shortest_gap w a b k j ≡ none
      to_best = first_none (aligned j) a b k (entries_of 2 w)

      to_first : aligned_place shortest_gap w a b k j ≡ none → aligned_place first_gap w a b k j ≡ none
      to_first = best_none (aligned j) a b k (entries_of 2 w)

      same : (o p : Option ℕ) → (o ≡ none → p ≡ none) → gapless p ≡ 0 → gapless o ≡ 0
      same none p f e = absurd (let z : 7 ≡ 0 = sym (ap gapless (f refl)) ∙ e in omega arith)
      same (some s) p f e = refl

  module _ (choose : List Entry → Option Entry) (finds : Finds choose) where
    aligned_no_gap_given : (hs : List Finding) → Numbered (Other 7) hs → (lent : List (List ℕ)) (xs : List ℕ) (after : List (List ℕ))
        → Iff (in_turn (align_refusals w a b k j ++ (no_gap (aligned_place choose w a b k j) ∷ hs)) lent (outcome (given xs) after) ≡ refuse 7 0 lent)
        (AlignedAsked w a b k j × (AlignedSomewhere w a b k j → ⊥))
    aligned_no_gap_given hs other lent xs after =
        iff_by (refused_one 7 0 (gapless (aligned_place choose w a b k j)) (align_refusals w a b k j) hs (
          input_other 7 (omega arith) set_layout w,
          (range_other 7 (λ e. omega arith) a b, (zero_other 7 (λ e. omega arith) k, (high_other 7 (λ e. omega arith) j, tt))),
        )
        (only (aligned_place choose w a b k j)) other lent xs after)
        (λ h. let r = aligned_clear h.0 in (r, λ f. h.1 ((finds r.run.some).from f)))
        (λ h. (clear_aligned h.0, λ z. h.1 ((finds h.0.run.some).to z)))
      where
        only : (o : Option ℕ) → Where (λ m. m ≡ 7) (gapless o)
        only none z = refl
        only (some s) z = absurd (z refl)

    asks_no_gap : Iff (fit_aligned_call choose w a b k j ≡ refuse 7 0 []) (AlignedAsked w a b k j × (AlignedSomewhere w a b k j → ⊥))
    unfolding fit_aligned_call
    asks_no_gap = aligned_no_gap_given [] tt [] _ _

    takes_no_gap : Iff (reserve_aligned_call choose w a b k j ≡ refuse 7 0 (w ∷ [])) (AlignedAsked w a b k j × (AlignedSomewhere w a b k j → ⊥))
    unfolding reserve_aligned_call
    takes_no_gap =
        let es = reserved_at w (place_of (aligned_place choose w a b k j)) k in
        aligned_no_gap_given (room 0 set_layout (length w) es ∷ []) (room_other 7 (λ e. omega arith) set_layout (length w) es, tt) (w ∷ []) _ _

    asks_accepted : Iff (Accepts (fit_aligned_call choose w a b k j)) (AlignedAsked w a b k j × AlignedSomewhere w a b k j)
    unfolding fit_aligned_call
    asks_accepted =
        let last = asks-last choose w a b k j in
        iff_by (accepted_exactly (align_refusals w a b k j ++ last) [] _ _)
        (λ c. let s = clear_split (align_refusals w a b k j) last c in
        let r = aligned_clear s.0 in (r, (finds r.run.some).to s.1.0))
        (λ h. clear_both (align_refusals w a b k j) last (clear_aligned h.0) ((finds h.0.run.some).from h.1, tt))

pub no_gap_aligned : NoGapAligned
no_gap_aligned w a b k j = (
  asks_no_gap w a b k j first_gap (first_finds w a b k j),
  asks_no_gap w a b k j shortest_gap (best_finds w a b k j),
  takes_no_gap w a b k j first_gap (first_finds w a b k j),
  takes_no_gap w a b k j shortest_gap (best_finds w a b k j),
)

pub fit_aligned_accepted : FitAlignedAccepted
fit_aligned_accepted w a b k j = (
  asks_accepted w a b k j first_gap (first_finds w a b k j),
  asks_accepted w a b k j shortest_gap (best_finds w a b k j),
)
