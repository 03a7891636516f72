-- EVERY CALL: when it is accepted, when it is refused with which number, and what its companion says.
-- First of all calls at once, then the companions, then the refusals one by one, then the calls one by one.
use Rattle.std.specs.Prelude.{◌≡◌, List, [], ◌∷◌, ◌++◌, ℕ, ◌+◌, ◌-◌, ◌*◌, ◌≤◌, ◌<◌, length, get_or}
use Rattle.std.proofs.Math.Option.{Option}
use Rattle.entries.specs.Entries.{Value, Entry}
use Rattle.answers.specs.Answers.{Finding}
use Rattle.answers.specs.Answers.{given, Outcome, outcome, refuse, in_turn, Clear, Keeps}
use Rattle.blocks.specs.declared.Layout.{Layout}
use Rattle.blocks.specs.Blocks.{set_layout, capacity, entries_of, verdict}
use Rattle.edits.specs.Calls.{edited, edit_call}
use Rattle.operations.specs.Calls.{from_two, from_one}
use Rattle.sets.specs.Calls.{make_empty_call, member_call, range_at_call, size_call, least_member_call, least_non_member_call, equal_call, within_call, disjoint_call}
use Rattle.fits.specs.Meaning.{FreeRun}
use Rattle.fits.specs.Calls.{fit_call, first_fit_call, best_fit_call, reserved_at, reserve_call, reserve_first_call, reserve_best_call}
use Rattle.bulletins.specs.Calls.{amended_with, apply_call, fold_call}
use Rattle.forms.specs.Calls.{write_set_call, write_map_call, write_bulletin_call, write_signed_call}
use Rattle.searches.specs.Parts.{no_part, part_says}
use Rattle.searches.specs.Calls.{window_part, window_call, window_at_call, window_refusal_call}
use Rattle.maps.specs.Calls.{look_up_call, deciding, part_in, deciding_says, site_over_factory_call, site_over_factory_at_call, site_refusal_call}
use Rattle.demands.specs.Plain.{Iff, SoundSet, SoundMap, answers}
use Rattle.demands.specs.Bulletins.{NoCommon, Bulletin, Foldable}

-- the call does its work: it answers values and leaves words, whatever these are
pub record Accepts (o : Outcome) : Type 0 where
  pub values : List ℕ
  pub after : List (List ℕ)
  pub is : o ≡ outcome (given values) after

-- [D1, R17] ACCEPTED EXACTLY: a call is accepted exactly if none of its refusals applies. Of every call the outcome is said as here: fs are the
-- refusals that it tries, in their order, each with the number 0 where it does not apply; lent are the blocks and the buffers that it may write;
-- xs is its answer, and after is what it leaves in them
abbrev pub AcceptedExactly : Type 0
AcceptedExactly = (fs : List Finding) (lent : List (List ℕ)) (xs : List ℕ) (after : List (List ℕ))
    → Iff (Accepts (in_turn fs lent (outcome (given xs) after))) (Clear fs)

-- the first refusal in the list fs that applies has the number n, which is not 0, and the place p: none before it applies
pub record FirstIs (fs : List Finding) (n p : ℕ) : Type 0 where
  pub before : List Finding
  pub here : Finding
  pub behind : List Finding
  pub all : fs ≡ before ++ (here ∷ behind)
  pub none_before : Clear before
  pub number : here.number ≡ n
  pub applies : n ≡ 0 → ⊥
  pub place : here.place ≡ p

-- [D1, R17] REFUSED EXACTLY: a call is refused with the number n and the place p exactly if these are those of the first of its refusals that
-- applies; so it gives this one refusal, and no other
abbrev pub RefusedExactly : Type 0
RefusedExactly = (fs : List Finding) (lent : List (List ℕ)) (xs : List ℕ) (after : List (List ℕ)) (n p : ℕ)
    → Iff (in_turn fs lent (outcome (given xs) after) ≡ refuse n p lent) (FirstIs fs n p)

-- [D1, R0] NOTHING IS CHANGED where a call is refused: everything lent to it is as it was
abbrev pub RefusedKeeps : Type 0
RefusedKeeps = (fs : List Finding) (lent : List (List ℕ)) (xs : List ℕ) (after : List (List ℕ)) → Keeps lent (in_turn fs lent (outcome (given xs) after))

-- [R20] THE COMPANION OF A WINDOW, of sets and of maps: if it says that there is no refusal, the window hands back its part of the block, and a
-- host is told that part's place and length; if it gives a refusal, the window hands back a part of length 0, and a host is given that refusal
abbrev pub WindowCompanion : Type 0
WindowCompanion = (l : Layout) (w : List ℕ) (a b : ℕ)
    → (window_refusal_call l w a b ≡ outcome (given []) []
    → (window_call l w a b ≡ window_part l.width w a b) × (window_at_call l w a b ≡ outcome (part_says (window_part l.width w a b)) []))
    × ((n p : ℕ) → window_refusal_call l w a b ≡ refuse n p [] → (window_call l w a b ≡ no_part) × (window_at_call l w a b ≡ refuse n p []))

-- [R20] THE COMPANION OF SITE OVER FACTORY, in the same way: with no refusal, the deciding entry as a part of its map; with one, a part of
-- length 0
abbrev pub SiteCompanion : Type 0
SiteCompanion = (site factory : List ℕ) (x : ℕ)
    → (site_refusal_call site factory x ≡ outcome (given []) []
    → (site_over_factory_call site factory x ≡ deciding site factory x)
    × (site_over_factory_at_call site factory x ≡ outcome (deciding_says (deciding site factory x)) []))
    × ((n p : ℕ) → site_refusal_call site factory x ≡ refuse n p []
    → (site_over_factory_call site factory x ≡ part_in 0 no_part) × (site_over_factory_at_call site factory x ≡ refuse n p []))

-- [R4, R17] BACKWARDS EXACTLY: a change in place, a window's companion, a fit and a reservation are refused with 4 exactly if the block is sound and
-- the range's low end is above its high end
abbrev pub BackwardsExactly : Type 0
BackwardsExactly = (w : List ℕ) (a b : ℕ)
    → ((l : Layout) (o : Option Value) → Iff (edit_call l w a b o ≡ refuse 4 0 (w ∷ [])) ((verdict l w ≡ 0) × (b < a)))
    × ((l : Layout) → Iff (window_refusal_call l w a b ≡ refuse 4 0 []) ((verdict l w ≡ 0) × (b < a)))
    × ((fit : ℕ → ℕ → ℕ → List Entry → Option ℕ) (k : ℕ) → Iff (fit_call fit w a b k ≡ refuse 4 0 []) (SoundSet w × (b < a)))
    × ((fit : ℕ → ℕ → ℕ → List Entry → Option ℕ) (k : ℕ) → Iff (reserve_call fit w a b k ≡ refuse 4 0 (w ∷ [])) (SoundSet w × (b < a)))

-- [R6, R17] ZERO RUN EXACTLY: a fit and a reservation are refused with 6 exactly if the block is sound, the window is in order, and a run of 0 numbers
-- is asked for
abbrev pub ZeroRunExactly : Type 0
ZeroRunExactly = (fit : ℕ → ℕ → ℕ → List Entry → Option ℕ) (w : List ℕ) (a b k : ℕ)
    → Iff (fit_call fit w a b k ≡ refuse 6 0 []) (SoundSet w × (a ≤ b) × (k ≡ 0))
    × Iff (reserve_call fit w a b k ≡ refuse 6 0 (w ∷ [])) (SoundSet w × (a ≤ b) × (k ≡ 0))

-- a run is rightly asked for: one of at least one number, in a sound block and in a window that is in order
pub record RunAsked (w : List ℕ) (a b k : ℕ) : Type 0 where
  pub sound : SoundSet w
  pub order : a ≤ b
  pub some : k ≡ 0 → ⊥

-- there is a place in the window a..b from which k numbers in a row are free: they all lie in the window, and none is a member
pub record FreeSomewhere (w : List ℕ) (a b k : ℕ) : Type 0 where
  pub start : ℕ
  pub run : FreeRun a b (entries_of set_layout.width w) start (start + k - 1)

-- [R7, R17] NO GAP EXACTLY: both fits and both reservations are refused with 7 exactly if the run is rightly asked for and there is no such place
abbrev pub NoGapExactly : Type 0
NoGapExactly = (w : List ℕ) (a b k : ℕ)
    → Iff (first_fit_call w a b k ≡ refuse 7 0 []) (RunAsked w a b k × (FreeSomewhere w a b k → ⊥))
    × Iff (best_fit_call w a b k ≡ refuse 7 0 []) (RunAsked w a b k × (FreeSomewhere w a b k → ⊥))
    × Iff (reserve_first_call w a b k ≡ refuse 7 0 (w ∷ [])) (RunAsked w a b k × (FreeSomewhere w a b k → ⊥))
    × Iff (reserve_best_call w a b k ≡ refuse 7 0 (w ∷ [])) (RunAsked w a b k × (FreeSomewhere w a b k → ⊥))

-- [R14, R17] OVERLAP EXACTLY: applying is refused with 14 exactly if the three inputs are sound, the output has words, and the bulletin's two sets
-- share a number
abbrev pub OverlapExactly : Type 0
OverlapExactly = (list released withdrawn out : List ℕ)
    → Iff (apply_call list released withdrawn out ≡ refuse 14 0 (out ∷ []))
    (SoundSet list × SoundSet released × SoundSet withdrawn × (0 < length out) × (NoCommon released withdrawn → ⊥))

-- [R14, R17] folding is refused with 14 exactly if the four inputs are sound, both outputs have words, and not both bulletins are without a number
-- that their two sets share
abbrev pub FoldOverlapExactly : Type 0
FoldOverlapExactly = (r₁ w₁ r₂ w₂ out_r out_w : List ℕ)
    → Iff (fold_call r₁ w₁ r₂ w₂ out_r out_w ≡ refuse 14 0 (out_r ∷ out_w ∷ []))
    (SoundSet r₁ × SoundSet w₁ × SoundSet r₂ × SoundSet w₂ × (0 < length out_r) × (0 < length out_w) × (NoCommon r₁ w₁ × NoCommon r₂ w₂ → ⊥))

-- [R14, R17] and writing a bulletin is refused with 14 exactly if its two sets are sound and share a number
abbrev pub WriteOverlapExactly : Type 0
WriteOverlapExactly = (released withdrawn bytes : List ℕ) (p : ℕ)
    → Iff (write_bulletin_call released withdrawn bytes p ≡ refuse 14 0 (bytes ∷ []))
    (SoundSet released × SoundSet withdrawn × (NoCommon released withdrawn → ⊥))

-- [R15, R17, Y10, Y16, K6] NO SPACE EXACTLY: writing a set, a map, a bulletin or a signed set at the place p is refused with 15 exactly if it is
-- sound, and the buffer ends before its form would, whose size is 7+21n, 7+29n, 9+21(r+w), 7+21n, of word 0 of the blocks
abbrev pub NoSpaceExactly : Type 0
NoSpaceExactly = (bytes : List ℕ) (p : ℕ)
    → ((w : List ℕ) → Iff (write_set_call w bytes p ≡ refuse 15 0 (bytes ∷ [])) (SoundSet w × (length bytes < p + (7 + 21 * get_or w 0 0))))
    × ((w : List ℕ) → Iff (write_map_call w bytes p ≡ refuse 15 0 (bytes ∷ [])) (SoundMap w × (length bytes < p + (7 + 29 * get_or w 0 0))))
    × ((r w : List ℕ) → Iff (write_bulletin_call r w bytes p ≡ refuse 15 0 (bytes ∷ []))
    (Bulletin r w × (length bytes < p + (9 + 21 * (get_or r 0 0 + get_or w 0 0)))))
    × ((w : List ℕ) → Iff (write_signed_call w bytes p ≡ refuse 15 0 (bytes ∷ [])) (SoundSet w × (length bytes < p + (7 + 21 * get_or w 0 0))))

-- [S9, S10, M2, M3] ACCEPTED EXACTLY, in plain terms, as a user's proof cites it: a change in place, of a set or of a map, is accepted exactly if the
-- block is sound, the range is in order, and the result is within the block's capacity
abbrev pub EditAccepted : Type 0
EditAccepted = (l : Layout) (w : List ℕ) (a b : ℕ) (o : Option Value)
    → Iff (Accepts (edit_call l w a b o)) ((verdict l w ≡ 0) × (a ≤ b) × (length (edited l w a b o) ≤ capacity l (length w)))

-- [S11, M4, M5] a call that makes a result from two blocks is accepted exactly if both are sound, the output has words, and the result is within its
-- capacity
abbrev pub TwoAccepted : Type 0
TwoAccepted = (first second out : Layout) (make : List Entry → List Entry → List Entry) (w v o : List ℕ)
    → Iff (Accepts (from_two first second out make w v o))
    ((verdict first w ≡ 0) × (verdict second v ≡ 0) × (0 < length o)
    × (length (make (entries_of first.width w) (entries_of second.width v)) ≤ capacity out (length o)))

-- [S12, M6] a call that makes a result from one block is accepted exactly if it is sound, the output has words, and the result is within its capacity
abbrev pub OneAccepted : Type 0
OneAccepted = (first out : Layout) (make : List Entry → List Entry) (w o : List ℕ)
    → Iff (Accepts (from_one first out make w o))
    ((verdict first w ≡ 0) × (0 < length o) × (length (make (entries_of first.width w)) ≤ capacity out (length o)))

-- [S8, R18] make empty is accepted exactly if the block has words, and it refuses only with 1
abbrev pub EmptyAccepted : Type 0
EmptyAccepted = (w : List ℕ) → Iff (Accepts (make_empty_call w)) (0 < length w) × ((n p : ℕ) → make_empty_call w ≡ refuse n p (w ∷ []) → n ≡ 1)

-- [U2] applying is accepted exactly if the list is sound, the two sets are a bulletin, the output has words, and the result is within its capacity
abbrev pub ApplyAccepted : Type 0
ApplyAccepted = (list released withdrawn out : List ℕ)
    → Iff (Accepts (apply_call list released withdrawn out))
    (SoundSet list × Bulletin released withdrawn × (0 < length out) × (length (amended_with list released withdrawn) ≤ capacity set_layout (length out)))

-- [U3] folding is accepted exactly if there are two bulletins and two outputs with words, and both results are within the capacity of theirs
abbrev pub FoldAccepted : Type 0
FoldAccepted = (r₁ w₁ r₂ w₂ out_r out_w : List ℕ)
    → Iff (Accepts (fold_call r₁ w₁ r₂ w₂ out_r out_w))
    (Foldable r₁ w₁ r₂ w₂ out_r out_w × (length (amended_with r₁ r₂ w₂) ≤ capacity set_layout (length out_r))
    × (length (amended_with w₁ w₂ r₂) ≤ capacity set_layout (length out_w)))

-- [S1, S2, S3, S4, S5, M1] a question about one block is accepted exactly if the block is sound
abbrev pub AskedAccepted : Type 0
AskedAccepted = (w : List ℕ) (x : ℕ)
    → Iff (Accepts (member_call w x)) (SoundSet w)
    × Iff (Accepts (range_at_call w x)) (SoundSet w)
    × Iff (Accepts (size_call w)) (SoundSet w)
    × Iff (Accepts (least_member_call w x)) (SoundSet w)
    × Iff (Accepts (least_non_member_call w x)) (SoundSet w)
    × Iff (Accepts (look_up_call w x)) (SoundMap w)

-- [S7] a question about two sets is accepted exactly if both are sound
abbrev pub AskedTwoAccepted : Type 0
AskedTwoAccepted = (w v : List ℕ)
    → Iff (Accepts (equal_call w v)) (SoundSet w × SoundSet v)
    × Iff (Accepts (within_call w v)) (SoundSet w × SoundSet v)
    × Iff (Accepts (disjoint_call w v)) (SoundSet w × SoundSet v)

-- [S6, M7, M8, R20] the companion of a window, and the window of a host, are accepted exactly if the block is sound and the range is in order; those
-- of site over factory exactly if both maps are sound
abbrev pub PartAccepted : Type 0
PartAccepted = ((l : Layout) (w : List ℕ) (a b : ℕ)
    → Iff (Accepts (window_refusal_call l w a b)) ((verdict l w ≡ 0) × (a ≤ b)) × Iff (Accepts (window_at_call l w a b)) ((verdict l w ≡ 0) × (a ≤ b)))
    × ((site factory : List ℕ) (x : ℕ)
    → Iff (Accepts (site_refusal_call site factory x)) (SoundMap site × SoundMap factory)
    × Iff (Accepts (site_over_factory_at_call site factory x)) (SoundMap site × SoundMap factory))

-- [F2, F3] first fit and best fit are accepted exactly if the run is rightly asked for and there is a place for it
abbrev pub FitAccepted : Type 0
FitAccepted = (w : List ℕ) (a b k : ℕ)
    → Iff (Accepts (first_fit_call w a b k)) (RunAsked w a b k × FreeSomewhere w a b k)
    × Iff (Accepts (best_fit_call w a b k)) (RunAsked w a b k × FreeSomewhere w a b k)

-- the question answers a place, and the set with the run at that place is within the block's capacity
pub record Reservable (fit : ℕ → ℕ → ℕ → List Entry → Option ℕ) (w : List ℕ) (a b k : ℕ) : Type 0 where
  pub place : ℕ
  pub answer : fit_call fit w a b k ≡ answers (place ∷ [])
  pub room : length (reserved_at w place k) ≤ capacity set_layout (length w)

-- [F4, F5] a reservation is accepted exactly if that holds
abbrev pub ReserveAccepted : Type 0
ReserveAccepted = (fit : ℕ → ℕ → ℕ → List Entry → Option ℕ) (w : List ℕ) (a b k : ℕ) → Iff (Accepts (reserve_call fit w a b k)) (Reservable fit w a b k)

-- [Y10, Y16, K6] writing a set, a map, a bulletin or a signed set at the place p is accepted exactly if it is sound, and its form ends within the buffer
abbrev pub WriteAccepted : Type 0
WriteAccepted = (bytes : List ℕ) (p : ℕ)
    → ((w : List ℕ) → Iff (Accepts (write_set_call w bytes p)) (SoundSet w × (p + (7 + 21 * get_or w 0 0) ≤ length bytes)))
    × ((w : List ℕ) → Iff (Accepts (write_map_call w bytes p)) (SoundMap w × (p + (7 + 29 * get_or w 0 0) ≤ length bytes)))
    × ((r w : List ℕ) → Iff (Accepts (write_bulletin_call r w bytes p))
    (Bulletin r w × (p + (9 + 21 * (get_or r 0 0 + get_or w 0 0)) ≤ length bytes)))
    × ((w : List ℕ) → Iff (Accepts (write_signed_call w bytes p)) (SoundSet w × (p + (7 + 21 * get_or w 0 0) ≤ length bytes)))
