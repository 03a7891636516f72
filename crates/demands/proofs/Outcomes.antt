-- Every call: when it is accepted and when it is refused, and its companion; changes and questions. The statements of specs/Outcomes that are not of
-- fits, of bulletins or of bytes.
use mathlib.Core.Path.{◌≡◌, refl, sym, ◌∙◌, ap}
use mathlib.Core.Bool.{Bool, true, false}
use mathlib.Core.Logic.{◌⊎◌, inl, inr}
use mathlib.Core.Option.{Option, none, some}
use mathlib.Core.List.{List, [], ◌∷◌, ◌++◌}
use Prim.Native.Nat.{ℕ, zero, suc, ◌-◌, ◌≤◌}
use native.Mathlib.Omega.{arith}
use lib.Dec.{eqb}
use lib.ListN.{length}
use borrow.Author.Tests.{le-ltb}
use Rattle.entries.specs.Entries.{Value, Entry, Each}
use Rattle.entries.specs.Build.{pick}
use Rattle.entries.specs.Sets.{intersection, difference, symmetric_difference}
use Rattle.entries.specs.Questions.{range_at, size_of, least_member, is_empty, wholly_below}
use Rattle.answers.specs.Answers.{Finding}
use Rattle.answers.specs.Answers.{given, Outcome, outcome, refuse, judged, in_turn, handed, Clear, at, truth, seated, optional, less_one}
use Rattle.answers.specs.Steps.{Named}
use Rattle.answers.proofs.Turns.{turn_keeps, turn_accepted, clear_turn, refused≢given, refused_named}
use Rattle.blocks.specs.declared.Layout.{Layout}
use Rattle.blocks.specs.Blocks.{set_layout, map_layout, entries_of, verdict}
use Rattle.blocks.specs.Calls.{input, output}
use Rattle.blocks.proofs.Refusing.{some_words, in_order, room_fits}
use Rattle.edits.specs.Calls.{edited, edit_refusals, edit_call}
use Rattle.operations.specs.Calls.{two_refusals, one_refusals}
use Rattle.sets.specs.Calls.{ends, non_member, make_empty_call, member_call, range_at_call, size_call, least_member_call, least_non_member_call}
use Rattle.sets.specs.Calls.{equal_call, within_call, disjoint_call}
use Rattle.forms.proofs.Forms.{has_words, has_room}
use Rattle.answers.specs.declared.Part.{Part}
use Rattle.searches.specs.Parts.{no_part, part_says}
use Rattle.searches.specs.Calls.{window_part, window_refusals, window_call, window_at_call, window_refusal_call}
use Rattle.answers.specs.declared.Deciding.{Deciding}
use Rattle.maps.specs.Calls.{worth, look_up_call, deciding, part_in, deciding_says, site_refusals, site_over_factory_call, site_over_factory_at_call, site_refusal_call}
use Rattle.demands.specs.Plain.{Iff, In, ValueOf}
use Rattle.demands.specs.Outcomes.{Accepts, AcceptedExactly, FirstIs, RefusedExactly, RefusedKeeps, WindowCompanion, SiteCompanion}
use Rattle.demands.specs.Outcomes.{EditAccepted, TwoAccepted, OneAccepted, EmptyAccepted, AskedAccepted, AskedTwoAccepted, PartAccepted}
use Rattle.demands.proofs.Findings.{Where, Numbered, applied, named_number, named_applies, named_split, named_refused}
use Rattle.demands.proofs.Rooms.{Other}

-- ACCEPTED EXACTLY, of any call whose work, where nothing refuses it, is an answer
accepts_clear : (fs : List Finding) (lent : List (List ℕ)) (o : Outcome) → Accepts o → Iff (Accepts (in_turn fs lent o)) (Clear fs)
accepts_clear fs lent o d = record {
  to = λ a. (turn_accepted fs lent o a.values a.after a.is).0;
  from = λ c. record { values = d.values; after = d.after; is = clear_turn fs lent o c ∙ d.is };
}

pub accepted_exactly : AcceptedExactly
accepted_exactly fs lent xs after = accepts_clear fs lent (outcome (given xs) after) (record { values = xs; after = after; is = refl })

-- behind refusals that do not apply, the rest decides
clear_before : (fs gs : List Finding) (lent : List (List ℕ)) (x : Outcome) → Clear fs → in_turn (fs ++ gs) lent x ≡ in_turn gs lent x
clear_before [] gs lent x c = refl
clear_before (f ∷ fs) gs lent x c = rw c.0 (clear_before fs gs lent x c.1)

-- REFUSED EXACTLY
module _ (lent : List (List ℕ)) (xs : List ℕ) (after : List (List ℕ)) (n p : ℕ) where
  -- the refusal is that of the first that applies,
  first_of : (fs : List Finding) → in_turn fs lent (outcome (given xs) after) ≡ refuse n p lent → FirstIs fs n p
  first_of [] e = absurd (refused≢given (sym e))
  first_of (f ∷ fs) e = go f.number refl e (first_of fs)
    where
      go : (v : ℕ) → f.number ≡ v → judged v f.place lent (in_turn fs lent (outcome (given xs) after)) ≡ refuse n p lent
          → (in_turn fs lent (outcome (given xs) after) ≡ refuse n p lent → FirstIs fs n p) → FirstIs (f ∷ fs) n p
      go zero z d rest =
          let r = rest d in
          record {
            before = f ∷ r.before;
            here = r.here;
            behind = r.behind;
            all = ap (λ (gs : List Finding). f ∷ gs) r.all;
            none_before = (z, r.none_before);
            number = r.number;
            applies = r.applies;
            place = r.place;
          }
      go (suc v) z d rest =
          let q : suc v ≡ n = cc in
          let s : f.place ≡ p = cc in
          record {
            before = [];
            here = f;
            behind = fs;
            all = refl;
            none_before = tt;
            number = z ∙ q;
            applies = λ y. omega (arith, q, y);
            place = s;
          }

  -- and with a first that applies, the refusal is its own
  given_first : (f : Finding) (fs : List Finding) → f.number ≡ n → (n ≡ 0 → ⊥) → f.place ≡ p
      → in_turn (f ∷ fs) lent (outcome (given xs) after) ≡ refuse n p lent
  given_first f fs e h q = go f.number e
    where
      go : (v : ℕ) → v ≡ n → judged v f.place lent (in_turn fs lent (outcome (given xs) after)) ≡ refuse n p lent
      go zero d = absurd (h (sym d))
      go (suc v) d = rw (q, d) refl

pub refused_exactly : RefusedExactly
refused_exactly fs lent xs after n p = record {
  to = first_of lent xs after n p fs;
  from = λ r.
      rw r.all
      (clear_before r.before (r.here ∷ r.behind) lent (outcome (given xs) after) r.none_before
      ∙ given_first lent xs after n p r.here r.behind r.number r.applies r.place);
}

-- REFUSED, NOTHING IS CHANGED
pub refused_keeps : RefusedKeeps
refused_keeps fs lent xs after = turn_keeps fs lent (outcome (given xs) after) tt

-- COMPANIONS: a question that hands back a part, its companion, and the same question of a host, which all try the same refusals
module _ {A : Type 0} (fs : List Finding) (o : Outcome) (part empty : A) where
  abbrev companion : Outcome
  companion = in_turn fs [] (outcome (given []) [])

  -- the companion says that there is no refusal
  companion_given : companion ≡ outcome (given []) [] → (handed companion part empty ≡ part) × (in_turn fs [] o ≡ o)
  companion_given e = (
    ap (λ (y : Outcome). handed y part empty) e,
    clear_turn fs [] o (turn_accepted fs [] (outcome (given []) []) [] [] e).0,
  )

  -- the companion gives one
  companion_refused : (n p : ℕ) → companion ≡ refuse n p [] → (handed companion part empty ≡ empty) × (in_turn fs [] o ≡ refuse n p [])
  companion_refused n p e = (
    ap (λ (y : Outcome). handed y part empty) e,
    named_refused fs [] o (refused_named fs [] [] [] n p [] e),
  )

pub window_companions : WindowCompanion
unfolding window_call window_at_call window_refusal_call
window_companions l w a b = (
  companion_given (window_refusals l w a b) _ (window_part l.width w a b) no_part,
  companion_refused (window_refusals l w a b) _ (window_part l.width w a b) no_part,
)

pub site_companions : SiteCompanion
unfolding site_over_factory_call site_over_factory_at_call site_refusal_call
site_companions site factory x = (
  companion_given (site_refusals site factory) _ (deciding site factory x) (part_in 0 no_part),
  companion_refused (site_refusals site factory) _ (deciding site factory x) (part_in 0 no_part),
)

-- GIVEN EXACTLY WHEN, and ACCEPTED EXACTLY in plain terms: laws that the calls share

-- what follows from each other, by way of a third
pub iff_by : {P Q R : Type 0} → Iff P Q → (Q → R) → (R → Q) → Iff P R
iff_by i f g = record { to = λ p. f (i.to p); from = λ r. i.from (g r) }

-- a finding that, where it applies, is n at the place p
abbrev pub Only : ℕ → ℕ → Finding → Type 0
Only n p f = Where (λ m. m ≡ n) f.number × (f.place ≡ p)

-- A call tries refusals with other numbers, then some that are all n at the place p, then others again: it is refused with n at p exactly if none of
-- the first applies, and not none of the second.
pub refused_kind : (n p : ℕ) (fs gs hs : List Finding) → Numbered (Other n) fs → Each (Only n p) gs → Numbered (Other n) hs
    → (lent : List (List ℕ)) (xs : List ℕ) (after : List (List ℕ))
    → Iff (in_turn (fs ++ (gs ++ hs)) lent (outcome (given xs) after) ≡ refuse n p lent) (Clear fs × (Clear gs → ⊥))
refused_kind n p fs gs hs of only oh lent xs after = record {
  to = λ e. go (named_split fs (gs ++ hs) (refused_named (fs ++ (gs ++ hs)) lent xs after n p lent e));
  from = λ h. clear_before fs (gs ++ hs) lent (outcome (given xs) after) h.0 ∙ back gs only h.1;
}
  where
    next : Named gs n p ⊎ (Clear gs × Named hs n p) → Clear gs → ⊥
    next (inl m) = named_applies gs m
    next (inr m) = absurd (named_number (Other n) hs oh m.1 refl)

    go : Named fs n p ⊎ (Clear fs × Named (gs ++ hs) n p) → Clear fs × (Clear gs → ⊥)
    go (inl m) = absurd (named_number (Other n) fs of m refl)
    go (inr m) = (m.0, next (named_split gs hs m.1))

    back : (ks : List Finding) → Each (Only n p) ks → (Clear ks → ⊥) → in_turn (ks ++ hs) lent (outcome (given xs) after) ≡ refuse n p lent
    back [] o h = absurd (h tt)
    back (f ∷ ks) o h = on f.number refl (λ z. back ks o.1 (λ c. h (z, c)))
      where
        on : (v : ℕ) → f.number ≡ v → (f.number ≡ 0 → in_turn (ks ++ hs) lent (outcome (given xs) after) ≡ refuse n p lent)
            → in_turn ((f ∷ ks) ++ hs) lent (outcome (given xs) after) ≡ refuse n p lent
        on zero z rest = rw z (rest z)
        on (suc v) z rest =
            let s : f.number ≡ 0 → ⊥ = λ y. omega (arith, z, y) in
            let e : f.number ≡ n = o.0.0 s in
            given_first lent xs after n p f (ks ++ hs) e (λ y. s (e ∙ y)) o.0.1

-- the same of one refusal between others, which a test gives
pub refused_one : (n p v : ℕ) (fs hs : List Finding) → Numbered (Other n) fs → Where (λ m. m ≡ n) v → Numbered (Other n) hs
    → (lent : List (List ℕ)) (xs : List ℕ) (after : List (List ℕ))
    → Iff (in_turn (fs ++ (at p v ∷ hs)) lent (outcome (given xs) after) ≡ refuse n p lent) (Clear fs × (v ≡ 0 → ⊥))
refused_one n p v fs hs of only oh lent xs after =
    iff_by (refused_kind n p fs (at p v ∷ []) hs of ((only, refl), tt) oh lent xs after)
    (λ h. (h.0, λ z. h.1 (z, tt))) (λ h. (h.0, λ c. h.1 c.0))

-- A change in place; a result from two blocks, and from one; and make empty: each refusal that is tried, in plain terms.
pub edit_accepted_exactly : EditAccepted
unfolding edit_call
edit_accepted_exactly l w a b o =
    iff_by (accepted_exactly (edit_refusals l w a b (edited l w a b o)) (w ∷ []) _ _)
    (λ c. (c.0, in_order a b c.1.0, room_fits l (length w) (edited l w a b o) c.1.1.0))
    (λ h. (h.0, (rw (le-ltb b a h.1), (has_room _ _ h.2, tt))))

pub two_accepted_exactly : TwoAccepted
two_accepted_exactly first second out make w v o =
    let es = make (entries_of first.width w) (entries_of second.width v) in
    iff_by (accepted_exactly (two_refusals first second out w v (length o) es) (o ∷ []) _ _)
    (λ c. (c.0, c.1.0, some_words (length o) c.1.1.0, room_fits out (length o) es c.1.1.1.0))
    (λ h. (h.0, (h.1, (has_words (length o) h.2, (has_room _ _ h.3, tt)))))

pub one_accepted_exactly : OneAccepted
one_accepted_exactly first out make w o =
    let es = make (entries_of first.width w) in
    iff_by (accepted_exactly (one_refusals first out w (length o) es) (o ∷ []) _ _)
    (λ c. (c.0, some_words (length o) c.1.0, room_fits out (length o) es c.1.1.0))
    (λ h. (h.0, (has_words (length o) h.1, (has_room _ _ h.2, tt))))

pub empty_accepted_exactly : EmptyAccepted
unfolding make_empty_call
empty_accepted_exactly w = (
  iff_by (accepted_exactly fs (w ∷ []) _ _) (λ c. some_words (length w) c.0) (λ h. (has_words (length w) h, tt)),
  λ n p e. named_number (λ m. m ≡ 1) fs (applied (λ m. m ≡ 1) (eqb (length w) 0) 1 refl, tt) (refused_named fs (w ∷ []) _ _ n p (w ∷ []) e),
)
  where
    fs : List Finding
    fs = output 0 (length w) ∷ []

-- QUESTIONS: what they say, where nothing refuses them, is an answer and no refusal: values,
gives : (xs : List ℕ) → Accepts (outcome (given xs) [])
gives xs = record { values = xs; after = []; is = refl }

-- yes or no,
truth_gives : (t : Bool) → Accepts (outcome (truth t) [])
truth_gives true = gives (1 ∷ [])
truth_gives false = gives (0 ∷ [])

-- with a count,
seated_gives : (t : Bool) (below : ℕ) → Accepts (outcome (seated t below) [])
seated_gives true below = gives (1 ∷ below ∷ [])
seated_gives false below = gives (0 ∷ below ∷ [])

-- a number or none,
optional_gives : (o : Option ℕ) → Accepts (outcome (optional o) [])
optional_gives (some n) = gives (n ∷ [])
optional_gives none = gives []

-- the ends of a range or none,
ends_gives : (o : Option Entry) → Accepts (outcome (ends o) [])
ends_gives (some e) = gives (e.low ∷ e.high ∷ [])
ends_gives none = gives []

-- the words of a value or none,
worth_gives : (o : Option Value) → Accepts (outcome (worth o) [])
worth_gives (some v) = gives v
worth_gives none = gives []

-- one of two lists of values, by a test:
picked_gives : (t : Bool) (xs ys : List ℕ) → Accepts (outcome (pick t (given xs) (given ys)) [])
picked_gives true xs ys = gives xs
picked_gives false xs ys = gives ys

-- so a size,
size_gives : (n : ℕ) → Accepts (outcome (less_one n) [])
size_gives n = picked_gives (eqb n 0) [] ((n - 1) ∷ [])

-- the place of a part,
part_gives : (p : Part) → Accepts (outcome (part_says p) [])
part_gives p = picked_gives (eqb p.length 0) [] (p.place ∷ p.length ∷ [])

-- and that of a deciding entry
deciding_gives : (d : Deciding) → Accepts (outcome (deciding_says d) [])
deciding_gives d = picked_gives (eqb d.length 0) [] (d.place ∷ d.length ∷ d.position ∷ [])

-- a question about one block of any layout,
sound_accepts : (l : Layout) (w : List ℕ) (o : Outcome) → Accepts o → Iff (Accepts (in_turn (input 0 l w ∷ []) [] o)) (verdict l w ≡ 0)
sound_accepts l w o d = iff_by (accepts_clear (input 0 l w ∷ []) [] o d) (λ c. c.0) (λ h. (h, tt))

-- and about two
both_accept : (l : Layout) (w v : List ℕ) (o : Outcome) → Accepts o
    → Iff (Accepts (in_turn (input 0 l w ∷ input 1 l v ∷ []) [] o)) ((verdict l w ≡ 0) × (verdict l v ≡ 0))
both_accept l w v o d = iff_by (accepts_clear (input 0 l w ∷ input 1 l v ∷ []) [] o d) (λ c. (c.0, c.1.0)) (λ h. (h.0, (h.1, tt)))

pub asked_accepted_exactly : AskedAccepted
unfolding member_call range_at_call size_call least_member_call least_non_member_call look_up_call
asked_accepted_exactly w x = (
  sound_accepts set_layout w _ (seated_gives (In w x) (length (wholly_below x (entries_of 2 w)))),
  sound_accepts set_layout w _ (ends_gives (range_at (entries_of 2 w) x)),
  sound_accepts set_layout w _ (size_gives (size_of (entries_of 2 w))),
  sound_accepts set_layout w _ (optional_gives (least_member (entries_of 2 w) x)),
  sound_accepts set_layout w _ (optional_gives (non_member (entries_of 2 w) x)),
  sound_accepts map_layout w _ (worth_gives (ValueOf w x)),
)

pub asked_two_accepted_exactly : AskedTwoAccepted
unfolding equal_call within_call disjoint_call
asked_two_accepted_exactly w v = (
  both_accept set_layout w v _ (truth_gives (is_empty (symmetric_difference (entries_of 2 w) (entries_of 2 v)))),
  both_accept set_layout w v _ (truth_gives (is_empty (difference (entries_of 2 w) (entries_of 2 v)))),
  both_accept set_layout w v _ (truth_gives (is_empty (intersection (entries_of 2 w) (entries_of 2 v)))),
)

pub part_accepted_exactly : PartAccepted
unfolding window_refusal_call window_at_call site_refusal_call site_over_factory_at_call
part_accepted_exactly = (
  λ l w a b. (window l w a b _ (gives []), window l w a b _ (part_gives (window_part l.width w a b))),
  λ site factory x. (both_accept map_layout site factory _ (gives []), both_accept map_layout site factory _ (deciding_gives (deciding site factory x))),
)
  where
    window : (l : Layout) (w : List ℕ) (a b : ℕ) (o : Outcome) → Accepts o
        → Iff (Accepts (in_turn (window_refusals l w a b) [] o)) ((verdict l w ≡ 0) × (a ≤ b))
    window l w a b o d =
        iff_by (accepts_clear (window_refusals l w a b) [] o d) (λ c. (c.0, in_order a b c.1.0)) (λ h. (h.0, (rw (le-ltb b a h.1), tt)))
