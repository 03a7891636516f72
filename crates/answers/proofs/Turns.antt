-- Refusals in turn: the first that applies, put together from the tests of the code; and what an outcome that was accepted, or
-- refused, says of all of them.
use mathlib.Core.Path.{◌≡◌, refl, sym, ◌∙◌, ap}
use mathlib.Core.Bool.{Bool, true, false}
use mathlib.Core.List.{List, [], ◌∷◌, ◌++◌}
use Prim.Native.Nat.{ℕ, zero, suc, ◌≤◌, ◌<◌}
use native.Mathlib.Omega.{arith}
use Rattle.std.specs.Prelude.{Result, Ok, Err, IfOk}
use Rattle.answers.specs.declared.Reason.{Reason}
use Rattle.answers.specs.declared.Refusal.{Refusal}
use Rattle.answers.specs.Answers.{Answer, given, refused, Outcome, outcome, judged, at, in_turn, last_number, applies, handed, Keeps, Clear, Finding}
use Rattle.answers.specs.Says.{number_of, reason_of, at_place, refusal_says, judged_says, judged_of}
use Rattle.answers.proofs.Numbers.{reason_number, reason_small, Small, judged_small}
use Rattle.answers.specs.Steps.{FirstOf, by, number_at, place_at, Applies, Named}

-- a verdict that refuses is followed by nothing
judged_at : (v p : ℕ) (lent : List (List ℕ)) (x : Outcome) → 1 ≤ v → judged v p lent x ≡ outcome (refused v p) lent
judged_at zero p lent x h = absurd (omega arith)
judged_at (suc v) p lent x h = refl

-- a test that refuses
pub stops : (r : Reason) (f : Refusal) (k p : ℕ) (fs : List Finding) → f ≡ at_place r p → number_of r ≡ k → FirstOf (at p k ∷ fs) (Err f)
stops r f k p fs q e = record {
  turn =
      λ lent x. ap (λ (g : Refusal). outcome (refusal_says g) lent) q
      ∙ sym (judged_at (number_of r) p lent (in_turn fs lent x) ((reason_small r).0))
      ∙ ap (λ (m : ℕ). judged m p lent (in_turn fs lent x)) e;
  clear = tt;
}

-- a test that does not
pub passes : (k p : ℕ) (fs : List Finding) (r : Result (Unit {0}) Refusal) → k ≡ 0 → FirstOf fs r → FirstOf (at p k ∷ fs) r
passes k p fs r z f = record {
  turn = λ lent x. f.turn lent x ∙ sym (ap (λ (m : ℕ). judged m p lent (in_turn fs lent x)) z);
  clear = pass_clear r f.clear;
}
  where
    pass_clear : (r : Result (Unit {0}) Refusal) → IfOk r (λ u. Clear fs) → IfOk r (λ u. (k ≡ 0) × Clear fs)
    pass_clear (Ok u) c = (z, c)
    pass_clear (Err e) c = tt

-- no test is left
pub none_left : FirstOf [] (Ok tt)
none_left = record { turn = λ lent x. refl; clear = tt }

-- the last test, which does not refuse
pub ends : (k p : ℕ) → k ≡ 0 → FirstOf (at p k ∷ []) (Ok tt)
ends k p z = passes k p [] (Ok tt) z none_left

-- a test by a verdict, whatever it is
pub tested : (k p : ℕ) → k ≤ last_number → FirstOf (at p k ∷ []) (judged_of k p)
tested zero p l = ends 0 p refl
tested (suc k) p l = stops (reason_of (suc k)) (at_place (reason_of (suc k)) p) (suc k) p [] refl (reason_number (suc k) (omega arith) l)

in_turn_lem : (fs gs : List Finding) (lent : List (List ℕ)) (x : Outcome) → in_turn (fs ++ gs) lent x ≡ in_turn fs lent (in_turn gs lent x)
in_turn_lem [] gs lent x = refl
in_turn_lem (f ∷ fs) gs lent x = ap (judged f.number f.place lent) (in_turn_lem fs gs lent x)

-- none of two runs of tests applies where none of either does, and only there
pub clear_both : (fs gs : List Finding) → Clear fs → Clear gs → Clear (fs ++ gs)
clear_both [] gs c d = d
clear_both (f ∷ fs) gs c d = (c.0, clear_both fs gs c.1 d)

pub clear_split : (fs gs : List Finding) → Clear (fs ++ gs) → Clear fs × Clear gs
clear_split [] gs c = (tt, c)
clear_split (f ∷ fs) gs c = let k = clear_split fs gs c.1 in ((c.0, k.0), k.1)

-- several tests at once, of which one refuses
pub stops_in : (fs gs : List Finding) (e : Refusal) → FirstOf fs (Err e) → FirstOf (fs ++ gs) (Err e)
stops_in fs gs e f = record { turn = λ lent x. f.turn lent (in_turn gs lent x) ∙ sym (in_turn_lem fs gs lent x); clear = tt }

-- or none does
pub passes_in : (fs gs : List Finding) (u : Unit {0}) (q : Result (Unit {0}) Refusal) → FirstOf fs (Ok u) → FirstOf gs q → FirstOf (fs ++ gs) q
passes_in fs gs u q f g = record {
  turn = λ lent x. g.turn lent x ∙ f.turn lent (in_turn gs lent x) ∙ sym (in_turn_lem fs gs lent x);
  clear = both q g.clear;
}
  where
    both : (q : Result (Unit {0}) Refusal) → IfOk q (λ v. Clear gs) → IfOk q (λ v. Clear (fs ++ gs))
    both (Ok v) c = clear_both fs gs f.clear c
    both (Err e) c = tt

-- one test that refuses, before others; or does not
pub stop_first : (f : Finding) (fs : List Finding) (e : Refusal) → FirstOf (f ∷ []) (Err e) → FirstOf (f ∷ fs) (Err e)
stop_first f fs e h = stops_in (f ∷ []) fs e h

pub pass_first : (f : Finding) (fs : List Finding) (u : Unit {0}) (q : Result (Unit {0}) Refusal)
    → FirstOf (f ∷ []) (Ok u) → FirstOf fs q → FirstOf (f ∷ fs) q
pass_first f fs u q h g = passes_in (f ∷ []) fs u q h g

-- the answer of a call by the first refusal: refused with it,
pub refused_by : {fs : List Finding} {e : Refusal} → FirstOf fs (Err e) → (lent : List (List ℕ)) (next : Outcome)
    → outcome (refusal_says e) lent ≡ in_turn fs lent next
refused_by f lent next = f.turn lent next

-- or the outcome that follows
pub given_by : {fs : List Finding} {u : Unit {0}} → FirstOf fs (Ok u) → (lent : List (List ℕ)) (y next : Outcome) → y ≡ next → y ≡ in_turn fs lent next
given_by f lent y next q = q ∙ f.turn lent next

-- a refusal that code named, by its number and its place
pub named : (r : Reason) (p : ℕ) {f : Refusal} → f ≡ at_place r p → (lent : List (List ℕ))
    → outcome (refusal_says f) lent ≡ outcome (refused (number_of r) p) lent
named r p e lent = ap (λ (g : Refusal). outcome (refusal_says g) lent) e

-- a question that asks only for the refusal
pub answered_by : {fs : List Finding} {r : Result (Unit {0}) Refusal} → FirstOf fs r → (lent : List (List ℕ))
    → outcome (judged_says r) lent ≡ in_turn fs lent (outcome (given []) lent)
answered_by {fs} {r} f lent = go r ∙ f.turn lent (outcome (given []) lent)
  where
    go : (r : Result (Unit {0}) Refusal) → outcome (judged_says r) lent ≡ by r lent (outcome (given []) lent)
    go (Ok u) = refl
    go (Err e) = refl

-- what a call hands back by the first refusal
module _ {A : Type 0} {fs : List Finding} (lent : List (List ℕ)) (xs : List ℕ) (after : List (List ℕ)) (part empty : A) where
  pub refused_part : {e : Refusal} → FirstOf fs (Err e) → empty ≡ handed (in_turn fs lent (outcome (given xs) after)) part empty
  refused_part f = ap (λ (o : Outcome). handed o part empty) (f.turn lent (outcome (given xs) after))

  pub given_part : {u : Unit {0}} → FirstOf fs (Ok u) → part ≡ handed (in_turn fs lent (outcome (given xs) after)) part empty
  given_part f = ap (λ (o : Outcome). handed o part empty) (f.turn lent (outcome (given xs) after))

-- [R0, D1] refused: nothing lent is changed, by one verdict,
pub judged_keeps : (v p : ℕ) (lent : List (List ℕ)) (o : Outcome) → Keeps lent o → Keeps lent (judged v p lent o)
judged_keeps zero p lent o k = k
judged_keeps (suc v) p lent o k = refl

-- [R0, D1] and by all in turn
pub turn_keeps : (fs : List Finding) (lent : List (List ℕ)) (o : Outcome) → Keeps lent o → Keeps lent (in_turn fs lent o)
turn_keeps [] lent o k = k
turn_keeps (f ∷ fs) lent o k = judged_keeps f.number f.place lent (in_turn fs lent o) (turn_keeps fs lent o k)

-- every number is one of the table, and so is that of the outcome
abbrev pub AllSmall : List Finding → Type 0
AllSmall [] = Unit {0}
AllSmall (f ∷ fs) = (f.number ≤ last_number) × AllSmall fs

pub turn_small : (fs : List Finding) (lent : List (List ℕ)) (o : Outcome) → AllSmall fs → Small o → Small (in_turn fs lent o)
turn_small [] lent o a s = s
turn_small (f ∷ fs) lent o a s = judged_small f.number f.place lent (in_turn fs lent o) a.0 (turn_small fs lent o a.1 s)

-- accepted: no refusal applies, and then it is
pub refused≢given : {n p : ℕ} {l k : List (List ℕ)} {xs : List ℕ} → outcome (refused n p) l ≡ outcome (given xs) k → ⊥
refused≢given e = let z : ◌≡◌ {A = ℕ} 0 1 = cc in omega arith

pub judged_accepted : (v p : ℕ) (lent : List (List ℕ)) (o : Outcome) (xs : List ℕ) (after : List (List ℕ))
    → judged v p lent o ≡ outcome (given xs) after → (v ≡ 0) × (o ≡ outcome (given xs) after)
judged_accepted zero p lent o xs after e = (refl, e)
judged_accepted (suc v) p lent o xs after e = absurd (refused≢given e)

pub turn_accepted : (fs : List Finding) (lent : List (List ℕ)) (o : Outcome) (xs : List ℕ) (after : List (List ℕ))
    → in_turn fs lent o ≡ outcome (given xs) after → Clear fs × (o ≡ outcome (given xs) after)
turn_accepted [] lent o xs after e = (tt, e)
turn_accepted (f ∷ fs) lent o xs after e =
    let j = judged_accepted f.number f.place lent (in_turn fs lent o) xs after e in
    let k = turn_accepted fs lent o xs after j.1 in ((j.0, k.0), k.1)

-- what is refused with a number and a place by the same refusals in turn, or then, is refused so by them before another outcome, whatever is lent
pub turn_refused : (fs : List Finding) (lent : List (List ℕ)) {x y : Outcome} {n p : ℕ}
    → (x ≡ outcome (refused n p) [] → y ≡ outcome (refused n p) lent)
    → in_turn fs [] x ≡ outcome (refused n p) [] → in_turn fs lent y ≡ outcome (refused n p) lent
turn_refused [] lent last e = last e
turn_refused (f ∷ fs) lent {x} {y} {n} {p} last e = step f.number e (turn_refused fs lent last)
  where
    step : (v : ℕ) → judged v f.place [] (in_turn fs [] x) ≡ outcome (refused n p) []
        → (in_turn fs [] x ≡ outcome (refused n p) [] → in_turn fs lent y ≡ outcome (refused n p) lent)
        → judged v f.place lent (in_turn fs lent y) ≡ outcome (refused n p) lent
    step zero h ih = ih h
    step (suc v) h ih = let i : refused (suc v) f.place ≡ refused n p = cc in ap (λ (a : Answer). outcome a lent) i

pub clear_turn : (fs : List Finding) (lent : List (List ℕ)) (o : Outcome) → Clear fs → in_turn fs lent o ≡ o
clear_turn [] lent o c = refl
clear_turn (f ∷ fs) lent o c = rw c.0 (clear_turn fs lent o c.1)

-- of refusals that are all clear, the one at index i
pub clear_at : (fs : List Finding) → Clear fs → (i : ℕ) → number_at fs i ≡ 0
clear_at [] c i = refl
clear_at (f ∷ fs) c zero = c.0
clear_at (f ∷ fs) c (suc i) = clear_at fs c.1 i

pub clear_by : {fs : List Finding} {u : Unit {0}} → FirstOf fs (Ok u) → (i : ℕ) → number_at fs i ≡ 0
clear_by {fs} f = clear_at fs f.clear

-- a test that gives a number: it is clear exactly where it does not hold
pub applies_clear : (t : Bool) (n : ℕ) → applies t (suc n) ≡ 0 → t ≡ false
applies_clear true n e = absurd (omega arith)
applies_clear false n e = refl

pub applies_small : (t : Bool) (n : ℕ) → n ≤ last_number → applies t n ≤ last_number
applies_small true n l = l
applies_small false n l = omega arith

-- [R16, R17, D1] refused exactly when: a call that is given where no refusal applies is refused with the number and the place of finding i
-- where that is the first that applies,
pub refused_at : (fs : List Finding) (lent : List (List ℕ)) (x : Outcome) (i : ℕ) → Applies fs i
    → in_turn fs lent x ≡ outcome (refused (number_at fs i) (place_at fs i)) lent
refused_at [] lent x i a = absurd (a.here refl)
refused_at (f ∷ fs) lent x zero a = go f.number a.here
  where
    go : (v : ℕ) → (v ≡ 0 → ⊥) → judged v f.place lent (in_turn fs lent x) ≡ outcome (refused v f.place) lent
    go zero n = absurd (n refl)
    go (suc v) n = refl
refused_at (f ∷ fs) lent x (suc i) a =
    rw (a.before 0 (omega arith)) (refused_at fs lent x i (record { before = λ k h. a.before (suc k) (omega arith); here = a.here }))

-- [R17, D1] and is refused with no other: the refusal is that of the first that applies
pub refused_named : (fs : List Finding) (lent : List (List ℕ)) (xs : List ℕ) (after : List (List ℕ)) (n p : ℕ) (left : List (List ℕ))
    → in_turn fs lent (outcome (given xs) after) ≡ outcome (refused n p) left → Named fs n p
refused_named [] lent xs after n p left e = absurd (refused≢given (sym e))
refused_named (f ∷ fs) lent xs after n p left e = go f.number refl e (λ d. refused_named fs lent xs after n p left d)
  where
    go : (v : ℕ) → f.number ≡ v → judged v f.place lent (in_turn fs lent (outcome (given xs) after)) ≡ outcome (refused n p) left
        → (in_turn fs lent (outcome (given xs) after) ≡ outcome (refused n p) left → Named fs n p) → Named (f ∷ fs) n p
    go zero z d ih =
        let m = ih d in
        record { index = suc m.index; first = record { before = later m.first z; here = m.first.here }; number = m.number; place = m.place }
      where
        later : {i : ℕ} → Applies fs i → f.number ≡ 0 → (k : ℕ) → k < suc i → number_at (f ∷ fs) k ≡ 0
        later a z zero h = z
        later a z (suc k) h = a.before k (omega arith)
    go (suc v) z d ih =
        let q : suc v ≡ n = cc in
        let r : f.place ≡ p = cc in
        record {
          index = 0;
          first = record { before = λ k h. absurd (omega arith); here = λ y. let b : suc v ≡ 0 = sym z ∙ y in omega arith };
          number = z ∙ q;
          place = r;
        }

-- an outcome without its values: what a companion question answers
abbrev pub bare : Outcome → Outcome
bare (outcome (given xs) lent) = outcome (given []) lent
bare (outcome (refused n p) lent) = outcome (refused n p) lent

pub turn_bare : (fs : List Finding) (lent : List (List ℕ)) (o : Outcome) → bare (in_turn fs lent o) ≡ in_turn fs lent (bare o)
turn_bare [] lent o = refl
turn_bare (f ∷ fs) lent o = go f.number (turn_bare fs lent o)
  where
    go : (v : ℕ) → bare (in_turn fs lent o) ≡ in_turn fs lent (bare o) → bare (judged v f.place lent (in_turn fs lent o))
        ≡ judged v f.place lent (in_turn fs lent (bare o))
    go zero e = e
    go (suc v) e = refl
