-- The tables of the set operations: how many ranges each can make, and that it makes the operation's own list.
use mathlib.Core.Path.{◌≡◌, refl, sym, ◌∙◌, ap}
use mathlib.Core.Bool.{Bool, true, false, not}
use mathlib.Core.List.{List, [], ◌∷◌}
use Prim.Native.Nat.{ℕ, ◌+◌, ◌≤◌}
use native.Mathlib.Omega.{arith}
use lib.Dec.{ltb}
use lib.ListN.{length}
use borrow.Author.Tests.{lt-ltb}
use Rattle.sets.specs.Steps.{set_layouts}
use Rattle.answers.specs.Answers.{judged as judged_by, given, truth, Answer, outcome}
use Rattle.entries.specs.Entries.{Entry, Sound}
use Rattle.entries.specs.Build.{andb}
use Rattle.entries.specs.Sets.{member, union, intersection, difference, symmetric_difference, complement}
use Rattle.entries.specs.Questions.{is_empty}
use Rattle.entries.proofs.Limits.{union_bound, difference_bound, symmetric_bound, intersection_bound, complement_bound}
use Rattle.entries.proofs.Sets.{intersection_is}
use Rattle.entries.proofs.Questions.{none_empty}
use Rattle.sweeps.specs.Sweeps.{sweep_result, Bounded, in_either, in_both, first_alone, just_one, not_first}
use Rattle.sweeps.proofs.Tables.{union_table, intersection_table, difference_table, symmetric_table, complement_table, fit_set, bounded}
use Rattle.operations.specs.Calls.{from_two, from_one}
use Rattle.operations.proofs.Making.{set_small, two_as, one_as}
use Rattle.operations.specs.Steps.{TwoFit, OneFit}
use Rattle.answers.specs.Says.{truth_value}
use Rattle.answers.specs.Steps.{FirstOf}
use Rattle.answers.proofs.Turns.{given_by}
use Rattle.std.specs.Prelude.{Ok}
use Rattle.blocks.specs.Calls.{input}
use Rattle.blocks.specs.Blocks.{entries_of, verdict, set_layout, Lent}
use Rattle.sets.specs.Calls.{asked_two, equal_call, within_call, disjoint_call}
use Rattle.sets.specs.Calls.{union_call, intersection_call, difference_call, symmetric_difference_call, complement_call}
use Rattle.entries.proofs.Values.{true≢false}

empty_length : (es : List Entry) → is_empty es ≡ true → length es ≡ 0
empty_length [] h = refl
empty_length (e ∷ es) h = absurd (true≢false (sym h))

and_none : (b : Bool) → andb b false ≡ false
and_none true = refl
and_none false = refl

-- [S14] an intersection with a set of no ranges has none
pub intersection_none : (fs : List Entry) → length (intersection [] fs) ≡ 0
intersection_none fs =
    empty_length (intersection [] fs) (none_empty (intersection [] fs) (intersection_is [] fs).sound (λ x. (intersection_is [] fs).members x))

pub none_intersection : (es : List Entry) → length (intersection es []) ≡ 0
none_intersection es =
    empty_length (intersection es [])
    (none_empty (intersection es []) (intersection_is es []).sound (λ x. (intersection_is es []).members x ∙ and_none (member es x)))

intersection_most : (es fs : List Entry) → Sound es → Sound fs → length (intersection es fs) ≤ length es + length fs
intersection_most [] fs s t = omega (arith, intersection_none fs)
intersection_most (e ∷ es) [] s t = omega (arith, none_intersection (e ∷ es))
intersection_most (e ∷ es) (f ∷ fs) s t = omega (arith, intersection_bound e f es fs s t)

-- a table that makes an operation with at most n + m ranges
fitting : (t : ℕ) (op : List Entry → List Entry → List Entry) → ((es fs : List Entry) → Bounded es → Bounded fs → sweep_result t 2 es fs [] ≡ op es fs)
    → ((es fs : List Entry) → Sound es → Sound fs → length (op es fs) ≤ length es + length fs) → TwoFit t set_layouts 1
fitting t op table most = record {
  fit = fit_set t 2 2 2 (omega arith) (omega arith) (omega arith);
  first = set_small;
  second = set_small;
  few = omega arith;
  small = omega arith;
  bound = λ es fs s t p q h k. omega (arith, ap length (table es fs p q), most es fs s t);
}

pub union_fit : TwoFit in_either set_layouts 1
union_fit = fitting in_either union union_table union_bound

pub intersection_fit : TwoFit in_both set_layouts 1
intersection_fit = fitting in_both intersection intersection_table intersection_most

pub difference_fit : TwoFit first_alone set_layouts 1
difference_fit = fitting first_alone difference difference_table difference_bound

pub symmetric_fit : TwoFit just_one set_layouts 1
symmetric_fit = fitting just_one symmetric_difference symmetric_table symmetric_bound

pub complement_fit : OneFit not_first set_layout set_layout
complement_fit = record {
  fit = fit_set not_first 2 2 2 (omega arith) (omega arith) (omega arith);
  from = set_small;
  few = omega arith;
  bound = λ es s p. omega (arith, ap length (complement_table es), complement_bound es s);
}

-- [S7] any item, or none
pub empty_no : (es : List Entry) (t : Bool) → t ≡ ltb 0 (length es) → t ≡ true → truth false ≡ truth (is_empty es)
empty_no [] t e z = absurd (true≢false (sym z ∙ e))
empty_no (x ∷ es) t e z = refl

pub empty_yes : (es : List Entry) (t : Bool) → t ≡ ltb 0 (length es) → t ≡ false → truth true ≡ truth (is_empty es)
empty_yes [] t e z = refl
empty_yes (x ∷ es) t e z = absurd (true≢false (sym (lt-ltb 0 (length (x ∷ es)) (omega arith)) ∙ sym e ∙ z))

pub none_kept : (es : List Entry) (t : Bool) → t ≡ ltb 0 (length es) → given (truth_value (not t)) ≡ truth (is_empty es)
none_kept es true e = empty_no es true e refl
none_kept es false e = empty_yes es false e refl

-- a question about two sets answered
pub give_two : (w v : List ℕ) {u : Unit {0}} → FirstOf (input 0 set_layout w ∷ input 1 set_layout v ∷ []) (Ok u)
    → (answer : List Entry → List Entry → Answer) (a : Answer) → a ≡ answer (entries_of 2 w) (entries_of 2 v) → outcome a [] ≡ asked_two w v answer
give_two w v f answer a q =
    given_by f [] (outcome a []) (outcome (answer (entries_of 2 w) (entries_of 2 v)) []) (ap (λ (b : Answer). outcome b []) q)

-- what a table makes of two sets is what its operation makes: the call that stores it, and the question whether it is empty
module _ (t : ℕ) {op : List Entry → List Entry → List Entry} (table : (es fs : List Entry) → Bounded es → Bounded fs → sweep_result t 2 es fs [] ≡ op es fs)
    (w v : List ℕ) (lent : Lent w) (lent' : Lent v) where
  pub made_as : (o : List ℕ) → from_two set_layout set_layout set_layout (λ es fs. sweep_result t 2 es fs []) w v o ≡ from_two set_layout set_layout set_layout op w v o
  made_as o =
      two_as set_layout set_layout set_layout (λ es fs. sweep_result t 2 es fs []) op w v o
      (λ p q. table (entries_of 2 w) (entries_of 2 v) (bounded 2 w lent) (bounded 2 v lent'))

  pub asked_as : asked_two w v (λ es fs. truth (is_empty (sweep_result t 2 es fs []))) ≡ asked_two w v (λ es fs. truth (is_empty (op es fs)))
  asked_as =
      ap (λ (l : List Entry). judged_by (verdict set_layout w) 0 [] (judged_by (verdict set_layout v) 1 [] (outcome (truth (is_empty l)) [])))
      (table (entries_of 2 w) (entries_of 2 v) (bounded 2 w lent) (bounded 2 v lent'))

-- so each operation's call is what its table makes,
pub union_made : (w v o : List ℕ) → Lent w → Lent v
    → from_two set_layout set_layout set_layout (λ es fs. sweep_result in_either 2 es fs []) w v o ≡ union_call w v o
unfolding union_call
union_made w v o l m = made_as in_either union_table w v l m o

pub intersection_made : (w v o : List ℕ) → Lent w → Lent v
    → from_two set_layout set_layout set_layout (λ es fs. sweep_result in_both 2 es fs []) w v o ≡ intersection_call w v o
unfolding intersection_call
intersection_made w v o l m = made_as in_both intersection_table w v l m o

pub difference_made : (w v o : List ℕ) → Lent w → Lent v
    → from_two set_layout set_layout set_layout (λ es fs. sweep_result first_alone 2 es fs []) w v o ≡ difference_call w v o
unfolding difference_call
difference_made w v o l m = made_as first_alone difference_table w v l m o

pub symmetric_difference_made : (w v o : List ℕ) → Lent w → Lent v
    → from_two set_layout set_layout set_layout (λ es fs. sweep_result just_one 2 es fs []) w v o ≡ symmetric_difference_call w v o
unfolding symmetric_difference_call
symmetric_difference_made w v o l m = made_as just_one symmetric_table w v l m o

pub complement_made : (w o : List ℕ) → from_one set_layout set_layout (λ es. sweep_result not_first 2 es [] []) w o ≡ complement_call w o
unfolding complement_call
complement_made w o = one_as set_layout set_layout (λ es. sweep_result not_first 2 es [] []) complement w o (complement_table (entries_of 2 w))

-- and each question is whether its table keeps nothing
pub equal_asked : (w v : List ℕ) → Lent w → Lent v → asked_two w v (λ es fs. truth (is_empty (sweep_result just_one 2 es fs []))) ≡ equal_call w v
unfolding equal_call
equal_asked w v l m = asked_as just_one symmetric_table w v l m

pub within_asked : (w v : List ℕ) → Lent w → Lent v → asked_two w v (λ es fs. truth (is_empty (sweep_result first_alone 2 es fs []))) ≡ within_call w v
unfolding within_call
within_asked w v l m = asked_as first_alone difference_table w v l m

pub disjoint_asked : (w v : List ℕ) → Lent w → Lent v → asked_two w v (λ es fs. truth (is_empty (sweep_result in_both 2 es fs []))) ≡ disjoint_call w v
unfolding disjoint_call
disjoint_asked w v l m = asked_as in_both intersection_table w v l m
