-- DEMAND 2 for sets: «A list acts as the plain set of numbers it names, at 0 and 2^64 - 1 too. Each call changes the named numbers
-- and no others. One set has one stored form.» Each theorem says what an accepted call leaves, in the words of membership alone.
use mathlib.Core.Path.{◌≡◌, refl, sym, ◌∙◌, ap}
use mathlib.Core.Bool.{Bool, true, false}
use mathlib.Core.Option.{Option, some}
use mathlib.Core.List.{List, [], ◌∷◌}
use Prim.Native.Nat.{ℕ}
use native.Mathlib.Omega.{arith}
use lib.Dec.{leb}
use lib.ListN.{length}
use Rattle.entries.proofs.Plain.{mark_empty, set_canonical, listed_plain, plain_marks}
use Rattle.entries.proofs.Sets.{has_mark, SetOf, union_is, intersection_is, difference_is, symmetric_is, complement_is}
use Rattle.blocks.specs.declared.Layout.{Layout}
use Rattle.blocks.specs.Blocks.{set_layout, entries_of, block_of, verdict}
use Rattle.operations.specs.Calls.{two_refusals, from_two, one_refusals, from_one}
use Rattle.entries.specs.Entries.{Value, Entry, value_at}
use Rattle.entries.specs.Build.{pick, andb, put, with}
use Rattle.entries.specs.Sets.{has, mark, M, Plain, member, orb, lessb, xorb, union, intersection, difference, symmetric_difference, complement}
use Rattle.entries.specs.Questions.{is_empty}
use Rattle.entries.proofs.Put.{put_is}
use Rattle.entries.proofs.Questions.{empty_none, none_empty, within}
use Rattle.entries.proofs.Values.{true≢false}
use Rattle.answers.specs.Answers.{given, outcome, Keeps}
use Rattle.blocks.proofs.Judging.{verdict_sound}
use Rattle.blocks.proofs.Canonical.{Zeros, block_is}
use Rattle.blocks.specs.Calls.{output, holding}
use Rattle.blocks.proofs.Refusing.{some_words}
use Rattle.edits.specs.Calls.{edited, edit_refusals, edit_call}
use Rattle.sets.specs.Calls.{insert_call, remove_call, make_empty_call, union_call, intersection_call, difference_call, symmetric_difference_call, complement_call}
use Rattle.sets.proofs.Asking.{entries_plain}
use Rattle.answers.proofs.Turns.{turn_keeps, turn_accepted, clear_at}
use Rattle.demands.specs.Plain.{SetLeft}
use Rattle.demands.proofs.Accepting.{set_left}

-- «One set has one stored form»: two sound blocks of the same length that name the same numbers and have zeros after have the same words
pub one_form : (w v : List ℕ) → verdict set_layout w ≡ 0 → verdict set_layout v ≡ 0 → length w ≡ length v → Zeros 2 w → Zeros 2 v
    → ((x : ℕ) → member (entries_of 2 w) x ≡ member (entries_of 2 v) x) → w ≡ v
one_form w v p q l y z h =
    let b = verdict_sound set_layout w p in
    let c = verdict_sound set_layout v q in
    let e = set_canonical (entries_of 2 w) (entries_of 2 v) b.sound c.sound (entries_plain w) (entries_plain v) h in
    block_is set_layout w (omega arith) b y ∙ ap (block_of (length w)) e ∙ ap (λ (n : ℕ). block_of n (entries_of 2 v)) l
    ∙ sym (block_is set_layout v (omega arith) c z)

-- EDITS. The result is a set: o is a mark.
put_set : (es : List Entry) (a b : ℕ) (t : Bool) → Plain es → SetOf (λ x. pick (within a b x) t (member es x)) (put es a b (mark t))
put_set es a b t f = record {
  sound = (put_is es a b (mark t)).sound;
  plain = listed_plain (with es a b (mark t)) (put es a b (mark t)) (put_is es a b (mark t)) (λ x v q. go (within a b x) x v q);
  members = λ x. ap has ((put_is es a b (mark t)).names x) ∙ on (within a b x) x;
}
  where
    go : (u : Bool) (x : ℕ) (v : Value) → pick u (mark t) (value_at es x) ≡ some v → v ≡ []
    go true x v q = mark_empty t v q
    go false x v q = plain_marks es f x v q

    on : (u : Bool) (x : ℕ) → has (pick u (mark t) (value_at es x)) ≡ pick u t (member es x)
    on true x = has_mark t
    on false x = refl

edit_means : (w : List ℕ) (a b : ℕ) (t : Bool) (xs after : List ℕ) → edit_call set_layout w a b (mark t) ≡ outcome (given xs) (after ∷ [])
    → SetLeft (length w) (λ x. pick (within a b x) t (member (entries_of 2 w) x)) after
unfolding edit_call
edit_means w a b t xs after e =
    let es = edited set_layout w a b (mark t) in
    let fs = edit_refusals set_layout w a b es in
    let k = turn_accepted fs (w ∷ []) (holding w es) xs (after ∷ []) e in
    let c = clear_at fs k.0 in
    set_left w es _ xs after (verdict_sound set_layout w (c 0)).some (put_set (entries_of 2 w) a b t (entries_plain w)) (c 2) k.1

-- insert: a..b in, every other number as it was
pub insert_means : (w : List ℕ) (a b : ℕ) (xs after : List ℕ) → insert_call w a b ≡ outcome (given xs) (after ∷ [])
    → SetLeft (length w) (λ x. pick (within a b x) true (member (entries_of 2 w) x)) after
insert_means w a b xs after e = edit_means w a b true xs after e

-- remove: a..b out, every other number as it was
pub remove_means : (w : List ℕ) (a b : ℕ) (xs after : List ℕ) → remove_call w a b ≡ outcome (given xs) (after ∷ [])
    → SetLeft (length w) (λ x. pick (within a b x) false (member (entries_of 2 w) x)) after
remove_means w a b xs after e = edit_means w a b false xs after e

pub edit_keeps : (l : Layout) (w : List ℕ) (a b : ℕ) (o : Option Value) → Keeps (w ∷ []) (edit_call l w a b o)
unfolding edit_call
edit_keeps l w a b o = turn_keeps (edit_refusals l w a b (edited l w a b o)) (w ∷ []) (holding w (edited l w a b o)) tt

-- make empty: no number is a member
pub empty_means : (w : List ℕ) (xs after : List ℕ) → make_empty_call w ≡ outcome (given xs) (after ∷ []) → after ≡ block_of (length w) []
unfolding make_empty_call
empty_means w xs after e = same (turn_accepted (output 0 (length w) ∷ []) (w ∷ []) (holding w []) xs (after ∷ []) e).1
  where
    same : holding w [] ≡ outcome (given xs) (after ∷ []) → after ≡ block_of (length w) []
    same d = cc

pub empty_keeps : (w : List ℕ) → Keeps (w ∷ []) (make_empty_call w)
unfolding make_empty_call
empty_keeps w = turn_keeps (output 0 (length w) ∷ []) (w ∷ []) (holding w []) tt

-- OPERATIONS into an output
two_means : (make : List Entry → List Entry → List Entry) (g : Bool → Bool → Bool)
    → ((es fs : List Entry) → SetOf (λ x. g (member es x) (member fs x)) (make es fs)) → (w v o : List ℕ) (xs after : List ℕ)
    → from_two set_layout set_layout set_layout make w v o ≡ outcome (given xs) (after ∷ [])
    → SetLeft (length o) (λ x. g (member (entries_of 2 w) x) (member (entries_of 2 v) x)) after
two_means make g is w v o xs after e =
    let es = make (entries_of 2 w) (entries_of 2 v) in
    let fs = two_refusals set_layout set_layout set_layout w v (length o) es in
    let k = turn_accepted fs (o ∷ []) (holding o es) xs (after ∷ []) e in
    let c = clear_at fs k.0 in
    set_left o es _ xs after (some_words (length o) (c 2)) (is (entries_of 2 w) (entries_of 2 v)) (c 3) k.1

pub union_means : (w v o xs after : List ℕ) → union_call w v o ≡ outcome (given xs) (after ∷ [])
    → SetLeft (length o) (λ x. orb (member (entries_of 2 w) x) (member (entries_of 2 v) x)) after
unfolding union_call
union_means = two_means union orb union_is

pub intersection_means : (w v o xs after : List ℕ) → intersection_call w v o ≡ outcome (given xs) (after ∷ [])
    → SetLeft (length o) (λ x. andb (member (entries_of 2 w) x) (member (entries_of 2 v) x)) after
unfolding intersection_call
intersection_means = two_means intersection andb intersection_is

pub difference_means : (w v o xs after : List ℕ) → difference_call w v o ≡ outcome (given xs) (after ∷ [])
    → SetLeft (length o) (λ x. lessb (member (entries_of 2 w) x) (member (entries_of 2 v) x)) after
unfolding difference_call
difference_means = two_means difference lessb difference_is

pub symmetric_means : (w v o xs after : List ℕ) → symmetric_difference_call w v o ≡ outcome (given xs) (after ∷ [])
    → SetLeft (length o) (λ x. xorb (member (entries_of 2 w) x) (member (entries_of 2 v) x)) after
unfolding symmetric_difference_call
symmetric_means = two_means symmetric_difference xorb symmetric_is

-- within 0..M
pub complement_means : (w o xs after : List ℕ) → complement_call w o ≡ outcome (given xs) (after ∷ [])
    → SetLeft (length o) (λ x. lessb (leb x M) (member (entries_of 2 w) x)) after
unfolding complement_call
complement_means w o xs after e =
    let es = complement (entries_of 2 w) in
    let fs = one_refusals set_layout set_layout w (length o) es in
    let k = turn_accepted fs (o ∷ []) (holding o es) xs (after ∷ []) e in
    let c = clear_at fs k.0 in
    set_left o es _ xs after (some_words (length o) (c 1)) (complement_is (entries_of 2 w)) (c 2) k.1

pub two_keeps : (first second out : Layout) (make : List Entry → List Entry → List Entry) (w v o : List ℕ)
    → Keeps (o ∷ []) (from_two first second out make w v o)
two_keeps first second out make w v o =
    turn_keeps (two_refusals first second out w v (length o) (make (entries_of first.width w) (entries_of second.width v))) (o ∷ [])
    (holding o (make (entries_of first.width w) (entries_of second.width v))) tt

pub one_keeps : (first out : Layout) (make : List Entry → List Entry) (w o : List ℕ) → Keeps (o ∷ []) (from_one first out make w o)
one_keeps first out make w o =
    turn_keeps (one_refusals first out w (length o) (make (entries_of first.width w))) (o ∷ []) (holding o (make (entries_of first.width w))) tt

-- QUESTIONS of two sets: what the answer yes says, and that it is given exactly then
module _ (es fs : List Entry) where
  and_fact : (a b : Bool) → lessb a b ≡ false → a ≡ true → b ≡ true
  and_fact true true h k = refl
  and_fact true false h k = sym h
  and_fact false b h k = absurd (true≢false (sym k))

  fact_and : (a b : Bool) → (a ≡ true → b ≡ true) → lessb a b ≡ false
  fact_and true true h = refl
  fact_and true false h = sym (h refl)
  fact_and false b h = refl

  pub within_means : is_empty (difference es fs) ≡ true → (x : ℕ) → member es x ≡ true → member fs x ≡ true
  within_means h x = and_fact (member es x) (member fs x) (sym ((difference_is es fs).members x) ∙ empty_none (difference es fs) h x)

  pub means_within : ((x : ℕ) → member es x ≡ true → member fs x ≡ true) → is_empty (difference es fs) ≡ true
  means_within h =
      none_empty (difference es fs) (difference_is es fs).sound
      (λ x. (difference_is es fs).members x ∙ fact_and (member es x) (member fs x) (h x))

  same_bit : (a b : Bool) → xorb a b ≡ false → a ≡ b
  same_bit true true h = refl
  same_bit true false h = h
  same_bit false true h = sym h
  same_bit false false h = refl

  bit_same : (a : Bool) → xorb a a ≡ false
  bit_same true = refl
  bit_same false = refl

  pub equal_means : is_empty (symmetric_difference es fs) ≡ true → (x : ℕ) → member es x ≡ member fs x
  equal_means h x = same_bit (member es x) (member fs x) (sym ((symmetric_is es fs).members x) ∙ empty_none (symmetric_difference es fs) h x)

  pub means_equal : ((x : ℕ) → member es x ≡ member fs x) → is_empty (symmetric_difference es fs) ≡ true
  means_equal h =
      none_empty (symmetric_difference es fs) (symmetric_is es fs).sound
      (λ x. (symmetric_is es fs).members x ∙ ap (λ (b : Bool). xorb b (member fs x)) (h x) ∙ bit_same (member fs x))

  pub disjoint_means : is_empty (intersection es fs) ≡ true → (x : ℕ) → andb (member es x) (member fs x) ≡ false
  disjoint_means h x = sym ((intersection_is es fs).members x) ∙ empty_none (intersection es fs) h x

  pub means_disjoint : ((x : ℕ) → andb (member es x) (member fs x) ≡ false) → is_empty (intersection es fs) ≡ true
  means_disjoint h = none_empty (intersection es fs) (intersection_is es fs).sound (λ x. (intersection_is es fs).members x ∙ h x)
