-- What a change leaves, and when there is no room: the statements of specs/Changes.
use mathlib.Core.Path.{◌≡◌, refl, sym, ◌∙◌, ap, ap₂, subst}
use mathlib.Core.Bool.{Bool, true, false}
use mathlib.Core.Option.{Option, none, some}
use mathlib.Core.List.{List, [], ◌∷◌}
use Prim.Native.Nat.{ℕ, ◌+◌, ◌-◌, ◌≤◌}
use native.Mathlib.Omega.{arith}
use lib.Dec.{ltb}
use lib.ListN.{length, get_or, drop}
use borrow.Author.Tests.{ltb-false, le-ltb}
use Rattle.entries.specs.Entries.{Value, Entry, Sound, value_at}
use Rattle.entries.specs.Build.{pick, andb}
use Rattle.entries.specs.Sets.{has, member, union, intersection, difference, symmetric_difference, complement}
use Rattle.entries.specs.Maps.{keep_if, overlay}
use Rattle.entries.specs.Questions.{is_empty}
use Rattle.entries.proofs.Values.{true≢false}
use Rattle.entries.proofs.Questions.{none_empty}
use Rattle.entries.proofs.Limits.{union_bound, difference_bound, symmetric_bound, intersection_bound, complement_bound, put_bound, insert_bound, erase_bound}
use Rattle.entries.proofs.Limits.{overlay_bound}
use Rattle.answers.proofs.Turns.{turn_accepted, clear_at, applies_clear}
use Rattle.blocks.specs.declared.Layout.{Layout}
use Rattle.blocks.specs.Blocks.{set_layout, map_layout, capacity, entries_of, block_of, verdict}
use Rattle.blocks.specs.Calls.{output, holding}
use Rattle.blocks.proofs.Refusing.{some_words}
use Rattle.blocks.proofs.Words.{items_length}
use Rattle.blocks.proofs.Judging.{verdict_sound}
use Rattle.edits.specs.Calls.{edited, edit_refusals, edit_call}
use Rattle.operations.specs.Calls.{two_refusals, one_refusals, from_two}
use Rattle.sets.specs.Calls.{make_empty_call, union_call, intersection_call, difference_call, symmetric_difference_call, complement_call}
use Rattle.sets.proofs.Asking.{entries_plain}
use Rattle.maps.specs.Calls.{overlay_call}
use Rattle.demands.specs.Plain.{In, leaves, SetLeft}
use Rattle.demands.specs.Changes.{MakeEmpty, Insert, Remove, Union, Intersection, Difference, SymmetricDifference, Complement, Assign, Erase, Overlay}
use Rattle.demands.specs.Changes.{Restriction, Domain}
use Rattle.demands.proofs.Accepting.{set_left}
use Rattle.demands.proofs.Sets.{insert_means, remove_means, union_means, intersection_means, difference_means, symmetric_means, complement_means}
use Rattle.demands.proofs.Maps.{assign_means, erase_means, overlay_means, restriction_means, domain_means}

-- word 0 of what is left counts the entries of the result
counted : (w : List ℕ) (es : List Entry) (after : List ℕ) → holding w es ≡ leaves after → get_or after 0 0 ≡ length es
unfolding block_of
counted w es after e = let k : block_of (length w) es ≡ after = cc in ap (λ (v : List ℕ). get_or v 0 0) (sym k)

-- and word 0 of an input those that it says
pub count_in : (s : ℕ) (w : List ℕ) → length (entries_of s w) ≡ get_or w 0 0
count_in s w = items_length s (get_or w 0 0) (drop 1 w)

-- an accepted edit
pub record Edited (l : Layout) (w : List ℕ) (a b : ℕ) (o : Option Value) (after : List ℕ) : Type 0 where
  pub sound : verdict l w ≡ 0
  pub order : a ≤ b
  pub count : get_or after 0 0 ≡ length (edited l w a b o)

pub edit_accepted : (l : Layout) (w : List ℕ) (a b : ℕ) (o : Option Value) (after : List ℕ) → edit_call l w a b o ≡ leaves after → Edited l w a b o after
unfolding edit_call
edit_accepted l w a b o after e =
    let fs = edit_refusals l w a b (edited l w a b o) in
    let k = turn_accepted fs (w ∷ []) (holding w (edited l w a b o)) [] (after ∷ []) e in
    record {
      sound = clear_at fs k.0 0;
      order = ltb-false b a (applies_clear (ltb b a) 3 (clear_at fs k.0 1));
      count = counted w (edited l w a b o) after k.1;
    }

pub insert_changes : Insert
insert_changes w a b after e =
    let k = edit_accepted set_layout w a b (some []) after e in (
      insert_means w a b [] after e,
      omega (arith, k.count, insert_bound (entries_of 2 w) a b k.order (verdict_sound set_layout w k.sound).sound (entries_plain w), count_in 2 w),
    )

pub remove_changes : Remove
remove_changes w a b after e =
    let k = edit_accepted set_layout w a b none after e in (
      remove_means w a b [] after e,
      omega (arith, k.count, erase_bound (entries_of 2 w) a b k.order (verdict_sound set_layout w k.sound).sound, count_in 2 w),
    )

pub assign_changes : Assign
assign_changes w a b v after e =
    let k = edit_accepted map_layout w a b (some (v ∷ [])) after e in (
      assign_means w a b v [] after e,
      omega (arith, k.count, put_bound (entries_of 3 w) a b k.order (some (v ∷ [])) (verdict_sound map_layout w k.sound).sound, count_in 3 w),
    )

pub erase_changes : Erase
erase_changes w a b after e =
    let k = edit_accepted map_layout w a b none after e in (
      erase_means w a b [] after e,
      omega (arith, k.count, erase_bound (entries_of 3 w) a b k.order (verdict_sound map_layout w k.sound).sound, count_in 3 w),
    )

-- an accepted result of two blocks
record Made (first second : Layout) (make : List Entry → List Entry → List Entry) (w v after : List ℕ) : Type 0 where
  first_sound : verdict first w ≡ 0
  second_sound : verdict second v ≡ 0
  count : get_or after 0 0 ≡ length (make (entries_of first.width w) (entries_of second.width v))

two_accepted : (first second out : Layout) (make : List Entry → List Entry → List Entry) (w v o after : List ℕ)
    → from_two first second out make w v o ≡ leaves after → Made first second make w v after
two_accepted first second out make w v o after e =
    let es = make (entries_of first.width w) (entries_of second.width v) in
    let fs = two_refusals first second out w v (length o) es in
    let k = turn_accepted fs (o ∷ []) (holding o es) [] (after ∷ []) e in
    record { first_sound = clear_at fs k.0 0; second_sound = clear_at fs k.0 1; count = counted o es after k.1 }

module _ (w v : List ℕ) (after : List ℕ) where
  -- a bound on the ranges of the result is one on word 0
  most : (make : List Entry → List Entry → List Entry) → Made set_layout set_layout make w v after
      → ((a b : List Entry) → Sound a → Sound b → length (make a b) ≤ length a + length b) → get_or after 0 0 ≤ get_or w 0 0 + get_or v 0 0
  most make k bound =
      omega (
        arith,
        k.count,
        bound (entries_of 2 w) (entries_of 2 v) (verdict_sound set_layout w k.first_sound).sound (verdict_sound set_layout v k.second_sound).sound,
        count_in 2 w,
        count_in 2 v,
      )

pub union_changes : Union
unfolding union_call
union_changes w v o after e =
    (union_means w v o [] after e, most w v after union (two_accepted set_layout set_layout set_layout union w v o after e) union_bound)

pub difference_changes : Difference
unfolding difference_call
difference_changes w v o after e =
    (difference_means w v o [] after e, most w v after difference (two_accepted set_layout set_layout set_layout difference w v o after e) difference_bound)

pub symmetric_changes : SymmetricDifference
unfolding symmetric_difference_call
symmetric_changes w v o after e = (
  symmetric_means w v o [] after e,
  most w v after symmetric_difference
      (two_accepted set_layout set_layout set_layout symmetric_difference w v o after e) symmetric_bound,
)

-- of both: none at all where one of them has none
pub intersection_changes : Intersection
unfolding intersection_call
intersection_changes w v o after e =
    let k = two_accepted set_layout set_layout set_layout intersection w v o after e in
    let m = intersection_means w v o [] after e in (
      m,
      bound k (entries_of 2 w) (entries_of 2 v) refl refl,
      λ z. empty k m (λ x. ap (λ (es : List Entry). andb (member es x) (In v x)) (no_items (entries_of 2 w) (count_in 2 w ∙ z))),
      λ z. empty k m (λ x. ap (λ (es : List Entry). andb (In w x) (member es x)) (no_items (entries_of 2 v) (count_in 2 v ∙ z)) ∙ and_false (In w x)),
    )
  where
    no_items : (es : List Entry) → length es ≡ 0 → es ≡ []
    no_items [] e = refl
    no_items (f ∷ es) e = absurd (omega arith)

    and_false : (t : Bool) → andb t false ≡ false
    and_false true = refl
    and_false false = refl

    empty : Made set_layout set_layout intersection w v after → SetLeft (length o) (λ x. andb (In w x) (In v x)) after
        → ((x : ℕ) → andb (In w x) (In v x) ≡ false)
        → get_or after 0 0 ≡ 0
    empty k m h =
        sym (count_in 2 after) ∙ ap length (no_list (entries_of 2 after)
        (none_empty (entries_of 2 after) (verdict_sound set_layout after m.sound).sound (λ x. m.members x ∙ h x)))
      where
        no_list : (es : List Entry) → is_empty es ≡ true → es ≡ []
        no_list [] e = refl
        no_list (f ∷ es) e = absurd (true≢false (sym e))

    bound : Made set_layout set_layout intersection w v after → (es fs : List Entry) → entries_of 2 w ≡ es → entries_of 2 v ≡ fs
        → get_or after 0 0 ≤ get_or w 0 0 + get_or v 0 0 - 1
    bound k [] fs p q = let z = empty k (intersection_means w v o [] after e) (λ x. ap (λ (es : List Entry). andb (member es x) (In v x)) p) in omega arith
    bound k (d ∷ es) [] p q =
        let z = empty k (intersection_means w v o [] after e) (λ x. ap (λ (fs : List Entry). andb (In w x) (member fs x)) q ∙ and_false (In w x)) in omega arith
    bound k (d ∷ es) (f ∷ fs) p q =
        let s = subst Sound p (verdict_sound set_layout w k.first_sound).sound in
        let t = subst Sound q (verdict_sound set_layout v k.second_sound).sound in
        let i = intersection_bound d f es fs s t in
        let c : get_or after 0 0 ≡ length (intersection (d ∷ es) (f ∷ fs)) = k.count ∙ ap₂ (λ (x y : List Entry). length (intersection x y)) p q in
        omega (arith, sym (count_in 2 w) ∙ ap length p, sym (count_in 2 v) ∙ ap length q)

-- from one block
pub complement_changes : Complement
unfolding complement_call
complement_changes w o after e =
    let es = complement (entries_of 2 w) in
    let fs = one_refusals set_layout set_layout w (length o) es in
    let k = turn_accepted fs (o ∷ []) (holding o es) [] (after ∷ []) e in (
      complement_means w o [] after e,
      omega (arith, counted o es after k.1, complement_bound (entries_of 2 w) (verdict_sound set_layout w (clear_at fs k.0 0)).sound, count_in 2 w),
    )

pub overlay_changes : Overlay
unfolding overlay_call
overlay_changes upper lower o after e =
    let k = two_accepted map_layout map_layout map_layout overlay upper lower o after e in (
      overlay_means upper lower o [] after e,
      omega (
        arith,
        k.count,
        overlay_bound (entries_of 3 upper) (entries_of 3 lower) (verdict_sound map_layout upper k.first_sound).sound
            (verdict_sound map_layout lower k.second_sound).sound,
        count_in 3 upper,
        count_in 3 lower,
      ),
    )

pub restriction_changes : Restriction
restriction_changes map set o after e =
    let l = restriction_means map set o [] after e in
    record {
      sound = l.sound;
      long = l.long;
      names = λ x. l.names x ∙ kept (value_at (entries_of 3 map) x) (value_at (entries_of 2 set) x);
      stored_form = l.stored_form;
    }
  where
    kept : (p q : Option Value) → keep_if p q ≡ pick (has q) p none
    kept p none = refl
    kept p (some v) = refl

pub domain_changes : Domain
domain_changes map o after e = domain_means map o [] after e

pub empty_changes : MakeEmpty
unfolding make_empty_call
empty_changes w after e =
    let k = turn_accepted (output 0 (length w) ∷ []) (w ∷ []) (holding w []) [] (after ∷ []) e in
    set_left w [] (λ x. false) [] after (some_words (length w) k.0.0)
    (record { sound = tt; plain = tt; members = λ x. refl }) (rw (le-ltb (capacity set_layout (length w)) 0 (omega arith))) k.1
