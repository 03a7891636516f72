-- Room exactly, and from a change to the next question: statements of specs/Changes.
use mathlib.Core.Path.{◌≡◌, sym, ◌∙◌, ap}
use mathlib.Core.Bool.{Bool, true, false}
use mathlib.Core.Option.{Option, none, some}
use mathlib.Core.List.{List, [], ◌∷◌}
use Prim.Native.Nat.{ℕ, ◌≤◌, ◌<◌}
use lib.ListN.{length}
use borrow.Author.Tests.{le-ltb, le-leb}
use Rattle.entries.specs.Entries.{Value, Entry}
use Rattle.entries.specs.Build.{pick}
use Rattle.answers.specs.Answers.{Finding}
use Rattle.answers.specs.Answers.{outcome, refuse, truth, Clear}
use Rattle.blocks.specs.Blocks.{set_layout, map_layout, capacity, entries_of, block_of}
use Rattle.blocks.specs.Calls.{input, output, backwards}
use Rattle.blocks.proofs.Refusing.{some_words, in_order}
use Rattle.edits.specs.Calls.{edited, edit_call}
use Rattle.operations.specs.Calls.{from_two, from_one}
use Rattle.sets.specs.Calls.{member_call, insert_call, remove_call}
use Rattle.maps.specs.Calls.{worth, look_up_call}
use Rattle.forms.proofs.Forms.{has_words}
use Rattle.demands.specs.Plain.{SetLeft, Iff, In, ValueOf, between, truth_of, leaves, Left}
use Rattle.demands.specs.Changes.{EditRoom, TwoRoom, OneRoom, ChangesKeep}
use Rattle.demands.specs.Changes.{InsertedMember, RemovedMember, OtherMember, AssignedValue, ErasedValue, OtherValue}
use Rattle.demands.proofs.Sets.{edit_keeps, two_keeps, one_keeps, empty_keeps, insert_means, remove_means}
use Rattle.demands.proofs.Maps.{assign_means, erase_means}
use Rattle.demands.proofs.Questions.{truth_sound}
use Rattle.demands.proofs.MapQuestions.{looked}
use Rattle.demands.proofs.Changes.{edit_accepted}
use Rattle.demands.proofs.Rooms.{input_not, range_not, output_not, refused_alone}

-- ROOM exactly: what is tried before it is clear, and the block to be written has no room for the result
pub edit_room : EditRoom
unfolding edit_call
edit_room l w a b o = record {
  to = λ e. let h = exactly.to e in (h.0.0, in_order a b h.0.1.0, h.1);
  from = λ h. exactly.from ((h.0, (rw (le-ltb b a h.1), tt)), h.2);
}
  where
    es : List Entry
    es = edited l w a b o

    firsts : List Finding
    firsts = input 0 l w ∷ backwards a b ∷ []

    exactly : Iff (edit_call l w a b o ≡ refuse 5 0 (w ∷ [])) (Clear firsts × (capacity l (length w) < length es))
    exactly = refused_alone l 0 w es firsts (input_not l w, (range_not a b, tt)) [] (block_of (length w) es ∷ [])

pub two_room : TwoRoom
two_room first second out make w v o = record {
  to = λ e. let h = exactly.to e in (h.0.0, h.0.1.0, some_words (length o) h.0.1.1.0, h.1);
  from = λ h. exactly.from ((h.0, (h.1, (has_words (length o) h.2, tt))), h.3);
}
  where
    es : List Entry
    es = make (entries_of first.width w) (entries_of second.width v)

    firsts : List Finding
    firsts = input 0 first w ∷ input 1 second v ∷ output 2 (length o) ∷ []

    exactly : Iff (from_two first second out make w v o ≡ refuse 5 2 (o ∷ [])) (Clear firsts × (capacity out (length o) < length es))
    exactly = refused_alone out 2 o es firsts (input_not first w, (input_not second v, (output_not (length o), tt))) [] (block_of (length o) es ∷ [])

pub one_room : OneRoom
one_room first out make w o = record {
  to = λ e. let h = exactly.to e in (h.0.0, some_words (length o) h.0.1.0, h.1);
  from = λ h. exactly.from ((h.0, (has_words (length o) h.1, tt)), h.2);
}
  where
    es : List Entry
    es = make (entries_of first.width w)

    firsts : List Finding
    firsts = input 0 first w ∷ output 1 (length o) ∷ []

    exactly : Iff (from_one first out make w o ≡ refuse 5 1 (o ∷ [])) (Clear firsts × (capacity out (length o) < length es))
    exactly = refused_alone out 1 o es firsts (input_not first w, (output_not (length o), tt)) [] (block_of (length o) es ∷ [])

pub changes_keep : ChangesKeep
changes_keep = (edit_keeps, two_keeps, one_keeps, empty_keeps)

-- FROM A CHANGE TO THE NEXT QUESTION
in_between : (a b x : ℕ) → a ≤ x → x ≤ b → between a b x ≡ true
in_between a b x h k = rw (le-leb a x h, le-leb x b k)

pub inserted_member : InsertedMember
inserted_member w a b after e x h k =
    let l = insert_means w a b [] after e in
    truth_sound after x l.sound ∙ ap (λ (t : Bool). outcome (truth t) []) (l.members x ∙ ap (λ (t : Bool). pick t true (In w x)) (in_between a b x h k))

pub removed_member : RemovedMember
removed_member w a b after e x h k =
    let l = remove_means w a b [] after e in
    truth_sound after x l.sound ∙ ap (λ (t : Bool). outcome (truth t) []) (l.members x ∙ ap (λ (t : Bool). pick t false (In w x)) (in_between a b x h k))

pub other_member : OtherMember
other_member w a b after x out = (kept_in, kept_out)
  where
    -- a change that leaves the value t on a..b, and elsewhere what was there
    kept : (o : Option Value) (t : Bool) → edit_call set_layout w a b o ≡ leaves after → SetLeft (length w) (λ y. pick (between a b y) t (In w y)) after
        → truth_of (member_call after x) ≡ truth_of (member_call w x)
    kept o t e l =
        truth_sound after x l.sound ∙ ap (λ (u : Bool). outcome (truth u) []) (l.members x ∙ ap (λ (u : Bool). pick u t (In w x)) out)
        ∙ sym (truth_sound w x (edit_accepted set_layout w a b o after e).sound)

    kept_in : insert_call w a b ≡ leaves after → truth_of (member_call after x) ≡ truth_of (member_call w x)
    kept_in e = kept (some []) true e (insert_means w a b [] after e)

    kept_out : remove_call w a b ≡ leaves after → truth_of (member_call after x) ≡ truth_of (member_call w x)
    kept_out e = kept none false e (remove_means w a b [] after e)

pub assigned_value : AssignedValue
assigned_value w a b v after e x h k =
    let l = assign_means w a b v [] after e in
    looked after x l.sound
    ∙ ap (λ (o : Option Value). outcome (worth o) []) (l.names x ∙ ap (λ (t : Bool). pick t (some (v ∷ [])) (ValueOf w x)) (in_between a b x h k))

pub erased_value : ErasedValue
erased_value w a b after e x h k =
    let l = erase_means w a b [] after e in
    looked after x l.sound ∙ ap (λ (o : Option Value). outcome (worth o) [])
    (l.names x ∙ ap (λ (t : Bool). pick t none (ValueOf w x)) (in_between a b x h k))

pub other_value : OtherValue
other_value w a b after x out = (λ v e. kept (some (v ∷ [])) e (assign_means w a b v [] after e), λ e. kept none e (erase_means w a b [] after e))
  where
    -- whatever is put on a..b
    kept : (o : Option Value) → edit_call map_layout w a b o ≡ leaves after → Left map_layout (length w) (λ y. pick (between a b y) o (ValueOf w y)) after
        → look_up_call after x ≡ look_up_call w x
    kept o e l =
        looked after x l.sound
        ∙ ap (λ (u : Option Value). outcome (worth u) []) (l.names x ∙ ap (λ (t : Bool). pick t o (ValueOf w x)) out)
        ∙ sym (looked w x (edit_accepted map_layout w a b o after e).sound)
