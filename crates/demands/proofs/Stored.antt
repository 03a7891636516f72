-- Later words, old words, one stored form: the statements of specs/Stored.
use mathlib.Core.Path.{◌≡◌, refl, sym, ◌∙◌, ap, ap₂}
use mathlib.Core.List.{List, [], ◌∷◌, ◌++◌, append_assoc}
use Prim.Native.Nat.{ℕ}
use native.Mathlib.Omega.{arith}
use lib.ListN.{length}
use Rattle.entries.specs.Entries.{Entry}
use Rattle.entries.proofs.Plain.{set_canonical}
use Rattle.entries.proofs.Canon.{canonical}
use Rattle.answers.specs.Answers.{handed}
use Rattle.blocks.specs.Blocks.{set_layout, map_layout, entries_of, block_of}
use Rattle.blocks.specs.Calls.{output, backwards, room}
use Rattle.blocks.proofs.Judging.{verdict_sound}
use Rattle.searches.specs.Parts.{no_part}
use Rattle.searches.specs.Calls.{window_part, window_call, window_refusal_call, window_at_call}
use Rattle.sweeps.proofs.Tables.{bounded}
use Rattle.edits.specs.Calls.{edited, edit_call}
use Rattle.operations.specs.Calls.{two_refusals, one_refusals}
use Rattle.sets.specs.Calls.{make_empty_call}
use Rattle.sets.proofs.Asking.{entries_plain}
use Rattle.fits.specs.Calls.{zero_run, no_gap, place_of, fit_call, reserved_at, reserve_call}
use Rattle.maps.specs.Calls.{look_up_call, site_refusal_call, part_in, deciding, site_over_factory_call, site_over_factory_at_call}
use Rattle.bulletins.specs.Calls.{apply_refusals, apply_call, fold_refusals, fold_call}
use Rattle.runs.specs.Runs.{lengths}
use Rattle.verdicts.specs.Forms.{form_entries, form_refusals, out_refusals}
use Rattle.forms.specs.Calls.{stored_in, read_call, inputs, write_call}
use Rattle.demands.specs.Stored.{LaterAsked, LaterAskedTwo, LaterWindow, LaterFit, LaterLookUp, LaterSite, LaterEdit, LaterReserve, LaterTwo, LaterOne}
use Rattle.demands.specs.Stored.{LaterApply, LaterFold, LaterWrite, OldWords, OneSet, OneMap, SameOutcome, both_refuse}
use Rattle.demands.proofs.Words.{split}
use Rattle.demands.proofs.Questions.{upto_m}
use Rattle.demands.proofs.Later.{inputs_alike, inputs_same, turn_alike}

-- LATER WORDS: the blocks are judged alike, and what follows is the same of the same entries
pub later_asked : LaterAsked
later_asked w v s answer = inputs_same [] set_layout (omega arith) 0 (w ∷ []) (v ∷ []) (s, tt) [] [] _ _ (λ e. cc)

pub later_asked_two : LaterAskedTwo
later_asked_two w v w' v' s t answer = inputs_same [] set_layout (omega arith) 0 (w ∷ v ∷ []) (w' ∷ v' ∷ []) (s, (t, tt)) [] [] _ _ (λ e. cc)

pub later_window : LaterWindow
unfolding window_call window_at_call window_refusal_call
later_window l w v two s a b = (
  inputs_alike (λ x y. handed x (window_part l.width w a b) no_part ≡ handed y (window_part l.width v a b) no_part) [] [] (λ n p. refl) l two 0
      (w ∷ []) (v ∷ []) (s, tt) [] [] _ _ (λ e. cc),
  inputs_same [] l two 0 (w ∷ []) (v ∷ []) (s, tt) [] [] _ _ (λ e. cc),
  inputs_same [] l two 0 (w ∷ []) (v ∷ []) (s, tt) [] [] _ _ (λ e. cc),
)

pub later_fit : LaterFit
unfolding fit_call
later_fit w v s fit a b k = inputs_same [] set_layout (omega arith) 0 (w ∷ []) (v ∷ []) (s, tt) [] [] _ _ (λ e. cc)

pub later_look_up : LaterLookUp
unfolding look_up_call
later_look_up w v s x = inputs_same [] map_layout (omega arith) 0 (w ∷ []) (v ∷ []) (s, tt) [] [] _ _ (λ e. cc)

pub later_two : LaterTwo
later_two first second out p q make w v w' v' o s t =
    inputs_same (o ∷ []) first p 0 (w ∷ []) (w' ∷ []) (s, tt) [] [] _ _
    (λ d. inputs_same (o ∷ []) second q 1 (v ∷ []) (v' ∷ []) (t, tt) [] [] _ _ (λ e. cc))

pub later_one : LaterOne
later_one first out p make w w' o s = inputs_same (o ∷ []) first p 0 (w ∷ []) (w' ∷ []) (s, tt) [] [] _ _ (λ e. cc)

pub later_apply : LaterApply
unfolding apply_call
later_apply list released withdrawn list' released' withdrawn' out s t u =
    inputs_same (out ∷ []) set_layout (omega arith) 0 (list ∷ released ∷ withdrawn ∷ []) (list' ∷ released' ∷ withdrawn' ∷ []) (s, (t, (u, tt))) [] [] _ _
    (λ e. cc)

pub later_fold : LaterFold
unfolding fold_call
later_fold r₁ w₁ r₂ w₂ r₁' w₁' r₂' w₂' out_r out_w s t u x =
    inputs_same (out_r ∷ out_w ∷ []) set_layout (omega arith) 0 (r₁ ∷ w₁ ∷ r₂ ∷ w₂ ∷ []) (r₁' ∷ w₁' ∷ r₂' ∷ w₂' ∷ []) (s, (t, (u, (x, tt)))) [] [] _ _
    (λ e. cc)

pub later_edit : LaterEdit
unfolding edit_call
later_edit l w v two s a b o =
    inputs_alike (SameOutcome (w ∷ []) (v ∷ [])) (w ∷ []) (v ∷ []) both_refuse l two 0 (w ∷ []) (v ∷ []) (s, tt) [] [] _ _
    (λ e. let h : entries_of l.width w ≡ entries_of l.width v = cc in
    rw (s.long, h) (turn_alike _ _ (backwards a b ∷ room 0 l (length v) (edited l v a b o) ∷ []) _ _))

pub later_reserve : LaterReserve
unfolding reserve_call
later_reserve w v s fit a b k =
    inputs_alike (SameOutcome (w ∷ []) (v ∷ [])) (w ∷ []) (v ∷ []) both_refuse set_layout (omega arith) 0 (w ∷ []) (v ∷ []) (s, tt) [] [] _ _
    (λ e. let h : entries_of 2 w ≡ entries_of 2 v = cc in
    let place = fit a b k (entries_of 2 v) in
    rw (s.long, h) (turn_alike _ _ (backwards a b ∷ zero_run k ∷ no_gap place ∷ room 0 set_layout (length v) (reserved_at v (place_of place) k) ∷ []) _ _))

pub later_site : LaterSite
unfolding site_over_factory_call site_over_factory_at_call site_refusal_call
later_site site factory site' factory' s t x = (
  inputs_alike (λ y z. handed y (deciding site factory x) (part_in 0 no_part) ≡ handed z (deciding site' factory' x) (part_in 0 no_part)) [] [] (λ n p. refl)
      map_layout (omega arith) 0 (site ∷ factory ∷ []) (site' ∷ factory' ∷ []) (s, (t, tt)) [] [] _ _ (λ e. cc),
  inputs_same [] map_layout (omega arith) 0 (site ∷ factory ∷ []) (site' ∷ factory' ∷ []) (s, (t, tt)) [] [] _ _ (λ e. cc),
  inputs_same [] map_layout (omega arith) 0 (site ∷ factory ∷ []) (site' ∷ factory' ∷ []) (s, (t, tt)) [] [] _ _ (λ e. cc),
)

pub later_write : LaterWrite
unfolding write_call
later_write f two ws vs s bytes p =
    rw (append_assoc (inputs f.layout 0 ws), append_assoc (inputs f.layout 0 vs))
    (inputs_same (bytes ∷ []) f.layout two 0 ws vs s _ _ _ _ (λ e. cc))

-- OLD WORDS: the refusals, and what is left, are the same of outputs of the same lengths
pub old_words : OldWords
unfolding apply_call fold_call read_call make_empty_call
old_words = (
  λ first second out make w v o p n.
      rw (n) (turn_alike _ _ (two_refusals first second out w v (length p) (make (entries_of first.width w) (entries_of second.width v))) _ _),
  λ first out make w o p n. rw (n) (turn_alike _ _ (one_refusals first out w (length p) (make (entries_of first.width w))) _ _),
  λ list released withdrawn o p n. rw (n) (turn_alike _ _ (apply_refusals list released withdrawn (length p)) _ _),
  λ r₁ w₁ r₂ w₂ out_r out_w outR' outW' n m. rw (n, m) (turn_alike _ _ (fold_refusals r₁ w₁ r₂ w₂ (length outR') (length outW')) _ _),
  λ f b outs outs' n.
      rw (n, stored_same outs outs' (form_entries f b) n)
      (turn_alike outs outs' (form_refusals f b ++ out_refusals f.layout (lengths outs') (lengths (form_entries f b))) _ _),
  λ w v n. rw (n) (turn_alike _ _ (output 0 (length v) ∷ []) _ _),
)
  where
    -- outputs of the same lengths that hold the same runs are the same
    stored_same : (outs outs' : List (List ℕ)) (runs : List (List Entry)) → lengths outs ≡ lengths outs' → stored_in outs runs ≡ stored_in outs' runs
    stored_same [] [] runs n = refl
    stored_same [] (p ∷ ps) runs n = absurd (omega (arith, ap length n))
    stored_same (o ∷ os) [] runs n = absurd (omega (arith, ap length n))
    stored_same (o ∷ os) (p ∷ ps) [] n = refl
    stored_same (o ∷ os) (p ∷ ps) (es ∷ runs) n =
        let h : length o ≡ length p = cc in
        ap₂ (λ (L : ℕ) (left : List (List ℕ)). block_of L es ∷ left) h (stored_same os ps runs cc)

-- ONE STORED FORM
pub one_set : OneSet
one_set w v p q lw lv h =
    set_canonical (entries_of 2 w) (entries_of 2 v) (verdict_sound set_layout w p).sound (verdict_sound set_layout v q).sound (entries_plain w) (entries_plain v)
    (upto_m w v lw lv h)

pub one_map : OneMap
one_map w v p q lw lv h =
    canonical (entries_of 3 w) (entries_of 3 v) (verdict_sound map_layout w p).sound (verdict_sound map_layout v q).sound
    (λ x. split x (λ l. h x l) (λ l. bounded 3 w lw x l ∙ sym (bounded 3 v lv x l)))
