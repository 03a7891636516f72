-- Bytes: the statements of specs/Bytes.
use mathlib.Core.Path.{◌≡◌, sym, ◌∙◌, ap, subst, refl}
use mathlib.Core.List.{List, [], ◌∷◌, ◌++◌}
use Prim.Native.Nat.{ℕ, ◌+◌, zero, suc, ◌*◌}
use Rattle.entries.specs.Entries.{Entry, Each}
use Rattle.answers.specs.Answers.{Finding}
use Rattle.answers.specs.Answers.{given, outcome, Clear, Outcome, refuse, truth, judged, in_turn, Keeps}
use mathlib.Core.Bool.{Bool, true, false}
use native.Mathlib.Omega.{arith}
use lib.ListN.{length, get_or, drop}
use Rattle.entries.specs.Build.{pick}
use Rattle.entries.specs.Sets.{member}
use Rattle.blocks.specs.Blocks.{entries_of, block_of, set_layout, Shaped}
use Rattle.demands.specs.Plain.{In, leaves}
use Rattle.answers.proofs.Turns.{turn_accepted, turn_keeps, clear_turn, clear_both, clear_split, refused≢given}
use Rattle.runs.proofs.Several.{shapes}
use Rattle.blocks.proofs.Words.{items_length}
use Rattle.blocks.proofs.Canonical.{entries_stored}
use Rattle.numbers.specs.Numbers.{Bytes, patch}
use Rattle.checks.specs.Check.{new_mark}
use Rattle.runs.specs.Runs.{lengths, Fine}
use Rattle.verdicts.specs.declared.Form.{Form}
use Rattle.verdicts.specs.Steps.{FormKind}
use Rattle.verdicts.specs.Forms.{form_entries, form_refusals, out_refusals, of_set, of_map, of_bulletin, of_signed, form_of, overlap, size_of}
use Rattle.verdicts.proofs.Whole.{set_kind, map_kind, bulletin_kind, signed_kind, mark_back, back, whole, size}
use Rattle.forms.specs.Calls.{stored_in, read_call, read_set_call, one_number, first_of, member_of_form_call, held_in, inputs, block_refusals, write_refusals, written_at}
use Rattle.forms.specs.Calls.{write_call, write_set_call, write_map_call, write_bulletin_call, write_signed_call}
use Rattle.forms.proofs.Forms.{accepted_formed, formed_accepted, read_written, written_read, held_fine, many_held}
use Rattle.demands.specs.Bytes.{OfFour, is_set, is_map, is_bulletin, is_signed, Read, ReadExactly, BothRead, ReadWritten, WrittenRead}
use Rattle.demands.specs.Bytes.{WriteSizes, BytesKeep, HostQuestion}

-- the laws of every form hold of the four
pub kind_of : {f : Form} → OfFour f → FormKind f
kind_of is_set = set_kind
kind_of is_map = map_kind
kind_of is_bulletin = bulletin_kind
kind_of is_signed = signed_kind

module _ (f : Form) (k : FormKind f) (b : List ℕ) (y : Bytes b) (outs ws : List (List ℕ)) where
  was_read : read_call f b outs ≡ outcome (given []) ws → Read f b outs ws
  unfolding read_call
  was_read e =
      let rs = out_refusals f.layout (lengths outs) (lengths (form_entries f b)) in
      let t = turn_accepted (form_refusals f b ++ rs) outs (outcome (given []) (stored_in outs (form_entries f b))) [] ws e in
      let c = clear_split (form_refusals f b) rs t.0 in
      record { runs = form_entries f b; form = accepted_formed f k b y c.0; room = c.1; left = same t.1 }
    where
      same : outcome (given []) (stored_in outs (form_entries f b)) ≡ outcome (given []) ws → ws ≡ stored_in outs (form_entries f b)
      same d = cc

  is_read : Read f b outs ws → read_call f b outs ≡ outcome (given []) ws
  unfolding read_call
  is_read r =
      let a = formed_accepted f k b r.runs r.form in
      let rs = out_refusals f.layout (lengths outs) (lengths (form_entries f b)) in
      clear_turn (form_refusals f b ++ rs) outs (outcome (given []) (stored_in outs (form_entries f b)))
      (clear_both (form_refusals f b) rs a.0 (subst (λ (es : List (List Entry)). Clear (out_refusals f.layout (lengths outs) (lengths es))) (sym a.1)
      r.room))
      ∙ ap (outcome (given [])) (ap (stored_in outs) a.1 ∙ sym r.left)

pub read_exactly : ReadExactly
read_exactly f t b y outs ws = record { to = was_read f (kind_of t) b y outs ws; from = is_read f (kind_of t) b y outs ws }

-- OLD FORMS AND NEW
pub both_read : BothRead
unfolding read_call
both_read f t mark o runs many fine apart outs room =
    let b = form_of mark f runs in
    let h = shapes f.layout.width f.layout.limit runs fine in
    let fs = out_refusals f.layout (lengths outs) (lengths runs) in
    ap (λ (es : List (List Entry)). in_turn (form_refusals f b ++ out_refusals f.layout (lengths outs) (lengths es)) outs
    (outcome (given []) (stored_in outs es))) (back f (kind_of t) mark runs many h)
    ∙ clear_turn (form_refusals f b ++ fs) outs (outcome (given []) (stored_in outs runs))
    (clear_both (form_refusals f b) fs (whole f (kind_of t) mark runs many h (mark_back mark f runs o) fine apart) room)

pub read_and_written : ReadWritten
read_and_written f t b outs ws bytes p y n e h = read_written f (kind_of t) b outs ws bytes p y n e h

pub written_and_read : WrittenRead
written_and_read f t ws bytes bytes' outs p n h e c = written_read f (kind_of t) ws bytes bytes' outs p n h e c

-- REFUSED: no word or byte lent is changed
read_keeps : (f : Form) (b : List ℕ) (outs : List (List ℕ)) → Keeps outs (read_call f b outs)
unfolding read_call
read_keeps f b outs =
    turn_keeps (form_refusals f b ++ out_refusals f.layout (lengths outs) (lengths (form_entries f b))) outs
    (outcome (given []) (stored_in outs (form_entries f b))) tt

write_keeps : (f : Form) (ws : List (List ℕ)) (bytes : List ℕ) (p : ℕ) → Keeps (bytes ∷ []) (write_call f ws bytes p)
unfolding write_call
write_keeps f ws bytes p =
    let form = form_of new_mark f (held_in f.layout ws) in
    turn_keeps (write_refusals f ws (length form) (length bytes) p) (bytes ∷ []) (written_at p form bytes) tt

pub bytes_keep : BytesKeep
bytes_keep = (read_keeps, write_keeps)

-- THE C HOST'S QUESTION
pub host_question : HostQuestion
unfolding member_of_form_call read_call
host_question b x y = (given_by, refused_by)
  where
    answer : List (List Entry) → Outcome
    answer runs = outcome (truth (member (first_of runs) x)) []

    one : (t : Bool) → one_number (outcome (truth t) []) ≡ pick t 1 0
    one true = refl
    one false = refl

    -- the one run of a set, and the block that is left of it
    only_run : (out w : List ℕ) (runs : List (List Entry)) → length runs ≡ 1 → w ∷ [] ≡ stored_in (out ∷ []) runs → w ≡ block_of (length out) (first_of runs)
    only_run out w [] n e = absurd (omega arith)
    only_run out w (es ∷ runs) n e = cc

    given_by : (out w : List ℕ) → read_set_call b out ≡ leaves w → member_of_form_call b x ≡ pick (In w x) 1 0
    given_by out w e =
        let r = was_read of_set set_kind b y (out ∷ []) (w ∷ []) e in
        let a = formed_accepted of_set set_kind b r.runs r.form in
        let k : w ≡ block_of (length out) (first_of r.runs) = only_run out w r.runs r.form.many r.left in
        let i : entries_of 2 w ≡ first_of r.runs = ap (entries_of 2) k
        ∙ entries_stored 2 (omega arith) (length out) (first_of r.runs) (first_shaped r.runs r.form.fine) in
        ap one_number (clear_turn (form_refusals of_set b) [] (answer (form_entries of_set b)) a.0)
        ∙ one (member (first_of (form_entries of_set b)) x)
        ∙ ap (λ (es : List Entry). pick (member es x) 1 0) (ap first_of a.1 ∙ sym i)
      where
        first_shaped : (runs : List (List Entry)) → Each (Fine 2 set_layout.limit) runs → Shaped 2 (first_of runs)
        first_shaped [] f = tt
        first_shaped (es ∷ runs) f = f.0.shaped

    -- with no outputs, reading judges the bytes and nothing else
    refused_by : (n p : ℕ) → read_call of_set b [] ≡ refuse n p [] → member_of_form_call b x ≡ 16 + n
    refused_by n p e = go (form_refusals of_set b ++ []) (form_refusals of_set b) (append_nil (form_refusals of_set b)) e
      where
        append_nil : (fs : List Finding) → fs ++ [] ≡ fs
        append_nil [] = refl
        append_nil (f ∷ fs) = ap (λ (gs : List Finding). f ∷ gs) (append_nil fs)

        told : (fs : List Finding) → in_turn fs [] (outcome (given []) []) ≡ refuse n p [] → one_number (in_turn fs [] (answer (form_entries of_set b))) ≡ 16 + n
        told [] d = absurd (refused≢given (sym d))
        told (f ∷ fs) d = on f.number d (told fs)
          where
            on : (v : ℕ) → judged v f.place [] (in_turn fs [] (outcome (given []) [])) ≡ refuse n p []
                → (in_turn fs [] (outcome (given []) []) ≡ refuse n p [] → one_number (in_turn fs [] (answer (form_entries of_set b))) ≡ 16 + n)
                → one_number (judged v f.place [] (in_turn fs [] (answer (form_entries of_set b)))) ≡ 16 + n
            on zero d rest = rest d
            on (suc v) d rest = let z : suc v ≡ n = cc in ap (λ (k : ℕ). 16 + k) z

        go : (gs fs : List Finding) → gs ≡ fs → in_turn gs [] (outcome (given []) (stored_in [] (form_entries of_set b))) ≡ refuse n p []
            → one_number (in_turn fs [] (answer (form_entries of_set b))) ≡ 16 + n
        go gs fs q d = told fs (ap (λ (hs : List Finding). in_turn hs [] (outcome (given []) [])) (sym q) ∙ d)

-- WRITING: the length by the counts of the blocks, and the bytes
module _ (f : Form) (k : FormKind f) (ws : List (List ℕ)) (bytes bytes' : List ℕ) (p n : ℕ) where
  written : length ws ≡ f.runs → write_call f ws bytes p ≡ outcome (given (n ∷ [])) (bytes' ∷ [])
      → (n ≡ size_of f (lengths (held_in f.layout ws))) × (bytes' ≡ patch p (form_of new_mark f (held_in f.layout ws)) bytes)
  unfolding write_call
  written m e =
      let es = held_in f.layout ws in
      let g = form_of new_mark f es in
      let t = turn_accepted (write_refusals f ws (length g) (length bytes) p) (bytes ∷ []) (written_at p g bytes) (n ∷ []) (bytes' ∷ []) e in
      let a = clear_split (block_refusals f ws) _ t.0 in
      let i = clear_split (inputs f.layout 0 ws) (overlap es ∷ []) a.0 in
      let h = shapes f.layout.width f.layout.limit es (held_fine f.layout k.first.two 0 ws i.0) in
      let x : length g ≡ n = cc in
      let z : bytes' ≡ patch p g bytes = cc in
      (sym x ∙ size f k new_mark es (many_held f.layout ws ∙ m) h, z)

pub write_sizes : WriteSizes
write_sizes p n bytes bytes' = (of_sets, of_maps, of_bulletins, of_signeds)
  where
    of_sets : (w : List ℕ) → write_set_call w bytes p ≡ outcome (given (n ∷ [])) (bytes' ∷ [])
        → (n ≡ 7 + 21 * get_or w 0 0) × (bytes' ≡ patch p (form_of new_mark of_set (entries_of 2 w ∷ [])) bytes)
    of_sets w e = let k = written of_set set_kind (w ∷ []) bytes bytes' p n refl e in (omega (arith, k.0, items_length 2 (get_or w 0 0) (drop 1 w)), k.1)

    of_maps : (w : List ℕ) → write_map_call w bytes p ≡ outcome (given (n ∷ [])) (bytes' ∷ [])
        → (n ≡ 7 + 29 * get_or w 0 0) × (bytes' ≡ patch p (form_of new_mark of_map (entries_of 3 w ∷ [])) bytes)
    of_maps w e = let k = written of_map map_kind (w ∷ []) bytes bytes' p n refl e in (omega (arith, k.0, items_length 3 (get_or w 0 0) (drop 1 w)), k.1)

    of_bulletins : (r w : List ℕ) → write_bulletin_call r w bytes p ≡ outcome (given (n ∷ [])) (bytes' ∷ [])
        → (n ≡ 9 + 21 * (get_or r 0 0 + get_or w 0 0)) × (bytes' ≡ patch p (form_of new_mark of_bulletin (entries_of 2 r ∷ entries_of 2 w ∷ [])) bytes)
    of_bulletins r w e =
        let k = written of_bulletin bulletin_kind (r ∷ w ∷ []) bytes bytes' p n refl e in
        (omega (arith, k.0, items_length 2 (get_or r 0 0) (drop 1 r), items_length 2 (get_or w 0 0) (drop 1 w)), k.1)

    of_signeds : (w : List ℕ) → write_signed_call w bytes p ≡ outcome (given (n ∷ [])) (bytes' ∷ [])
        → (n ≡ 7 + 21 * get_or w 0 0) × (bytes' ≡ patch p (form_of new_mark of_signed (entries_of 2 w ∷ [])) bytes)
    of_signeds w e =
        let k = written of_signed signed_kind (w ∷ []) bytes bytes' p n refl e in (omega (arith, k.0, items_length 2 (get_or w 0 0) (drop 1 w)), k.1)
