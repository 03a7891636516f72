-- The refusals of reading: which numbers the bytes and the outputs are refused with, and when there is no room.
use mathlib.Core.Path.{◌≡◌, refl, sym, ◌∙◌, ap, ap₂, subst}
use mathlib.Core.Bool.{Bool}
use mathlib.Core.Logic.{◌⊎◌, inl, inr}
use mathlib.Core.Option.{Option, none, some}
use mathlib.Core.List.{List, [], ◌∷◌, ◌++◌, append_assoc, append-nil}
use Prim.Native.Nat.{ℕ, zero, suc, ◌+◌, ◌*◌, ◌≤◌, ◌<◌}
use native.Mathlib.Omega.{arith}
use lib.Dec.{ltb, eqb}
use lib.ListN.{length, take, drop, get_or}
use borrow.Author.Tests.{le-ltb, eq-eqb, ne_eqb}
use Rattle.keys.proofs.Shift.{turned_word}
use Rattle.entries.specs.Entries.{Entry}
use Rattle.answers.specs.Answers.{Outcome, outcome, given, refused, refuse, applies, in_turn, Keeps, Clear}
use Rattle.answers.specs.Answers.{Finding}
use Rattle.answers.specs.Steps.{Named}
use Rattle.answers.proofs.Turns.{refused_named, turn_accepted, clear_turn, clear_split, clear_both}
use Rattle.numbers.specs.Numbers.{Bytes, num2, be8}
use Rattle.checks.specs.Check.{old_mark, new_mark, check_of}
use Rattle.records.proofs.Heads.{record_inv}
use Rattle.records.specs.Records.{body_length, start_verdict, record_of, saying, body_verdict, record_verdict, in_order, entry_in, all_within}
use Rattle.runs.specs.Runs.{lengths, runs_in, run_refusals, runs_refusals}
use Rattle.runs.proofs.Several.{many_lengths}
use Rattle.blocks.specs.Blocks.{block_of}
use Rattle.verdicts.specs.declared.Form.{Form}
use Rattle.verdicts.specs.Forms.{mark_of, of_set, kinds_of, start_size, form_counts, form_entries, size_of, sharing, trailing, overlap, form_refusals}
use Rattle.verdicts.specs.Forms.{no_blocks, no_rooms, out_refusals}
use Rattle.verdicts.proofs.Whole.{counted}
use Rattle.forms.specs.Calls.{stored_in, read_call, read_set_call, judge_call, judge_set_call}
use Rattle.forms.proofs.Forms.{accepted_formed, formed_accepted}
use Rattle.demands.specs.Bytes.{OfFour, is_set, is_map, is_bulletin, is_signed, last_of_bytes, IsForm, ReadRefusals, HostRefuses, NoRoomFor, ReadRoom}
use Rattle.demands.specs.Bytes.{JudgeAsRead, OtherMark, MixedMarks, OtherStart, OtherItem, KeyRecord}
use Rattle.demands.specs.Damage.{BytesRefused}
use Rattle.demands.specs.Plain.{Iff, Lacks, leaves}
use Rattle.demands.proofs.Findings.{Where, Numbered, chosen, not_any, applied, numbered_both, numbered_so, named_number, named_applies, named_split}
use Rattle.demands.proofs.Findings.{named_refused}
use Rattle.demands.proofs.Rooms.{Not5, words_numbers, rooms_numbers, clear_words, words_clear, refused_room}
use Rattle.demands.proofs.Forms.{kind_of, read_exactly, host_question, bytes_keep}

-- the numbers that bytes are refused with, the highest being `last`
abbrev From8 : ℕ → ℕ → Type 0
From8 last n = (8 ≤ n) × (n ≤ last)

-- BYTES: the numbers of one record, by its body,
module _ (last : ℕ) (high : 13 ≤ last) where
  body_numbers : (mark : ℕ) (long : Option ℕ) (content : Bool) (b : List ℕ) → Where (From8 last) (body_verdict mark long content b)
  body_numbers mark none content b = λ z. (omega arith, omega arith)
  body_numbers mark (some n) content b =
      chosen (Where (From8 last)) (ltb (length b) (n + 5)) 8 _ (λ z. (omega arith, omega arith))
      (chosen (Where (From8 last)) (eqb (check_of mark (take (n + 1) (drop 2 b))) (num2 b (n + 3))) _ 11
      (chosen (Where (From8 last)) content 0 12 (not_any (From8 last)) (λ z. (omega arith, omega arith)))
      (λ z. (omega arith, omega arith)))

  -- as a whole,
  record_numbers : (mark due : ℕ) (content : Bool) (b : List ℕ) → Where (From8 last) (record_verdict mark due content b)
  unfolding record_verdict
  record_numbers mark due content b =
      chosen (Where (From8 last)) (ltb (length b) 3) 8 _ (λ z. (omega arith, omega arith))
      (chosen (Where (From8 last)) (eqb (num2 b 0) mark) _ 9
      (chosen (Where (From8 last)) (eqb (get_or b 2 0) due) _ 10 (body_numbers mark (body_length due) content b) (λ z. (omega arith, omega arith)))
      (λ z. (omega arith, omega arith)))

  -- of the records of a run, and of several runs,
  run_numbers : (mark kind s n p : ℕ) (before : Option Entry) (b : List ℕ) → Numbered (From8 last) (run_refusals mark kind s n p before b)
  unfolding run_refusals
  run_numbers mark kind s zero p before b = tt
  run_numbers mark kind s (suc n) p before b = (
    record_numbers mark kind (in_order before (entry_in kind s b)) b,
    run_numbers mark kind s n (p + (8 * s + 5)) (some (entry_in kind s b)) (drop (8 * s + 5) b),
  )

  runs_numbers : (mark s p : ℕ) (kinds counts b : List ℕ) → Numbered (From8 last) (runs_refusals mark s p kinds counts b)
  unfolding runs_refusals
  runs_numbers mark s p [] counts b = tt
  runs_numbers mark s p (kind ∷ kinds) [] b = tt
  runs_numbers mark s p (kind ∷ kinds) (n ∷ counts) b =
      numbered_both (From8 last) (run_refusals mark kind s n p none b) _ (run_numbers mark kind s n p none b)
      (runs_numbers mark s (p + (8 * s + 5) * n) kinds counts (drop ((8 * s + 5) * n) b))

  -- and of a form, by that of its two sets
  form_numbers : (f : Form) (b : List ℕ) → Where (From8 last) (applies (sharing (form_entries f b)) 14) → Numbered (From8 last) (form_refusals f b)
  unfolding form_refusals
  form_numbers f b o = (
    record_numbers (mark_of b) f.start (all_within f.layout.limit (form_counts f b)) b,
    numbered_both (From8 last) (runs_refusals (mark_of b) f.layout.width (start_size f) (kinds_of f) (form_counts f b) (drop (start_size f) b))
        (trailing (size_of f (form_counts f b)) b ∷ overlap (form_entries f b) ∷ [])
        (runs_numbers (mark_of b) f.layout.width (start_size f) (kinds_of f) (form_counts f b) (drop (start_size f) b))
        (applied (From8 last) (ltb (size_of f (form_counts f b)) (length b)) 13 (omega arith, omega arith), (o, tt)),
  )

-- of each of the four: where there is one run, no two share a number
bytes_numbers : (f : Form) → OfFour f → (b : List ℕ) → Numbered (From8 (last_of_bytes f)) (form_refusals f b)
unfolding form_entries runs_in
bytes_numbers f is_set b = form_numbers 13 (omega arith) f b (λ z. absurd (z refl))
bytes_numbers f is_map b = form_numbers 13 (omega arith) f b (λ z. absurd (z refl))
bytes_numbers f is_bulletin b = form_numbers 14 (omega arith) f b (applied (From8 14) (sharing (form_entries f b)) 14 (omega arith, omega arith))
bytes_numbers f is_signed b = form_numbers 13 (omega arith) f b (λ z. absurd (z refl))

-- THE NUMBERS with which reading refuses
pub read_refusals : ReadRefusals
unfolding read_call
read_refusals f t b y outs after n p e =
    go (named_split (form_refusals f b) (out_refusals f.layout ls counts)
    (refused_named (form_refusals f b ++ out_refusals f.layout ls counts) outs [] (stored_in outs (form_entries f b)) n p after e))
  where
    ls : List ℕ
    ls = lengths outs

    counts : List ℕ
    counts = lengths (form_entries f b)

    of_outputs : Named (no_blocks 0 ls) n p ⊎ (Clear (no_blocks 0 ls) × Named (no_rooms f.layout 0 ls counts) n p) → (n ≡ 1) ⊎ (n ≡ 5)
    of_outputs (inl m) = inl (named_number (λ n. n ≡ 1) (no_blocks 0 ls) (words_numbers 0 ls) m)
    of_outputs (inr m) = inr (named_number (λ n. n ≡ 5) (no_rooms f.layout 0 ls counts) (rooms_numbers f.layout 0 ls counts) m.1)

    go : Named (form_refusals f b) n p ⊎ (Clear (form_refusals f b) × Named (out_refusals f.layout ls counts) n p)
        → ((8 ≤ n) × (n ≤ last_of_bytes f) × (IsForm f b → ⊥)) ⊎ (((n ≡ 1) ⊎ (n ≡ 5)) × IsForm f b)
    go (inl m) =
        let k = named_number (From8 (last_of_bytes f)) (form_refusals f b) (bytes_numbers f t b) m in
        inl (k.0, k.1, λ i. named_applies (form_refusals f b) m (formed_accepted f (kind_of t) b i.runs i.form).0)
    go (inr m) =
        inr (
          of_outputs (named_split (no_blocks 0 ls) (no_rooms f.layout 0 ls counts) m.1),
          record { runs = form_entries f b; form = accepted_formed f (kind_of t) b y m.0 },
        )

-- bytes that are no form are refused, whatever the outputs are
pub no_form : (f : Form) → OfFour f → (b : List ℕ) → Bytes b → (IsForm f b → ⊥) → (outs : List (List ℕ)) → BytesRefused f b outs
unfolding read_call
no_form f t b y not outs = go (read_call f b outs) refl
  where
    rs : List Finding
    rs = out_refusals f.layout (lengths outs) (lengths (form_entries f b))

    told : (n p : ℕ) → read_call f b outs ≡ refuse n p outs
        → ((8 ≤ n) × (n ≤ last_of_bytes f) × (IsForm f b → ⊥)) ⊎ (((n ≡ 1) ⊎ (n ≡ 5)) × IsForm f b) → BytesRefused f b outs
    told n p e (inl m) = record { number = n; place = p; from8 = m.0; to_last = m.1; refused = e }
    told n p e (inr m) = absurd (not m.1)

    go : (o : Outcome) → read_call f b outs ≡ o → BytesRefused f b outs
    go (outcome (given xs) after) e =
        let a = turn_accepted (form_refusals f b ++ rs) outs (outcome (given []) (stored_in outs (form_entries f b))) xs after e in
        absurd (not (record { runs = form_entries f b; form = accepted_formed f (kind_of t) b y (clear_split (form_refusals f b) rs a.0).0 }))
    go (outcome (refused n p) after) e =
        let d : read_call f b outs ≡ refuse n p outs = e ∙ ap (outcome (refused n p)) (subst (Keeps outs) e (bytes_keep.0 f b outs)) in
        told n p d (read_refusals f t b y outs outs n p d)

-- THE C HOST'S QUESTION of bytes that are no form
pub host_refuses : HostRefuses
host_refuses b x y not =
    let r = no_form of_set is_set b y not [] in
    let k = (host_question b x y).1 r.number r.place r.refused in
    (omega (arith, k, r.from8), omega (arith, k, r.to_last))

-- JUDGING ALONE, which has no outputs
pub judge_as_read : JudgeAsRead
unfolding read_call judge_call block_of
judge_as_read b y = (given_by, refused_by)
  where
    word_0 : (out w : List ℕ) (runs : List (List Entry)) → length runs ≡ 1 → w ∷ [] ≡ stored_in (out ∷ []) runs → lengths runs ≡ get_or w 0 0 ∷ []
    word_0 out w [] n e = absurd (omega arith)
    word_0 out w (es ∷ []) n e =
        let k : w ≡ block_of (length out) es = cc in ap (λ (m : ℕ). m ∷ []) (sym (ap (λ (x : List ℕ). get_or x 0 0) k))
    word_0 out w (es ∷ fs ∷ runs) n e = absurd (omega arith)

    given_by : (out w : List ℕ) → read_set_call b out ≡ leaves w → judge_set_call b ≡ outcome (given (get_or w 0 0 ∷ [])) []
    given_by out w e =
        let r = (read_exactly of_set is_set b y (out ∷ []) (w ∷ [])).to e in
        let a = formed_accepted of_set (kind_of is_set) b r.runs r.form in
        clear_turn (form_refusals of_set b) [] (outcome (given (form_counts of_set b)) []) a.0
        ∙ ap (λ (ns : List ℕ). outcome (given ns) [])
        (sym (counted of_set (kind_of is_set) b) ∙ ap lengths a.1 ∙ word_0 out w r.runs r.form.many r.left)

    refused_by : (n p : ℕ) → read_call of_set b [] ≡ refuse n p [] → judge_set_call b ≡ refuse n p []
    refused_by n p e =
        let fs = form_refusals of_set b in
        named_refused fs [] _ (subst (λ (gs : List Finding). Named gs n p) (append-nil fs) (refused_named (fs ++ []) [] [] [] n p [] e))

-- the counts of what the bytes say are as many as the runs
as_many : (f : Form) → OfFour f → (b : List ℕ) → length (lengths (form_entries f b)) ≡ f.runs
unfolding form_entries runs_in
as_many f is_set b = refl
as_many f is_map b = refl
as_many f is_bulletin b = refl
as_many f is_signed b = refl

-- ROOM exactly
pub read_room : ReadRoom
unfolding read_call
read_room f t b y outs many i = record { to = to; from = from }
  where
    ls : List ℕ
    ls = lengths outs

    counts : List ℕ
    counts = lengths (form_entries f b)

    after : List (List ℕ)
    after = stored_in outs (form_entries f b)

    firsts : List Finding
    firsts = form_refusals f b ++ no_blocks 0 ls

    -- no 5 among what is tried before room
    other : Numbered Not5 firsts
    other =
        numbered_both Not5 (form_refusals f b) (no_blocks 0 ls)
        (numbered_so (From8 (last_of_bytes f)) Not5 (λ n h e. omega (arith, h.0)) (form_refusals f b) (bytes_numbers f t b))
        (numbered_so (λ n. n ≡ 1) Not5 (λ n h e. omega arith) (no_blocks 0 ls) (words_numbers 0 ls))

    exactly : Iff (in_turn (firsts ++ no_rooms f.layout 0 ls counts) outs (outcome (given []) after) ≡ refuse 5 i outs)
        (Clear firsts × Lacks f.layout ls counts i)
    exactly = refused_room f.layout 0 ls counts (many_lengths outs ∙ many ∙ sym (as_many f t b)) i i (omega arith) firsts other outs [] after

    same : read_call f b outs ≡ in_turn (firsts ++ no_rooms f.layout 0 ls counts) outs (outcome (given []) after)
    same =
        ap (λ (fs : List Finding). in_turn fs outs (outcome (given []) after))
        (sym (append_assoc (form_refusals f b) (no_blocks 0 ls) (no_rooms f.layout 0 ls counts)))

    to : read_call f b outs ≡ refuse 5 i outs → NoRoomFor f b outs i
    to e =
        let h = exactly.to (sym same ∙ e) in
        let c = clear_split (form_refusals f b) (no_blocks 0 ls) h.0 in
        record {
          runs = form_entries f b;
          form = accepted_formed f (kind_of t) b y c.0;
          words = clear_words 0 outs c.1;
          short = h.1;
        }

    from : NoRoomFor f b outs i → read_call f b outs ≡ refuse 5 i outs
    from h =
        let a = formed_accepted f (kind_of t) b h.runs h.form in
        same ∙ exactly.from (
          clear_both (form_refusals f b) (no_blocks 0 ls) a.0 (words_clear 0 outs h.words),
          subst (λ (es : List (List Entry)). Lacks f.layout ls (lengths es) i) (sym a.1) h.short,
        )

-- THE MARK: a record whose mark is not the one that is due
unmarked : (mark due : ℕ) (content : Bool) (b : List ℕ) → 3 ≤ length b → (num2 b 0 ≡ mark → ⊥) → record_verdict mark due content b ≡ 9
unfolding record_verdict
unmarked mark due content b h n = rw (le-ltb (length b) 3 h, ne_eqb (num2 b 0) mark n)

-- bytes with neither mark are to be read with the new one
neither : (b : List ℕ) → (num2 b 0 ≡ old_mark → ⊥) → mark_of b ≡ new_mark
unfolding mark_of
neither b n = rw (ne_eqb (num2 b 0) old_mark n)

pub other_mark : OtherMark
unfolding read_call form_refusals
other_mark f t b outs h o n =
    rw (unmarked (mark_of b) f.start (all_within f.layout.limit (form_counts f b)) b h (λ e. n (e ∙ neither b o)))

-- THE KIND: a record whose kind is not the one that is due
other_kind : (mark due : ℕ) (content : Bool) (b : List ℕ) → 3 ≤ length b → num2 b 0 ≡ mark → (get_or b 2 0 ≡ due → ⊥) → record_verdict mark due content b ≡ 10
unfolding record_verdict
other_kind mark due content b h m n = rw (le-ltb (length b) 3 h, eq-eqb (num2 b 0) mark m, ne_eqb (get_or b 2 0) due n)

pub other_start : OtherStart
unfolding read_call form_refusals
other_start f t b outs h m n = rw (other_kind (mark_of b) f.start (all_within f.layout.limit (form_counts f b)) b h m n)

-- the first item, where there is one, by the number of its refusal
first_item : (mark s p kind n v : ℕ) (kinds counts b : List ℕ) (gs hs : List Finding) (lent : List (List ℕ)) (o : Outcome) → 0 < n
    → record_verdict mark kind (in_order none (entry_in kind s b)) b ≡ suc v
    → in_turn ((runs_refusals mark s p (kind ∷ kinds) (n ∷ counts) b ++ gs) ++ hs) lent o ≡ refuse (suc v) p lent
unfolding runs_refusals run_refusals
first_item mark s p kind zero v kinds counts b gs hs lent o z e = absurd (omega arith)
first_item mark s p kind (suc k) v kinds counts b gs hs lent o z e = rw e

pub other_item : OtherItem
unfolding read_call form_refusals
other_item f is_set b outs v z h m n = rw v (first_item _ _ _ _ _ 9 _ _ _ _ _ _ _ z (other_kind _ _ _ _ h m n))
other_item f is_map b outs v z h m n = rw v (first_item _ _ _ _ _ 9 _ _ _ _ _ _ _ z (other_kind _ _ _ _ h m n))
other_item f is_bulletin b outs v z h m n = rw v (first_item _ _ _ _ _ 9 _ _ _ _ _ _ _ z (other_kind _ _ _ _ h m n))
other_item f is_signed b outs v z h m n = rw v (first_item _ _ _ _ _ 9 _ _ _ _ _ _ _ z (other_kind _ _ _ _ h m n))

-- an item behind a good start, whose mark is not the start's
module _ (f : Form) (t : OfFour f) (b : List ℕ) (v : start_verdict (mark_of b) f.start f.runs f.layout.limit b ≡ 0) (d : List ℕ)
    (h : 3 ≤ length d) (n : num2 d 0 ≡ num2 b 0 → ⊥) where
  not_marked : (due : ℕ) (content : Bool) → record_verdict (mark_of b) due content d ≡ 9
  not_marked due content =
      let w = (record_inv (mark_of b) f.start b (all_within f.layout.limit (form_counts f b)) (2 * f.runs) (kind_of t).start.body v).0 in
      unmarked (mark_of b) due content d h (λ e. n (e ∙ sym w.marked))

pub mixed_marks : MixedMarks
unfolding read_call form_refusals
mixed_marks f is_set b outs v z h n = rw v (first_item _ _ _ _ _ 8 _ _ _ _ _ _ _ z (not_marked f is_set b v _ h n _ _))
mixed_marks f is_map b outs v z h n = rw v (first_item _ _ _ _ _ 8 _ _ _ _ _ _ _ z (not_marked f is_map b v _ h n _ _))
mixed_marks f is_bulletin b outs v z h n = rw v (first_item _ _ _ _ _ 8 _ _ _ _ _ _ _ z (not_marked f is_bulletin b v _ h n _ _))
mixed_marks f is_signed b outs v z h n = rw v (first_item _ _ _ _ _ 8 _ _ _ _ _ _ _ z (not_marked f is_signed b v _ h n _ _))

-- THE BYTES OF KEYS
pub key_record : KeyRecord
unfolding saying
key_record mark low high i j = ap₂ (λ (x y : ℕ). record_of mark 0x14 (be8 x ++ (be8 y ++ []))) (turned_word low i) (turned_word high j)
