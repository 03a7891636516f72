-- One byte form: what is named the same is read from the same bytes, and written as the same bytes.
use mathlib.Core.Path.{◌≡◌, refl, sym, ◌∙◌, ap, ap₂, subst}
use mathlib.Core.List.{List, [], ◌∷◌, ◌++◌}
use Prim.Native.Nat.{ℕ, suc, ◌+◌, ◌≤◌, ◌<◌, ◌*◌}
use native.Mathlib.Omega.{arith}
use lib.ListN.{length, get_or, drop}
use Rattle.entries.specs.Entries.{Entry, Each}
use Rattle.answers.specs.Answers.{Finding}
use Rattle.answers.specs.Answers.{outcome, given, at, applies, in_turn, Clear}
use Rattle.blocks.specs.declared.Layout.{Layout}
use Rattle.blocks.specs.Blocks.{set_layout, map_layout, words_of, verdict, Lent}
use Rattle.blocks.proofs.Words.{items_length, lent_block}
use Rattle.blocks.proofs.Refusing.{some_words, room_fits}
use Rattle.blocks.proofs.Canonical.{entries_stored, sound_stored}
use Rattle.numbers.specs.Numbers.{Bytes, past2, patch}
use Rattle.checks.specs.Check.{new_mark}
use Rattle.runs.specs.Runs.{lengths, Fine}
use Rattle.answers.proofs.Turns.{clear_split}
use Rattle.runs.proofs.Several.{shapes}
use Rattle.verdicts.specs.declared.Form.{Form}
use Rattle.verdicts.specs.Forms.{of_set, of_map, of_bulletin, of_signed, mark_of, form_of, size_of, overlap, no_blocks, no_rooms}
use Rattle.verdicts.proofs.Whole.{size}
use Rattle.forms.specs.Calls.{stored_in, read_call, read_set_call, read_map_call, read_bulletin_call, read_signed_call, held_in, inputs, no_space, written_at, write_call}
use Rattle.forms.proofs.Forms.{read_written}
use Rattle.demands.specs.Plain.{In, leaves}
use Rattle.demands.specs.Bytes.{OfFour, is_set, is_map, is_bulletin, is_signed, GivesBack, WholeForm, ReadSizes, OneSetForm, OneMapForm, OneBulletinForm}
use Rattle.demands.specs.Bytes.{OneSignedForm, OneSetWritten, OneMapWritten, OneSignedWritten, OneBulletinWritten}
use Rattle.demands.proofs.Signed.{all_keys}
use Rattle.demands.proofs.Stored.{one_set, one_map}
use Rattle.demands.proofs.Forms.{kind_of, read_exactly}

-- a sound block of 64-bit words
abbrev Good : Layout → List ℕ → Type 0
Good l w = (verdict l w ≡ 0) × Lent w

-- outputs with words and room, each with its run stored in it: they are such blocks, and say the runs
module _ (l : Layout) (two : 2 ≤ l.width) (small : l.limit < past2) where
  outputs_hold : (i j : ℕ) (outs : List (List ℕ)) (runs : List (List Entry)) → length outs ≡ length runs
      → Clear (no_blocks i (lengths outs)) → Clear (no_rooms l j (lengths outs) (lengths runs))
      → Each (Fine l.width l.limit) runs → Each (λ (es : List Entry). Lent (words_of es)) runs
      → Each (Good l) (stored_in outs runs) × (held_in l (stored_in outs runs) ≡ runs)
  outputs_hold i j [] [] e c d h k = (tt, refl)
  outputs_hold i j [] (es ∷ runs) e c d h k = absurd (omega arith)
  outputs_hold i j (out ∷ outs) [] e c d h k = absurd (omega arith)
  outputs_hold i j (out ∷ outs) (es ∷ runs) e c d h k =
      let L = length out in
      let n = h.0 in
      let rest = outputs_hold (suc i) (suc j) outs runs (omega arith) c.1 d.1 h.1 k.1 in
      let s = sound_stored l two L es n.shaped (some_words L c.0) (room_fits l L es d.0) n.sound in (
        ((s, lent_block L es (omega (arith, n.within)) k.0), rest.0),
        ap₂ ◌∷◌ (entries_stored l.width two L es n.shaped) rest.1,
      )

-- READING leaves such blocks; the bytes are the form of what they say, and as many as its size
module _ (f : Form) (t : OfFour f) where
  read_blocks : (b : List ℕ) (outs ws : List (List ℕ)) → Bytes b → length outs ≡ f.runs → read_call f b outs ≡ outcome (given []) ws
      → Each (Good f.layout) ws × (b ≡ form_of (mark_of b) f (held_in f.layout ws)) × (length b ≡ size_of f (lengths (held_in f.layout ws)))
  read_blocks b outs ws y many e =
      let k = kind_of t in
      let r = (read_exactly f t b y outs ws).to e in
      let g = r.form in
      let c = clear_split (no_blocks 0 (lengths outs)) (no_rooms f.layout 0 (lengths outs) (lengths r.runs)) r.room in
      let h = outputs_hold f.layout k.first.two k.small 0 0 outs r.runs (many ∙ sym g.many) c.0 c.1 g.fine
      g.lent in
      let said : r.runs ≡ held_in f.layout ws = sym h.1 ∙ ap (held_in f.layout) (sym r.left) in (
        subst (Each (Good f.layout)) (sym r.left) h.0,
        g.form ∙ ap (form_of (mark_of b) f) said,
        ap length g.form ∙ size f k (mark_of b) r.runs g.many (shapes f.layout.width f.layout.limit r.runs g.fine)
            ∙ ap (λ (runs : List (List Entry)). size_of f (lengths runs)) said,
      )

  -- so blocks that say the same were read from the same bytes, if these bear the same mark
  one_form : (b b' : List ℕ) (outs outs' ws ws' : List (List ℕ)) → Bytes b → Bytes b' → mark_of b ≡ mark_of b' → length outs ≡ f.runs
      → length outs' ≡ f.runs → read_call f b outs ≡ outcome (given []) ws → read_call f b' outs' ≡ outcome (given []) ws'
      → (Each (Good f.layout) ws → Each (Good f.layout) ws' → held_in f.layout ws ≡ held_in f.layout ws') → b ≡ b'
  one_form b b' outs outs' ws ws' y y' o m m' e e' same =
      let r = read_blocks b outs ws y m e in
      let r' = read_blocks b' outs' ws' y' m' e' in
      r.1 ∙ ap₂ (λ (mark : ℕ) (runs : List (List Entry)). form_of mark f runs) o (same r.0 r'.0) ∙ sym r'.1

pub gives_back : GivesBack
gives_back f t b outs ws bytes p y many o e h =
    read_written f (kind_of t) b outs ws bytes p y many e h
    ∙ ap (λ (x : List ℕ). outcome (given (length b ∷ [])) (patch p x bytes ∷ []))
    (sym ((read_blocks f t b outs ws y many e).1 ∙ ap (λ (mark : ℕ). form_of mark f (held_in f.layout ws)) o))

pub whole_form : WholeForm
whole_form f t b y outs ws many e = (read_blocks f t b outs ws y many e).1

pub read_sizes : ReadSizes
read_sizes b y = (of_sets, of_maps, of_bulletins, of_signeds)
  where
    of_sets : (out w : List ℕ) → read_set_call b out ≡ leaves w → length b ≡ 7 + 21 * get_or w 0 0
    of_sets out w e = omega (arith, (read_blocks of_set is_set b (out ∷ []) (w ∷ []) y refl e).2, items_length 2 (get_or w 0 0) (drop 1 w))

    of_maps : (out w : List ℕ) → read_map_call b out ≡ leaves w → length b ≡ 7 + 29 * get_or w 0 0
    of_maps out w e = omega (arith, (read_blocks of_map is_map b (out ∷ []) (w ∷ []) y refl e).2, items_length 3 (get_or w 0 0) (drop 1 w))

    of_bulletins : (out_r out_w r w : List ℕ) → read_bulletin_call b out_r out_w ≡ outcome (given []) (r ∷ w ∷ []) → length b ≡ 9 + 21 * (get_or r 0 0 + get_or w 0 0)
    of_bulletins out_r out_w r w e =
        omega (
          arith,
          (read_blocks of_bulletin is_bulletin b (out_r ∷ out_w ∷ []) (r ∷ w ∷ []) y refl e).2,
          items_length 2 (get_or r 0 0) (drop 1 r),
          items_length 2 (get_or w 0 0) (drop 1 w),
        )

    of_signeds : (out w : List ℕ) → read_signed_call b out ≡ leaves w → length b ≡ 7 + 21 * get_or w 0 0
    of_signeds out w e = omega (arith, (read_blocks of_signed is_signed b (out ∷ []) (w ∷ []) y refl e).2, items_length 2 (get_or w 0 0) (drop 1 w))

pub one_set_form : OneSetForm
one_set_form b b' out out' w w' y y' o e e' h =
    one_form of_set is_set b b' (out ∷ []) (out' ∷ []) (w ∷ []) (w' ∷ []) y y' o refl refl e e'
    (λ p q. ap (λ (es : List Entry). es ∷ []) (one_set w w' p.0.0 q.0.0 p.0.1 q.0.1 h))

pub one_map_form : OneMapForm
one_map_form b b' out out' w w' y y' o e e' h =
    one_form of_map is_map b b' (out ∷ []) (out' ∷ []) (w ∷ []) (w' ∷ []) y y' o refl refl e e'
    (λ p q. ap (λ (es : List Entry). es ∷ []) (one_map w w' p.0.0 q.0.0 p.0.1 q.0.1 h))

pub one_bulletin_form : OneBulletinForm
one_bulletin_form b b' out_r out_w outR' outW' r w r' w' y y' o e e' h g =
    one_form of_bulletin is_bulletin b b' (out_r ∷ out_w ∷ []) (outR' ∷ outW' ∷ []) (r ∷ w ∷ []) (r' ∷ w' ∷ []) y y' o refl refl e e'
    (λ p q. ap₂ (λ (es fs : List Entry). es ∷ fs ∷ []) (one_set r r' p.0.0 q.0.0 p.0.1 q.0.1 h)
    (one_set w w' p.1.0.0 q.1.0.0 p.1.0.1 q.1.0.1 g))

pub one_signed_form : OneSignedForm
one_signed_form b b' out out' w w' y y' o e e' h =
    one_form of_signed is_signed b b' (out ∷ []) (out' ∷ []) (w ∷ []) (w' ∷ []) y y' o refl refl e e'
    (λ p q. ap (λ (es : List Entry). es ∷ []) (one_set w w' p.0.0 q.0.0 p.0.1 q.0.1 ((all_keys (λ x. In w x ≡ In w' x)).from h)))

-- WRITING looks at the verdicts on the blocks, and at what they say
one_written : (f : Form) (ws ws' : List (List ℕ)) (bytes : List ℕ) (p : ℕ) → inputs f.layout 0 ws ≡ inputs f.layout 0 ws'
    → held_in f.layout ws ≡ held_in f.layout ws' → write_call f ws bytes p ≡ write_call f ws' bytes p
unfolding write_call
one_written f ws ws' bytes p i h =
    ap₂ (λ (fs : List Finding) (runs : List (List Entry)).
    in_turn (fs ++ (overlap runs ∷ []) ++ (at 0 (applies (no_space p (length (form_of new_mark f runs)) (length bytes)) 15) ∷ [])) (bytes ∷ [])
    (written_at p (form_of new_mark f runs) bytes)) i h

-- the verdicts on two sound blocks are one
alike : (l : Layout) (q : ℕ) (w w' : List ℕ) → verdict l w ≡ 0 → verdict l w' ≡ 0 → at q (verdict l w) ≡ at q (verdict l w')
alike l q w w' s s' = ap (at q) (s ∙ sym s')

pub one_set_written : OneSetWritten
one_set_written w w' bytes p s s' l l' h =
    one_written of_set (w ∷ []) (w' ∷ []) bytes p (ap (λ (f : Finding). f ∷ []) (alike set_layout 0 w w' s s'))
    (ap (λ (es : List Entry). es ∷ []) (one_set w w' s s' l l' h))

pub one_map_written : OneMapWritten
one_map_written w w' bytes p s s' l l' h =
    one_written of_map (w ∷ []) (w' ∷ []) bytes p (ap (λ (f : Finding). f ∷ []) (alike map_layout 0 w w' s s'))
    (ap (λ (es : List Entry). es ∷ []) (one_map w w' s s' l l' h))

pub one_signed_written : OneSignedWritten
one_signed_written w w' bytes p s s' l l' h =
    one_written of_signed (w ∷ []) (w' ∷ []) bytes p (ap (λ (f : Finding). f ∷ []) (alike set_layout 0 w w' s s'))
    (ap (λ (es : List Entry). es ∷ []) (one_set w w' s s' l l' ((all_keys (λ x. In w x ≡ In w' x)).from h)))

pub one_bulletin_written : OneBulletinWritten
one_bulletin_written r w r' w' bytes p a s a' s' k l k' l' h g =
    one_written of_bulletin (r ∷ w ∷ []) (r' ∷ w' ∷ []) bytes p
    (ap₂ (λ (f g : Finding). f ∷ g ∷ []) (alike set_layout 0 r r' a a') (alike set_layout 1 w w' s s'))
    (ap₂ (λ (es fs : List Entry). es ∷ fs ∷ []) (one_set r r' a a' k k' h) (one_set w w' s s' l l' g))
