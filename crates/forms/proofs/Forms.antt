-- The laws of the byte form, for every form: those of 01 are `set_kind`, `map_kind` and `bulletin_kind` in proofs/Whole.
use Prim.Native.Nat.{ℕ, suc, ◌+◌, ◌-◌, ◌<◌, ◌≤◌}
use mathlib.Core.List.{List, [], ◌∷◌, ◌++◌}
use mathlib.Core.Bool.{Bool, true, false}
use mathlib.Core.Logic.{inr}
use mathlib.Core.Path.{◌≡◌, refl, sym, subst, ap, ap₂, ◌∙◌}
use native.Mathlib.Omega.{arith}
use lib.Dec.{ltb}
use lib.ListN.{length, get_or, take, drop, length-drop}
use lib.Seq.{take_at, drop_at, length-take-le}
use borrow.Author.Tests.{ltb-false, le-ltb, ne_eqb}
use Rattle.entries.specs.Entries.{Entry, Each}
use Rattle.entries.specs.Build.{pick}
use Rattle.answers.specs.Answers.{outcome, given, in_turn, applies, Clear}
use Rattle.answers.proofs.Turns.{turn_accepted, clear_turn, clear_both, clear_split, applies_clear}
use Rattle.blocks.specs.Calls.{no_block}
use Rattle.blocks.specs.Blocks.{Shaped}
use Rattle.blocks.specs.declared.Layout.{Layout}
use Rattle.blocks.proofs.Words.{items_shaped, items_length}
use Rattle.blocks.proofs.Canonical.{entries_stored, sound_stored}
use Rattle.blocks.proofs.Judging.{verdict_sound, room_words}
use Rattle.blocks.proofs.Refusing.{some_words, room_fits}
use Rattle.numbers.specs.Numbers.{Bytes, over, patch}
use Rattle.checks.specs.Check.{new_mark}
use Rattle.runs.specs.Runs.{lengths, Fine}
use Rattle.runs.proofs.Several.{shapes}
use Rattle.verdicts.specs.declared.Form.{Form}
use Rattle.verdicts.specs.Forms.{mark_of, form_of, size_of, form_entries, sharing, overlap, form_refusals, no_blocks, no_rooms, out_refusals, Formed}
use Rattle.forms.specs.Calls.{stored_in, read_call, held_in, inputs, no_space, block_refusals, write_refusals, written_at, write_call}
use Rattle.verdicts.specs.Steps.{FormKind}
use Rattle.verdicts.proofs.Whole.{mark_back, made, back, whole, size}

-- an output that has words is not refused with 1; one of a capacity c not with 5 for n items exactly where they are within it
pub has_words : (words : ℕ) → 0 < words → no_block words ≡ 0
has_words words h = rw (ne_eqb words 0 (λ z. omega arith))

pub has_room : (c n : ℕ) → n ≤ c → applies (ltb c n) 5 ≡ 0
has_room c n h = rw (le-ltb c n h)

pub room_held : (c n : ℕ) → applies (ltb c n) 5 ≡ 0 → n ≤ c
room_held c n e = ltb-false c n (applies_clear (ltb c n) 4 e)

-- blocks that hold runs, and blocks judged
module _ (layout : Layout) (two : 2 ≤ layout.width) where
  abbrev s : ℕ
  s = layout.width

  held_stored : (outs : List (List ℕ)) (runs : List (List Entry)) → length outs ≡ length runs → Each (Shaped s) runs
      → held_in layout (stored_in outs runs) ≡ runs
  held_stored [] [] l h = refl
  held_stored [] (es ∷ runs) l h = absurd (omega arith)
  held_stored (w ∷ outs) [] l h = absurd (omega arith)
  held_stored (w ∷ outs) (es ∷ runs) l h = ap₂ ◌∷◌ (entries_stored s two (length w) es h.0) (held_stored outs runs (omega arith) h.1)

  inputs_stored : (i j q : ℕ) (outs : List (List ℕ)) (runs : List (List Entry)) → Clear (no_blocks i (lengths outs))
      → Clear (no_rooms layout j (lengths outs) (lengths runs))
      → Each (Fine s layout.limit) runs → Clear (inputs layout q (stored_in outs runs))
  inputs_stored i j q [] runs c d h = tt
  inputs_stored i j q (w ∷ outs) [] c d h = tt
  inputs_stored i j q (w ∷ outs) (es ∷ runs) c d h = (
    sound_stored layout two (length w) es h.0.shaped (some_words (length w) c.0) (room_fits layout (length w) es d.0) h.0.sound,
    inputs_stored (suc i) (suc j) (suc q) outs runs c.1 d.1 h.1,
  )

  pub held_fine : (q : ℕ) (ws : List (List ℕ)) → Clear (inputs layout q ws) → Each (Fine s layout.limit) (held_in layout ws)
  held_fine q [] c = tt
  held_fine q (w ∷ ws) c =
      let d = verdict_sound layout w c.0 in
      let n = get_or w 0 0 in
      let h = items_shaped s two n (drop 1 w) (omega (arith, room_words layout (length w) n d.some d.fits, length-drop 1 w)) in
      (record { sound = d.sound; shaped = h; within = omega (arith, items_length s n (drop 1 w), d.fits) }, held_fine (suc q) ws c.1)

pub many_held : (layout : Layout) (ws : List (List ℕ)) → length (held_in layout ws) ≡ length ws
many_held layout [] = refl
many_held layout (w ∷ ws) = ap suc (many_held layout ws)

-- «Refusal 15 exactly if ..»
pub space_clear : (p size len : ℕ) → applies (no_space p size len) 15 ≡ 0 → (p ≤ len) × (size ≤ len - p)
space_clear p size len e = go (ltb len p) refl (ltb (len - p) size) refl (applies_clear (no_space p size len) 14 e)
  where
    go : (t : Bool) → ltb len p ≡ t → (u : Bool) → ltb (len - p) size ≡ u → pick t true u ≡ false → (p ≤ len) × (size ≤ len - p)
    go true a u b e = absurd (let z : ◌≡◌ {A = ℕ} 0 1 = cc in omega arith)
    go false a true b e = absurd (let z : ◌≡◌ {A = ℕ} 0 1 = cc in omega arith)
    go false a false b e = (ltb-false len p a, ltb-false (len - p) size b)

pub space_there : (p size len : ℕ) → p ≤ len → size ≤ len - p → applies (no_space p size len) 15 ≡ 0
space_there p size len h l = rw (le-ltb len p h, le-ltb (len - p) size l)

module _ (f : Form) (k : FormKind f) where
  -- «acceptance exactly of byte forms»: only byte forms are accepted, those of the runs that are then read
  pub accepted_formed : (b : List ℕ) → Bytes b → Clear (form_refusals f b) → Formed f b (form_entries f b)
  accepted_formed = made f k

  -- and each byte form is accepted, with its runs
  pub formed_accepted : (b : List ℕ) (runs : List (List Entry)) → Formed f b runs → Clear (form_refusals f b) × (form_entries f b ≡ runs)
  formed_accepted b runs g =
      let h = shapes f.layout.width f.layout.limit runs g.fine in (
        subst (λ (x : List ℕ). Clear (form_refusals f x)) (sym g.form)
            (whole f k (mark_of b) runs g.many h (ap mark_of (sym g.form)) g.fine g.apart),
        ap (form_entries f) g.form ∙ back f k (mark_of b) runs g.many h,
      )

  -- «Sizes»
  pub accepted_size : (b : List ℕ) → Bytes b → Clear (form_refusals f b) → length b ≡ size_of f (lengths (form_entries f b))
  accepted_size b y c =
      let g = made f k b y c in
      ap length g.form ∙ size f k (mark_of b) (form_entries f b) g.many (shapes f.layout.width f.layout.limit (form_entries f b) g.fine)

  -- under one mark, one byte form names one list for each run; that these have one byte form is `form_of`
  pub one_form : (mark : ℕ) (runs others : List (List Entry)) → length runs ≡ f.runs → length others ≡ f.runs → Each (Shaped f.layout.width) runs
      → Each (Shaped f.layout.width) others → form_of mark f runs ≡ form_of mark f others → runs ≡ others
  one_form mark runs others n m h g e = sym (back f k mark runs n h) ∙ ap (form_entries f) e ∙ back f k mark others m g

  -- what was read, written into enough bytes, gives the new form of the same runs, as long as the bytes read
  pub read_written : (b : List ℕ) (outs ws : List (List ℕ)) (bytes : List ℕ) (p : ℕ) → Bytes b → length outs ≡ f.runs
      → read_call f b outs ≡ outcome (given []) ws → p + length b ≤ length bytes
      → write_call f ws bytes p ≡ outcome (given (length b ∷ [])) (patch p (form_of new_mark f (held_in f.layout ws)) bytes ∷ [])
  unfolding read_call write_call
  read_written b outs ws bytes p y n e h =
      let es = form_entries f b in
      let t = turn_accepted (form_refusals f b ++ out_refusals f.layout (lengths outs) (lengths es)) outs (outcome (given []) (stored_in outs es)) [] ws e in
      let c = clear_split (form_refusals f b) (out_refusals f.layout (lengths outs) (lengths es)) t.0 in
      let d = clear_split (no_blocks 0 (lengths outs)) (no_rooms f.layout 0 (lengths outs) (lengths es)) c.1 in
      let g = made f k b y c.0 in
      let w : stored_in outs es ≡ ws = cc in
      let l : length outs ≡ length es = n ∙ sym g.many in
      let i : held_in f.layout ws ≡ es =
      ap (held_in f.layout) (sym w) ∙ held_stored f.layout k.first.two outs es l (shapes f.layout.width f.layout.limit es g.fine) in
      let v : Clear (inputs f.layout 0 ws) =
      subst (λ (x : List (List ℕ)). Clear (inputs f.layout 0 x)) w (inputs_stored f.layout k.first.two 0 0 0 outs es d.0 d.1 g.fine) in
      let x = form_of new_mark f (held_in f.layout ws) in
      let long : length x ≡ length b =
      ap (λ (r : List (List Entry)). length (form_of new_mark f r)) i
      ∙ size f k new_mark es g.many (shapes f.layout.width f.layout.limit es g.fine) ∙ sym (accepted_size b y c.0) in
      let o : applies (sharing (held_in f.layout ws)) 14 ≡ 0 = ap (λ (x : List (List Entry)). applies (sharing x) 14) i ∙ rw g.apart in
      let u = space_there p (length x) (length bytes) (omega arith) (omega arith) in
      clear_turn (write_refusals f ws (length x) (length bytes) p) (bytes ∷ []) (written_at p x bytes)
      (clear_both (block_refusals f ws) _ (clear_both (inputs f.layout 0 ws) (overlap (held_in f.layout ws) ∷ []) v (o, tt)) (u, tt))
      ∙ ap (λ (n : ℕ). outcome (given (n ∷ [])) (patch p x bytes ∷ [])) long

  -- what was written, read into enough words, gives the same words, and 0 to the end
  pub written_read : (ws : List (List ℕ)) (bytes bytes' : List ℕ) (outs : List (List ℕ)) (p n : ℕ) → length ws ≡ f.runs
      → write_call f ws bytes p ≡ outcome (given (n ∷ [])) (bytes' ∷ [])
      → Clear (out_refusals f.layout (lengths outs) (lengths (held_in f.layout ws)))
      → read_call f (take n (drop p bytes')) outs ≡ outcome (given []) (stored_in outs (held_in f.layout ws))
  unfolding read_call write_call
  written_read ws bytes bytes' outs p n m e c =
      let es = held_in f.layout ws in
      let g = form_of new_mark f es in
      let t = turn_accepted (write_refusals f ws (length g) (length bytes) p) (bytes ∷ []) (written_at p g bytes) (n ∷ []) (bytes' ∷ []) e in
      let a = clear_split (block_refusals f ws) _ t.0 in
      let i = clear_split (inputs f.layout 0 ws) (overlap es ∷ []) a.0 in
      let d = held_fine f.layout k.first.two 0 ws i.0 in
      let h = shapes f.layout.width f.layout.limit es d in
      let u = space_clear p (length g) (length bytes) a.1.0 in
      let x : length g ≡ n = cc in
      let z : patch p g bytes ≡ bytes' = cc in
      let part : take n (drop p bytes') ≡ g =
      ap₂ (λ (j : ℕ) (y : List ℕ). take j (drop p y)) (sym x) (sym z)
      ∙ ap (take (length g)) (drop_at (take p bytes) (over g (drop p bytes)) p (length-take-le p bytes u.0))
      ∙ take_at g (drop (length g) (drop p bytes)) (length g) refl in
      let r = many_held f.layout ws ∙ m in
      let v = whole f k new_mark es r h (mark_back new_mark f es (inr refl)) d (applies_clear (sharing es) 13 i.1.0) in
      let q = back f k new_mark es r h in
      ap (λ (y : List ℕ). in_turn (form_refusals f y ++ out_refusals f.layout (lengths outs) (lengths (form_entries f y))) outs
      (outcome (given []) (stored_in outs (form_entries f y)))) part
      ∙ ap (λ (y : List (List Entry)). in_turn (form_refusals f g ++ out_refusals f.layout (lengths outs) (lengths y)) outs
      (outcome (given []) (stored_in outs y))) q
      ∙ clear_turn (form_refusals f g ++ out_refusals f.layout (lengths outs) (lengths es)) outs (outcome (given []) (stored_in outs es))
      (clear_both (form_refusals f g) (out_refusals f.layout (lengths outs) (lengths es)) v c)
