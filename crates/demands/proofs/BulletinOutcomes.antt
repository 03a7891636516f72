-- Bulletins, and forms that are written: when they are accepted and when refused, by specs/Outcomes.
use mathlib.Core.Path.{◌≡◌, refl, ◌∙◌}
use mathlib.Core.List.{List, [], ◌∷◌, ◌++◌}
use Prim.Native.Nat.{ℕ, suc, ◌+◌, ◌*◌, ◌≤◌, ◌<◌}
use native.Mathlib.Omega.{arith}
use native.Mathlib.Decide.{dec_lt}
use lib.ListN.{length, get_or}
use Rattle.entries.specs.Entries.{Entry}
use Rattle.entries.specs.Bulletins.{shareb}
use Rattle.answers.specs.Answers.{Finding}
use Rattle.answers.specs.Answers.{refuse, Clear, at, applies}
use Rattle.answers.proofs.Turns.{clear_at, clear_both, clear_split}
use Rattle.blocks.specs.Blocks.{set_layout, entries_of, verdict}
use Rattle.blocks.specs.Calls.{input, no_block, output, no_room, room}
use Rattle.blocks.proofs.Refusing.{some_words, room_fits}
use Rattle.bulletins.specs.Calls.{amended_with, apply_refusals, apply_call, fold_refusals, fold_call}
use Rattle.runs.specs.Runs.{lengths}
use Rattle.runs.proofs.Several.{shapes}
use Rattle.verdicts.specs.declared.Form.{Form}
use Rattle.verdicts.specs.Steps.{FormKind}
use Rattle.checks.specs.Check.{new_mark}
use Rattle.verdicts.specs.Forms.{of_set, of_map, of_bulletin, of_signed, form_of, sharing, size_of as bytes_in}
use Rattle.verdicts.proofs.Whole.{set_kind, map_kind, bulletin_kind, signed_kind, size}
use Rattle.forms.specs.Calls.{held_in, inputs, no_space, block_refusals, write_call}
use Rattle.forms.proofs.Forms.{has_words, has_room, held_fine, many_held, space_clear, space_there}
use Rattle.searches.specs.Calls.{overlapping, overlap}
use Rattle.demands.specs.Plain.{Iff, SoundSet, SoundMap}
use Rattle.demands.specs.Bulletins.{Bulletin}
use Rattle.demands.specs.Outcomes.{Accepts, OverlapExactly, FoldOverlapExactly, WriteOverlapExactly, NoSpaceExactly}
use Rattle.demands.specs.Outcomes.{ApplyAccepted, FoldAccepted, WriteAccepted}
use Rattle.demands.proofs.Findings.{Where, Numbered, applied, numbered_both}
use Rattle.demands.proofs.Rooms.{Other, input_other, output_other, room_other}
use Rattle.demands.proofs.Changes.{count_in}
use Rattle.demands.proofs.Bulletins.{overlap_apart, apart_overlap}
use Rattle.demands.proofs.Outcomes.{accepted_exactly, iff_by, refused_kind, refused_one}

-- 14: where two sets share a number
overlap_only : (r w : List Entry) → Where (λ m. m ≡ 14) (overlapping r w)
overlap_only r w = applied (λ m. m ≡ 14) (shareb r w) 14 refl

pub overlap_exactly : OverlapExactly
unfolding apply_call
overlap_exactly list released withdrawn out =
    iff_by (refused_one 14 0 (overlapping r w)
    (input 0 set_layout list ∷ input 1 set_layout released ∷ input 2 set_layout withdrawn ∷ output 3 (length out) ∷ [])
    (room 3 set_layout (length out) es ∷ []) (on list, (on released, (on withdrawn, (output_other 14 (λ e. omega arith) (length out), tt))))
    (overlap_only r w) (room_other 14 (λ e. omega arith) set_layout (length out) es, tt) (out ∷ []) _ _)
    (λ h. (h.0.0, h.0.1.0, h.0.1.1.0, some_words (length out) h.0.1.1.1.0, λ c. h.1 (apart_overlap r w c)))
    (λ h. ((h.0, (h.1, (h.2, (has_words (length out) h.3, tt)))), λ z. h.4 (overlap_apart r w z)))
  where
    r : List Entry
    r = entries_of 2 released

    w : List Entry
    w = entries_of 2 withdrawn

    es : List Entry
    es = amended_with list released withdrawn

    on : (v : List ℕ) → Where (Other 14) (verdict set_layout v)
    on = input_other 14 (omega arith) set_layout

pub fold_overlap_exactly : FoldOverlapExactly
unfolding fold_call
fold_overlap_exactly r₁ w₁ r₂ w₂ out_r out_w =
    iff_by (refused_kind 14 0
    (input 0 set_layout r₁ ∷ input 1 set_layout w₁ ∷ input 2 set_layout r₂ ∷ input 3 set_layout w₂ ∷ output 4 (length out_r) ∷ output 5 (length out_w) ∷ [])
    (overlap r₁ w₁ ∷ overlap r₂ w₂ ∷ [])
    (room 4 set_layout (length out_r) (amended_with r₁ r₂ w₂) ∷ room 5 set_layout (length out_w) (amended_with w₁ w₂ r₂) ∷ [])
    (on r₁, (on w₁, (on r₂, (on w₂, (out out_r, (out out_w, tt)))))) ((only r₁ w₁, refl), ((only r₂ w₂, refl), tt))
    (late out_r (amended_with r₁ r₂ w₂), (late out_w (amended_with w₁ w₂ r₂), tt)) (out_r ∷ out_w ∷ []) _ _)
    (λ h. let c = h.0 in (
      c.0,
      c.1.0,
      c.1.1.0,
      c.1.1.1.0,
      some_words (length out_r) c.1.1.1.1.0,
      some_words (length out_w) c.1.1.1.1.1.0,
      λ n. h.1 (apart_overlap (entries_of 2 r₁) (entries_of 2 w₁) n.0, (apart_overlap (entries_of 2 r₂) (entries_of 2 w₂) n.1, tt)),
    ))
    (λ h. (
      (h.0, (h.1, (h.2, (h.3, (has_words (length out_r) h.4, (has_words (length out_w) h.5, tt)))))),
      λ z. h.6 (overlap_apart (entries_of 2 r₁) (entries_of 2 w₁) z.0, overlap_apart (entries_of 2 r₂) (entries_of 2 w₂) z.1.0),
    ))
  where
    on : (v : List ℕ) → Where (Other 14) (verdict set_layout v)
    on = input_other 14 (omega arith) set_layout

    out : (o : List ℕ) → Where (Other 14) (no_block (length o))
    out o = output_other 14 (λ e. omega arith) (length o)

    only : (r w : List ℕ) → Where (λ m. m ≡ 14) (overlapping (entries_of 2 r) (entries_of 2 w))
    only r w = overlap_only (entries_of 2 r) (entries_of 2 w)

    late : (o : List ℕ) (es : List Entry) → Where (Other 14) (no_room set_layout (length o) es)
    late o es = room_other 14 (λ e. omega arith) set_layout (length o) es

pub write_overlap_exactly : WriteOverlapExactly
unfolding write_call
write_overlap_exactly released withdrawn bytes p =
    iff_by (refused_one 14 0 (overlapping r w) (input 0 set_layout released ∷ input 1 set_layout withdrawn ∷ [])
    (at 0 (applies (no_space p (length (form_of new_mark of_bulletin (r ∷ w ∷ []))) (length bytes)) 15) ∷ [])
    (on released, (on withdrawn, tt)) (overlap_only r w)
    (applied (Other 14) (no_space p (length (form_of new_mark of_bulletin (r ∷ w ∷ []))) (length bytes)) 15 (λ e. omega arith), tt) (bytes ∷ []) _ _)
    (λ h. (h.0.0, h.0.1.0, λ c. h.1 (apart_overlap r w c)))
    (λ h. ((h.0, (h.1, tt)), λ z. h.2 (overlap_apart r w z)))
  where
    r : List Entry
    r = entries_of 2 released

    w : List Entry
    w = entries_of 2 withdrawn

    on : (v : List ℕ) → Where (Other 14) (verdict set_layout v)
    on = input_other 14 (omega arith) set_layout

-- a bulletin's two blocks are judged to be one
module _ (r w : List ℕ) where
  clear_bulletin : Clear (block_refusals of_bulletin (r ∷ w ∷ [])) → Bulletin r w
  clear_bulletin c = record { released_sound = c.0; withdrawn_sound = c.1.0; apart = overlap_apart (entries_of 2 r) (entries_of 2 w) c.1.1.0 }

  bulletin_clear : Bulletin r w → Clear (block_refusals of_bulletin (r ∷ w ∷ []))
  bulletin_clear b = (b.released_sound, (b.withdrawn_sound, (apart_overlap (entries_of 2 r) (entries_of 2 w) b.apart, tt)))

-- ACCEPTED EXACTLY: each refusal that is tried, in plain terms
pub apply_accepted_exactly : ApplyAccepted
unfolding apply_call
apply_accepted_exactly list released withdrawn out =
    iff_by (accepted_exactly (apply_refusals list released withdrawn (length out)) (out ∷ []) _ _)
    (λ c. (
      c.0,
      clear_bulletin released withdrawn (c.1.0, (c.1.1.0, (c.1.1.1.1.0, tt))),
      some_words (length out) c.1.1.1.0,
      room_fits set_layout (length out) (amended_with list released withdrawn) c.1.1.1.1.1.0,
    ))
    (λ h. let b = bulletin_clear released withdrawn h.1 in
    (h.0, (b.0, (b.1.0, (has_words (length out) h.2, (b.1.1.0, (has_room _ _ h.3, tt)))))))

pub fold_accepted_exactly : FoldAccepted
unfolding fold_call
fold_accepted_exactly r₁ w₁ r₂ w₂ out_r out_w =
    iff_by (accepted_exactly fs (out_r ∷ out_w ∷ []) _ _)
    (λ c. let i = clear_at fs c in (
      record {
        earlier = clear_bulletin r₁ w₁ (i 0, (i 1, (i 6, tt)));
        later = clear_bulletin r₂ w₂ (i 2, (i 3, (i 7, tt)));
        words = (some_words (length out_r) (i 4), some_words (length out_w) (i 5));
      },
      room_fits set_layout (length out_r) (amended_with r₁ r₂ w₂) (i 8),
      room_fits set_layout (length out_w) (amended_with w₁ w₂ r₂) (i 9),
    ))
    (λ h. let b = bulletin_clear r₁ w₁ h.0.earlier in
    let d = bulletin_clear r₂ w₂ h.0.later in
    let o = has_words (length out_r) h.0.words.0 in
    let q = has_words (length out_w) h.0.words.1 in
    (b.0, (b.1.0, (d.0, (d.1.0, (o, (q, (b.1.1.0, (d.1.1.0, (has_room _ _ h.1, (has_room _ _ h.2, tt)))))))))))
  where
    fs : List Finding
    fs = fold_refusals r₁ w₁ r₂ w₂ (length out_r) (length out_w)

-- 15: there is space for a form of so many bytes at p exactly if it ends within the buffer
module _ (p size len : ℕ) where
  space_fits : applies (no_space p size len) 15 ≡ 0 → p + size ≤ len
  space_fits e = let h = space_clear p size len e in omega arith

  fits_space : p + size ≤ len → applies (no_space p size len) 15 ≡ 0
  fits_space h = space_there p size len (omega arith) (omega arith)

  space_lacks : (applies (no_space p size len) 15 ≡ 0 → ⊥) → len < p + size
  space_lacks h = go (dec_lt len (p + size))
    where
      go : Dec (len < p + size) → len < p + size
      go (yes q) = q
      go (no q) = absurd (h (fits_space (omega arith)))

-- writing these blocks is accepted exactly if Q holds and n bytes from p on are in the buffer, and refused with 15 exactly if Q holds and they are not
abbrev Writes : Form → List (List ℕ) → Type 0 → ℕ → List ℕ → ℕ → Type 0
Writes f ws Q n bytes p = Iff (Accepts (write_call f ws bytes p)) (Q × (p + n ≤ length bytes))
    × Iff (write_call f ws bytes p ≡ refuse 15 0 (bytes ∷ [])) (Q × (length bytes < p + n))

-- so it is where the blocks are judged sound, as Q says in plain terms, and their form takes n bytes
module _ (f : Form) (k : FormKind f) (ws : List (List ℕ)) (m : length ws ≡ f.runs) (Q : Type 0)
    (to : Clear (block_refusals f ws) → Q) (from : Q → Clear (block_refusals f ws)) (n : ℕ) (e : bytes_in f (lengths (held_in f.layout ws)) ≡ n)
    (bytes : List ℕ) (p : ℕ) where
  abbrev bytes_of : ℕ
  bytes_of = length (form_of new_mark f (held_in f.layout ws))

  -- how many bytes the form takes
  form_size : Clear (block_refusals f ws) → bytes_of ≡ n
  form_size c =
      size f k new_mark (held_in f.layout ws) (many_held f.layout ws ∙ m)
      (shapes f.layout.width f.layout.limit (held_in f.layout ws)
      (held_fine f.layout k.first.two 0 ws (clear_split (inputs f.layout 0 ws) _ c).0))
      ∙ e

  -- 15 is tried last: nothing before it applies, and it does
  no_space_given : Iff (write_call f ws bytes p ≡ refuse 15 0 (bytes ∷ [])) (Q × (length bytes < p + n))
  unfolding write_call
  no_space_given =
      iff_by (refused_one 15 0 (applies (no_space p bytes_of (length bytes)) 15) (block_refusals f ws) []
      (numbered_both (Other 15) (inputs f.layout 0 ws) _ (inputs_other 0 ws)
      (applied (Other 15) (sharing (held_in f.layout ws)) 14 (λ d. omega arith), tt))
      (applied (λ i. i ≡ 15) (no_space p bytes_of (length bytes)) 15 refl) tt (bytes ∷ []) _ _)
      (λ h. (to h.0, omega (arith, form_size h.0, space_lacks p bytes_of (length bytes) h.1)))
      (λ h. (from h.0, λ z. omega (arith, form_size (from h.0), space_fits p bytes_of (length bytes) z, h.1)))
    where
      inputs_other : (q : ℕ) (vs : List (List ℕ)) → Numbered (Other 15) (inputs f.layout q vs)
      inputs_other q [] = tt
      inputs_other q (v ∷ vs) = (input_other 15 (omega arith) f.layout v, inputs_other (suc q) vs)

  -- nothing applies
  space_given : Iff (Accepts (write_call f ws bytes p)) (Q × (p + n ≤ length bytes))
  unfolding write_call
  space_given =
      let last = at 0 (applies (no_space p bytes_of (length bytes)) 15) ∷ [] in
      iff_by (accepted_exactly (block_refusals f ws ++ last) (bytes ∷ []) _ _)
      (λ c. let s = clear_split (block_refusals f ws) last c in
      (to s.0, omega (arith, form_size s.0, space_fits p bytes_of (length bytes) s.1.0)))
      (λ h. clear_both (block_refusals f ws) last (from h.0)
      (fits_space p bytes_of (length bytes) (omega (arith, form_size (from h.0), h.1)), tt))

  writes : Writes f ws Q n bytes p
  writes = (space_given, no_space_given)

-- the three that are written
module _ (bytes : List ℕ) (p : ℕ) where
  set_writes : (w : List ℕ) → Writes of_set (w ∷ []) (SoundSet w) (7 + 21 * get_or w 0 0) bytes p
  set_writes w = writes of_set set_kind (w ∷ []) refl (SoundSet w) (λ c. c.0) (λ h. (h, (refl, tt))) _ (omega (arith, count_in 2 w)) bytes p

  map_writes : (w : List ℕ) → Writes of_map (w ∷ []) (SoundMap w) (7 + 29 * get_or w 0 0) bytes p
  map_writes w = writes of_map map_kind (w ∷ []) refl (SoundMap w) (λ c. c.0) (λ h. (h, (refl, tt))) _ (omega (arith, count_in 3 w)) bytes p

  bulletin_writes : (r w : List ℕ) → Writes of_bulletin (r ∷ w ∷ []) (Bulletin r w) (9 + 21 * (get_or r 0 0 + get_or w 0 0)) bytes p
  bulletin_writes r w =
      writes of_bulletin bulletin_kind (r ∷ w ∷ []) refl (Bulletin r w) (clear_bulletin r w) (bulletin_clear r w) _
      (omega (arith, count_in 2 r, count_in 2 w)) bytes p

  signed_writes : (w : List ℕ) → Writes of_signed (w ∷ []) (SoundSet w) (7 + 21 * get_or w 0 0) bytes p
  signed_writes w = writes of_signed signed_kind (w ∷ []) refl (SoundSet w) (λ c. c.0) (λ h. (h, (refl, tt))) _ (omega (arith, count_in 2 w)) bytes p

pub write_accepted_exactly : WriteAccepted
write_accepted_exactly bytes p = (
  λ w. (set_writes bytes p w).0,
  λ w. (map_writes bytes p w).0,
  λ r w. (bulletin_writes bytes p r w).0,
  λ w. (signed_writes bytes p w).0,
)

pub no_space_exactly : NoSpaceExactly
no_space_exactly bytes p = (
  λ w. (set_writes bytes p w).1,
  λ w. (map_writes bytes p w).1,
  λ r w. (bulletin_writes bytes p r w).1,
  λ w. (signed_writes bytes p w).1,
)
