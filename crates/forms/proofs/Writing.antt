-- The bytes that writing a form leaves, and the answers of writing, from the tests of the code.
use Prim.Native.Nat.{ℕ, ◌+◌, ◌-◌, ◌*◌, ◌<◌, ◌≤◌}
use mathlib.Core.List.{List, [], ◌∷◌, ◌++◌, append_assoc, append-nil}
use mathlib.Core.Bool.{Bool, true, false}
use mathlib.Core.Path.{◌≡◌, refl, sym, ap, ap₂, ◌∙◌}
use native.Mathlib.Omega.{arith}
use native.Mathlib.Nat.{mul_comm, mul-add, mul-le-mul_left}
use lib.ListN.{length, get_or, take, drop, length-drop, length-append}
use borrow.Rule.Slice.PartMut.{put_mid}
use Rattle.entries.specs.Entries.{Entry}
use Rattle.std.specs.Prelude.{Result, Ok, Err}
use Rattle.answers.specs.Answers.{given, outcome, at, applies, Clear, Finding}
use Rattle.answers.specs.Steps.{FirstOf}
use Rattle.answers.specs.Says.{refusal_says, at_place}
use Rattle.answers.specs.declared.Refusal.{Refusal}
use Rattle.answers.specs.declared.Reason.TheVariants.{NoSpace}
use Rattle.answers.proofs.Turns.{stops, ends, stops_in, passes_in, refused_by, given_by, clear_split}
use Rattle.blocks.specs.Blocks.{items_of, verdict, SoundBlock, Shaped}
use Rattle.blocks.specs.declared.Layout.{Layout}
use Rattle.blocks.proofs.Words.{items_shaped, items_length}
use Rattle.blocks.proofs.Judging.{verdict_sound, room_words}
use Rattle.numbers.specs.Numbers.{past2, count_bytes, over}
use Rattle.numbers.proofs.Patch.{tail_part, mid_patch, mid_over}
use Rattle.records.specs.Records.{start_record}
use Rattle.records.specs.Reads.{counts_of}
use Rattle.records.proofs.Items.{counts_length}
use Rattle.runs.specs.Runs.{run_of, total, lengths, runs_of}
use Rattle.runs.proofs.Turns.{length_record}
use Rattle.runs.proofs.Running.{length_run}
use Rattle.verdicts.specs.declared.Form.{Form}
use Rattle.checks.specs.Check.{new_mark}
use Rattle.verdicts.specs.Forms.{form_of, start_size, overlap}
use Rattle.forms.specs.Calls.{held_in, inputs, no_space, block_refusals, written_at, write_call}
use Rattle.verdicts.specs.Steps.{Shape, lone, pair, FormKind, each_of, item_size, second_at}
use Rattle.forms.specs.Steps.{count_held, two_counts, most_bytes, Puts}
use Rattle.runs.proofs.Several.{shapes}
use Rattle.verdicts.proofs.Whole.{as_many, size}
use Rattle.forms.proofs.Forms.{held_fine, many_held, space_clear}
use Rattle.verdicts.proofs.Two.{not_one}

-- the size of a form fits
small_size : (s n : ℕ) → s ≤ 4 → n < two_counts → (8 * s + 5) * n ≤ most_bytes
small_size s n h l =
    let k : 8 * s + 5 ≤ 37 = omega arith in
    omega (arith, mul-le-mul_left n k, mul_comm n (8 * s + 5))

-- the bytes of a form with one run, and with two
form_lone : (mark st a c r : ℕ) (es fs : List Entry) → r ≡ 1
    → start_record mark st (counts_of r (length es) (length fs)) ++ run_of mark a es
    ≡ start_record mark st (lengths (take r (es ∷ fs ∷ []))) ++ runs_of mark (take r (a ∷ c ∷ [])) (take r (es ∷ fs ∷ []))
unfolding runs_of
form_lone mark st a c r es fs e = rw e (ap (λ (l : List ℕ). start_record mark st (length es ∷ []) ++ l) (sym (append-nil (run_of mark a es))))

form_pair : (mark st a c r : ℕ) (es fs : List Entry) → r ≡ 2
    → (start_record mark st (counts_of r (length es) (length fs)) ++ run_of mark a es) ++ run_of mark c fs
    ≡ start_record mark st (lengths (take r (es ∷ fs ∷ []))) ++ runs_of mark (take r (a ∷ c ∷ [])) (take r (es ∷ fs ∷ []))
unfolding runs_of
form_pair mark st a c r es fs e =
    rw e
    (append_assoc (start_record mark st (length es ∷ length fs ∷ [])) (run_of mark a es) (run_of mark c fs)
    ∙ ap (λ (l : List ℕ). start_record mark st (length es ∷ length fs ∷ []) ++ (run_of mark a es ++ l)) (sym (append-nil (run_of mark c fs))))

-- the start was written, then a run of n items of the block w, then one of m items of the block w2
module _ (f : Form) (n m : ℕ) (w w2 b : List ℕ) (k : Puts f n m w w2 b) (x y : ℕ) (ex : x ≡ n) (ey : y ≡ m) (b1 u : List ℕ)
    (e : b1 ≡ over (start_record new_mark f.start (counts_of f.runs x y)) b)
    (q : u ≡ over (run_of new_mark f.first (items_of f.layout.width n (take (length w - 1) (drop 1 w)))) (take (length b1 - start_size f) (drop
    (start_size f) b1))) where
  abbrev es : List Entry
  es = items_of f.layout.width n (drop 1 w)

  abbrev fs : List Entry
  fs = items_of f.layout.width m (drop 1 w2)

  abbrev S : List ℕ
  S = start_record new_mark f.start (counts_of f.runs (length es) (length fs))

  abbrev R : List ℕ
  R = run_of new_mark f.first es

  start_length : length S ≡ start_size f
  start_length =
      omega (
        arith,
        length_record new_mark f.start (count_bytes (counts_of f.runs (length es) (length fs))),
        counts_length f.runs (length es) (length fs) k.kind.start.one k.kind.start.two,
      )

  first_put : put_mid (start_size f) (length b1 - start_size f) b1 u ≡ over (S ++ R) b
  first_put =
      mid_over S R b b1 u (start_size f) start_length
      (e ∙ ap₂ (λ (i j : ℕ). over (start_record new_mark f.start (counts_of f.runs i j)) b)
      (ex ∙ sym (items_length f.layout.width n (drop 1 w))) (ey ∙ sym (items_length f.layout.width m (drop 1 w2))))
      (q ∙ ap (λ (l : List ℕ). over (run_of new_mark f.first (items_of f.layout.width n l)) (take (length b1 - start_size f) (drop (start_size f) b1)))
      (tail_part 1 w))

  pub one_put : f.runs ≡ 1 → put_mid (start_size f) (length b1 - start_size f) b1 u ≡ over (form_of new_mark f (each_of f es fs)) b
  unfolding form_of
  one_put z = first_put ∙ ap (λ (l : List ℕ). over l b) (form_lone new_mark f.start f.first f.second f.runs es fs z)

  first_length : length (S ++ R) ≡ second_at f n
  first_length =
      let h : Shaped f.layout.width es = items_shaped f.layout.width k.kind.first.two n (drop 1 w) (omega (arith, k.room, length-drop 1 w)) in
      length-append S R
      ∙ omega (
        arith,
        start_length,
        length_run new_mark f.first f.layout.width k.kind.first es h,
        ap (λ (i : ℕ). item_size f * i) (items_length
            f.layout.width n (drop 1 w)),
      )

  pub two_put : (f.runs ≡ 1 → ⊥) → (v : List ℕ)
      → (let b2 = put_mid (start_size f) (length b1 - start_size f) b1 u in
      v ≡ over (run_of new_mark f.second (items_of f.layout.width m (take (length w2 - 1) (drop 1 w2)))) (take (length b2 - second_at f n) (drop
      (second_at f n) b2))
      → put_mid (second_at f n) (length b2 - second_at f n) b2 v ≡ over (form_of new_mark f (each_of f es fs)) b)
  unfolding form_of
  two_put nz v o =
      let b2 = put_mid (start_size f) (length b1 - start_size f) b1 u in
      mid_over (S ++ R) (run_of new_mark f.second fs) b b2 v (second_at f n) first_length first_put
      (o ∙ ap (λ (l : List ℕ). over (run_of new_mark f.second (items_of f.layout.width m l)) (take (length b2 - second_at f n) (drop
      (second_at f n) b2))) (tail_part 1 w2))
      ∙ ap (λ (l : List ℕ). over l b) (form_pair new_mark f.start f.first f.second f.runs es fs (not_one f.runs f.layout
      k.kind.shape nz).0)

-- the blocks, one or two: over the number of runs r
each_verdict : (layout : Layout) (r : ℕ) (x y : List ℕ) → Shape r layout → Clear (inputs layout 0 (take r (x ∷ y ∷ [])))
    → (verdict layout x ≡ 0) × ((r ≡ 1 → ⊥) → verdict layout y ≡ 0)
each_verdict layout r x y lone c = (c.0, λ nz. absurd (nz refl))
each_verdict layout r x y pair c = (c.0, λ nz. c.1.0)

each_held : (layout : Layout) (r : ℕ) (x y : List ℕ) → Shape r layout
    → held_in layout (take r (x ∷ y ∷ [])) ≡ take r (items_of layout.width (get_or x 0 0) (drop 1 x) ∷ items_of layout.width (count_held r y) (drop 1 y) ∷ [])
each_held layout r x y lone = refl
each_held layout r x y pair = refl

each_total : (r : ℕ) (l : Layout) (es fs : List Entry) (m : ℕ) → Shape r l → length fs ≡ m → (r ≡ 1 → m ≡ 0)
    → total (lengths (take r (es ∷ fs ∷ []))) ≡ length es + m
each_total r l es fs m lone h z = omega (arith, z refl)
each_total r l es fs m pair h z = omega arith

none_second : (r : ℕ) (y : List ℕ) → r ≡ 1 → count_held r y ≡ 0
none_second r y e = rw e

second_there : (r : ℕ) (layout : Layout) (l : ℕ) → Shape r layout → ((r ≡ 1 → ⊥) → 0 < l) → r ≤ 1 + l
second_there r layout l lone h = omega arith
second_there r layout l pair h = omega (arith, h (λ z. omega arith))

second_small : (r : ℕ) (l : Layout) (m : ℕ) (y : List ℕ) → Shape r l → m ≡ count_held r y → ((r ≡ 1 → ⊥) → get_or y 0 0 < past2) → m < past2
second_small r l m y lone e h = omega arith
second_small r l m y pair e h = omega (arith, h (λ z. omega arith))

-- writing from the blocks x and y: refused with their first refusal
abbrev pub written_from : Form → List ℕ → List ℕ → List ℕ
written_from f x y = form_of new_mark f (held_in f.layout (each_of f x y))

abbrev no_space_lem : Form → List ℕ → List ℕ → List ℕ → ℕ → List Finding
no_space_lem f x y bytes p = at 0 (applies (no_space p (length (written_from f x y)) (length bytes)) 15) ∷ []

pub blocks_refused : (f : Form) (x y bytes : List ℕ) (p : ℕ) (e : Refusal) → FirstOf (block_refusals f (each_of f x y)) (Err e)
    → outcome (refusal_says e) (bytes ∷ []) ≡ write_call f (each_of f x y) bytes p
unfolding write_call
blocks_refused f x y bytes p e fe =
    refused_by (stops_in (block_refusals f (each_of f x y)) (no_space_lem f x y bytes p) e fe) (bytes ∷ []) (written_at p (written_from f x y) bytes)

-- or none of them is refused
pub record Passed (f : Form) (x y : List ℕ) : Type 0 where
  pub kind : FormKind f
  pub first : FirstOf (block_refusals f (each_of f x y)) (Ok tt)

pub passed : (f : Form) (x y : List ℕ) → FormKind f → FirstOf (block_refusals f (each_of f x y)) (Ok tt) → Passed f x y
passed f x y k h = record { kind = k; first = h }

module _ {f : Form} {x y : List ℕ} (h : Passed f x y) where
  abbrev ws : List (List ℕ)
  ws = each_of f x y

  abbrev g : List ℕ
  g = written_from f x y

  judged : (verdict f.layout x ≡ 0) × ((f.runs ≡ 1 → ⊥) → verdict f.layout y ≡ 0)
  judged = each_verdict f.layout f.runs x y h.kind.shape (clear_split (inputs f.layout 0 ws) (overlap (held_in f.layout ws) ∷ [])
      h.first.clear).0

  pub first_sound : SoundBlock f.layout x
  first_sound = verdict_sound f.layout x judged.0

  pub second_sound : (f.runs ≡ 1 → ⊥) → SoundBlock f.layout y
  second_sound nz = verdict_sound f.layout y (judged.1 nz)

  pub second_words : f.runs ≤ 1 + length y
  second_words = second_there f.runs f.layout (length y) h.kind.shape (λ nz. (second_sound nz).some)

  module _ {n m : ℕ} (en : n ≡ get_or x 0 0) (em : m ≡ count_held f.runs y) where
    room_first : 1 + f.layout.width * n ≤ length x
    room_first = room_words f.layout (length x) n first_sound.some (omega (arith, first_sound.fits))

    small : n < past2
    small = omega (arith, first_sound.fits, h.kind.small)

    small_too : m < past2
    small_too = second_small f.runs f.layout m y h.kind.shape em (λ nz. omega (arith, (second_sound nz).fits, h.kind.small))

    pub size_small : (n + m < two_counts) × (item_size f * (n + m) ≤ most_bytes)
    size_small =
        let l : n + m < two_counts = omega (arith, small, small_too) in
        (l, small_size f.layout.width (n + m) h.kind.first.four l)

    count_second : (f.runs ≡ 1 → ⊥) → m ≡ get_or y 0 0
    count_second nz = em ∙ rw (not_one f.runs f.layout h.kind.shape nz).0

    room_second : (f.runs ≡ 1 → ⊥) → 1 + f.layout.width * m ≤ length y
    room_second nz =
        room_words f.layout (length y) m (second_sound nz).some (omega (arith, (second_sound nz).fits, count_second nz))

    abbrev held : List (List Entry)
    held = each_of f (items_of f.layout.width n (drop 1 x)) (items_of f.layout.width m (drop 1 y))

    held_are : held_in f.layout ws ≡ held
    held_are =
        each_held f.layout f.runs x y h.kind.shape
        ∙ ap₂ (λ (i j : ℕ). each_of f (items_of f.layout.width i (drop 1 x)) (items_of f.layout.width j (drop 1 y))) (sym en) (sym em)

    long : length g ≡ start_size f + item_size f * (n + m)
    long =
        let s = f.layout.width in
        let c = (clear_split (inputs f.layout 0 ws) (overlap (held_in f.layout ws) ∷ []) h.first.clear).0 in
        size f h.kind new_mark (held_in f.layout ws) (many_held f.layout ws ∙ as_many f.runs f.layout x y h.kind.shape)
        (shapes s f.layout.limit (held_in f.layout ws) (held_fine f.layout h.kind.first.two 0 ws c))
        ∙ ap (λ (r : List (List Entry)). start_size f + item_size f * total (lengths r)) held_are
        ∙ ap (λ (t : ℕ). start_size f + item_size f * t)
        (each_total f.runs f.layout (items_of s n (drop 1 x)) (items_of s m (drop 1 y)) m h.kind.shape (items_length s m (drop 1 y))
        (λ z. em ∙ none_second f.runs y z)
        ∙ ap (λ (i : ℕ). i + m) (items_length s n (drop 1 x)))

    module _ (bytes : List ℕ) (p : ℕ) (t : Bool) (et : t ≡ no_space p (start_size f + item_size f * (n + m)) (length bytes)) where
      space_is : no_space p (length g) (length bytes) ≡ t
      space_is = ap (λ (i : ℕ). no_space p i (length bytes)) long ∙ sym et

      space_number : applies (no_space p (length g) (length bytes)) 15 ≡ applies t 15
      space_number = ap (λ (i : Bool). applies i 15) space_is

      all_passed : (u : Result (Unit {0}) Refusal) → FirstOf (no_space_lem f x y bytes p) u
          → FirstOf (block_refusals f ws ++ no_space_lem f x y bytes p) u
      all_passed u k = passes_in (block_refusals f ws) (no_space_lem f x y bytes p) tt u h.first k

      pub space_refused : t ≡ true → outcome (refusal_says (at_place NoSpace 0)) (bytes ∷ []) ≡ write_call f ws bytes p
      unfolding write_call
      space_refused z =
          refused_by (all_passed (Err (at_place NoSpace 0)) (stops NoSpace (at_place NoSpace 0) (applies (no_space p (length g) (length bytes)) 15) 0 [] refl
          (sym (space_number ∙ ap (λ (i : Bool). applies i 15) z)))) (bytes ∷ []) (written_at p g bytes)

      module _ (z : t ≡ false) where
        there : (p ≤ length bytes) × (start_size f + item_size f * (n + m) ≤ length bytes - p)
        there = space_clear p (start_size f + item_size f * (n + m)) (length bytes) (rw (sym et ∙ z))

        pub to_put : Puts f n m x y (take (length bytes - p) (drop p bytes))
        to_put = record {
          kind = h.kind;
          small = small;
          small_too = small_too;
          held = omega (arith, there.1, ap length (tail_part p bytes), length-drop p bytes, mul-add (item_size f) n m);
          room = room_first;
          room_too = room_second;
        }

        pub write_good : (o : List ℕ) → o ≡ over (form_of new_mark f held) (take (length bytes - p) (drop p bytes))
            → outcome (given ((start_size f + item_size f * (n + m)) ∷ [])) (put_mid p (length bytes - p) bytes o ∷ [])
            ≡ write_call f ws bytes p
        unfolding write_call
        write_good o q =
            given_by (all_passed (Ok tt) (ends (applies (no_space p (length g) (length bytes)) 15) 0
            (space_number ∙ ap (λ (i : Bool). applies i 15) z))) (bytes ∷ [])
            (outcome (given ((start_size f + item_size f * (n + m)) ∷ [])) (put_mid p (length bytes - p) bytes o ∷ [])) (written_at p g bytes)
            (ap₂ (λ (i : ℕ) (l : List ℕ). outcome (given (i ∷ [])) (l ∷ [])) (sym long)
            (mid_patch p g bytes o (q ∙ ap (λ (r : List (List Entry)). over (form_of new_mark f r) (take (length bytes - p) (drop p bytes))) (sym held_are))))
