-- The answers of reading, judging and asking, from the tests of the code.
use Prim.Native.Nat.{ℕ, ◌+◌, ◌*◌, ◌<◌, ◌≤◌}
use mathlib.Core.List.{List, [], ◌∷◌, ◌++◌}
use mathlib.Core.Bool.{Bool}
use mathlib.Core.Path.{◌≡◌, refl, sym, subst, ap, ap₂, ◌∙◌}
use native.Mathlib.Omega.{arith}
use lib.Dec.{ltb, eqb}
use lib.ListN.{length, take, drop, length-drop}
use Rattle.entries.specs.Entries.{Each, Entry}
use Rattle.entries.specs.Sets.{member}
use Rattle.std.specs.Prelude.{Result, Ok, Err, IsErrAnd}
use Rattle.answers.specs.Answers.{given, Outcome, outcome, truth, applies, Clear, Finding}
use Rattle.answers.specs.Steps.{FirstOf}
use Rattle.answers.specs.Says.{number_of, refusal_says, says}
use Rattle.answers.specs.declared.Refusal.{Refusal}
use Rattle.answers.proofs.Turns.{stops_in, passes_in, refused_by, given_by}
use Rattle.blocks.specs.Blocks.{set_layout, capacity}
use Rattle.blocks.specs.declared.Layout.{Layout}
use Rattle.blocks.proofs.Judging.{room_words}
use Rattle.blocks.proofs.Refusing.{some_words}
use Rattle.numbers.specs.Numbers.{Bytes, num2}
use Rattle.records.specs.Reads.{second_count}
use Rattle.records.proofs.Items.{counts_two}
use Rattle.runs.specs.Runs.{Fine, entries_in, lengths}
use Rattle.verdicts.specs.declared.Form.{Form}
use Rattle.verdicts.specs.Forms.{of_set, start_size, size_of, form_counts, form_entries, form_refusals, out_refusals}
use Rattle.forms.specs.Calls.{stored_in, read_call, judge_call, one_number, first_of, member_of_form_call}
use Rattle.forms.specs.Steps.{Stored, Stores}
use Rattle.verdicts.specs.Steps.{Shape, lone, pair, FormKind, each_of, item_size, second_at, runs_here, OneRun}
use Rattle.verdicts.proofs.Whole.{set_kind, counted}
use Rattle.forms.proofs.Forms.{room_held, accepted_formed, accepted_size}
use Rattle.verdicts.proofs.Two.{entries_here, size_here}

-- an answer that hands a refusal on
pub says_failed : {A : Type 0} (values : A → List ℕ) (r : Result A Refusal) (e : Refusal) (lent : List (List ℕ)) (o : Outcome) → IsErrAnd r (λ d. d ≡ e)
    → outcome (refusal_says e) lent ≡ o → outcome (says values r) lent ≡ o
says_failed values (Ok a) e lent o h q = absurd h
says_failed values (Err d) e lent o h q = ap (λ (f : Refusal). outcome (refusal_says f) lent) h ∙ q

each_length : (r : ℕ) (l : Layout) (x y : List ℕ) → Shape r l → take r (length x ∷ length y ∷ []) ≡ lengths (take r (x ∷ y ∷ []))
each_length r l x y lone = refl
each_length r l x y pair = refl

-- a block that has words, and room for n items
record Roomy (layout : Layout) (l n : ℕ) : Type 0 where
  some : 0 < l
  fits : n ≤ capacity layout l

roomy : (layout : Layout) (l n : ℕ) → applies (eqb l 0) 1 ≡ 0 → applies (ltb (capacity layout l) n) 5 ≡ 0 → Roomy layout l n
roomy layout l n c d = record { some = some_words l c; fits = room_held (capacity layout l) n d }

each_roomy : (layout : Layout) (r i j n m : ℕ) → Shape r layout → Clear (out_refusals layout (take r (i ∷ j ∷ [])) (take r (n ∷ m ∷ [])))
    → Roomy layout i n × ((r ≡ 1 → ⊥) → Roomy layout j m)
each_roomy layout r i j n m lone c = (roomy layout i n c.0 c.1.0, λ nz. absurd (nz refl))
each_roomy layout r i j n m pair c = (roomy layout i n c.0 c.1.1.0, λ nz. roomy layout j m c.1.0 c.1.1.1.0)

-- the refusals of the outputs x and y of a reading
abbrev outs_of : Form → List ℕ → List ℕ → List ℕ → List Finding
outs_of f b x y = out_refusals f.layout (lengths (each_of f x y)) (lengths (form_entries f b))

pub bytes_refused : (f : Form) (b x y : List ℕ) (e : Refusal) → FirstOf (form_refusals f b) (Err e)
    → outcome (refusal_says e) (each_of f x y) ≡ read_call f b (each_of f x y)
unfolding read_call
bytes_refused f b x y e fe =
    refused_by (stops_in (form_refusals f b) (outs_of f b x y) e fe) (each_of f x y) (outcome (given []) (stored_in (each_of f x y) (form_entries f b)))

-- the bytes were judged good, and n and m are their counts
pub record Opened (f : Form) (b x y : List ℕ) (n m : ℕ) : Type 0 where
  pub kind : FormKind f
  pub bytes : FirstOf (form_refusals f b) (Ok tt)
  pub count : n ≡ num2 b 3
  pub count_too : m ≡ second_count f.runs b

pub opened : (f : Form) (b x y : List ℕ) (n m i j : ℕ) → FormKind f → FirstOf (form_refusals f b) (Ok tt) → n ≡ i → i ≡ num2 b 3 → m ≡ j
    → j ≡ second_count f.runs b → Opened f b x y n m
opened f b x y n m i j k h p q r t = record { kind = k; bytes = h; count = p ∙ q; count_too = r ∙ t }

module _ {f : Form} {b x y : List ℕ} {n m : ℕ} (g : Opened f b x y n m) where
  abbrev lent : List (List ℕ)
  lent = each_of f x y

  abbrev next : Outcome
  next = outcome (given []) (stored_in lent (form_entries f b))

  abbrev pub Outs : Result (Unit {0}) Refusal → Type 0
  Outs u = FirstOf (out_refusals f.layout (each_of f (length x) (length y)) (each_of f n m)) u

  all_passed : (u : Result (Unit {0}) Refusal) → Outs u → FirstOf (form_refusals f b ++ outs_of f b x y) u
  all_passed u h =
      let c : each_of f n m ≡ lengths (form_entries f b) =
      ap₂ (each_of f) g.count g.count_too ∙ counts_two f.runs g.kind.start.one g.kind.start.two b ∙ sym (counted f g.kind b) in
      passes_in (form_refusals f b) (outs_of f b x y) tt u g.bytes
      (subst (λ (l : List Finding). FirstOf l u) (ap₂ (out_refusals f.layout) (each_length f.runs f.layout x y g.kind.shape) c) h)

  pub outs_refused : (e : Refusal) → Outs (Err e) → outcome (refusal_says e) lent ≡ read_call f b lent
  unfolding read_call
  outs_refused e h = refused_by (all_passed (Err e) h) lent next

  module _ (h : Outs (Ok tt)) where
    stored : (z : List ℕ) (i p : ℕ) → Roomy f.layout (length z) i → p ≤ length b → item_size f * i ≤ length (drop p b) → Stored f.layout.width i p b z
    stored z i p r h l = record {
      there = h;
      some = r.some;
      fills = record {
        two = g.kind.first.two;
        four = g.kind.first.four;
        held = l;
        room = omega (arith, room_words f.layout (length z) i r.some r.fits, length-drop 1 z);
      };
    }

    pub to_store : Bytes b → Stores f n m b x y
    to_store w =
        let r = each_roomy f.layout f.runs (length x) (length y) n m g.kind.shape h.clear in
        let l : length b ≡ second_at f n + item_size f * m =
        accepted_size f g.kind b w g.bytes.clear ∙ ap (size_of f) (counted f g.kind b) ∙ size_here f g.kind b
        ∙ ap₂ (λ (i j : ℕ). second_at f i + item_size f * j) (sym g.count) (sym g.count_too) in
        record {
          first = stored x n (start_size f) r.0 (omega arith) (omega (arith, length-drop (start_size f) b));
          second = λ nz. stored y m (second_at f n) (r.1 nz) (omega arith) (omega (arith, length-drop (second_at f n) b));
          shape = g.kind.shape;
        }

    pub read_good : (x' y' : List ℕ) → each_of f x' y' ≡ stored_in lent (runs_here f n m b)
        → outcome (given []) (each_of f x' y') ≡ read_call f b lent
    unfolding read_call
    read_good x' y' q =
        given_by (all_passed (Ok tt) h) lent (outcome (given []) (each_of f x' y')) next
        (ap (outcome (given [])) (q ∙ ap (stored_in lent) (ap₂ (λ (i j : ℕ). runs_here f i j b) g.count g.count_too ∙ sym (entries_here f g.kind b))))

-- judging and asking, of a set: refused,
module _ (b : List ℕ) (e : Refusal) (fe : FirstOf (form_refusals of_set b) (Err e)) where
  pub judge_refused : outcome (refusal_says e) [] ≡ judge_call of_set b
  unfolding judge_call
  judge_refused = refused_by fe [] (outcome (given (form_counts of_set b)) [])

  pub member_refused : (x : ℕ) → 16 + number_of e.reason ≡ member_of_form_call b x
  unfolding member_of_form_call
  member_refused x = ap one_number (refused_by fe [] (outcome (truth (member (first_of (form_entries of_set b)) x)) []))

-- or good
module _ (b : List ℕ) (fv : FirstOf (form_refusals of_set b) (Ok tt)) (n : ℕ) (e : n ≡ num2 b 3) where
  pub judge_good : outcome (given (n ∷ [])) [] ≡ judge_call of_set b
  unfolding judge_call
  judge_good =
      given_by fv [] (outcome (given (n ∷ [])) []) (outcome (given (form_counts of_set b)) []) (ap (λ (i : ℕ). outcome (given (i ∷ [])) []) e)

  -- the records of an accepted form are sound ranges in order, which halving asks for
  pub member_run : Bytes b → OneRun 0x10 7 n b
  member_run y = record {
    held = omega (arith, accepted_size of_set set_kind b y fv.clear, ap (size_of of_set) (counted of_set set_kind b));
    sound = rw e (subst (λ (r : List (List Entry)). Each (Fine 2 set_layout.limit) r) (entries_here of_set set_kind b) (accepted_formed of_set set_kind b y
        fv.clear).fine).0.sound;
    plain = λ x. refl;
  }

  pub member_told : (x : ℕ) (t : Bool) → t ≡ member (entries_in 0x10 2 n (drop 7 b)) x
      → one_number (outcome (truth t) []) ≡ member_of_form_call b x
  unfolding member_of_form_call
  member_told x t m =
      ap one_number
      (given_by fv [] (outcome (truth t) []) (outcome (truth (member (first_of (form_entries of_set b)) x)) [])
      (ap (λ (u : Bool). outcome (truth u) [])
      (m ∙ ap (λ (i : ℕ). member (entries_in 0x10 2 i (drop 7 b)) x) e ∙ ap (λ (r : List (List Entry)). member (first_of r) x) (sym
      (entries_here of_set set_kind b)))))
