-- Whole forms: what an accepted form is made of, and the form of fine runs that share no number is accepted.
use Prim.Native.Nat.{ℕ, zero, suc, ◌+◌, ◌*◌, ◌≤◌, ◌<◌}
use mathlib.Core.List.{List, [], ◌∷◌, ◌++◌, append-nil}
use mathlib.Core.Bool.{true, false}
use mathlib.Core.Option.{some}
use mathlib.Core.Logic.{◌⊎◌, inl, inr}
use mathlib.Core.Path.{◌≡◌, refl, sym, subst, ap, ap₂, ◌∙◌}
use native.Mathlib.Omega.{arith}
use lib.Dec.{ltb, lit<, lit≤}
use lib.ListN.{length, take, drop, length-append, length-drop, drop_of_length-le}
use borrow.Author.Tests.{ltb-false, le-ltb}
use Rattle.entries.specs.Entries.{Entry, Each}
use Rattle.answers.specs.Answers.{applies, Clear}
use Rattle.answers.proofs.Turns.{applies_clear, clear_both, clear_split}
use Rattle.blocks.specs.Blocks.{Shaped}
use Rattle.blocks.specs.declared.Layout.{Layout}
use Rattle.numbers.specs.Numbers.{past2, Bytes, counts_in, count_bytes}
use Rattle.numbers.proofs.Numbers.{length_counts}
use Rattle.checks.specs.Check.{old_mark, new_mark}
use Rattle.records.specs.Records.{body_length, start_record, all_within}
use Rattle.records.specs.Steps.{ItemKind}
use Rattle.records.proofs.Heads.{Whole, record_inv, record_zero}
use Rattle.records.proofs.Accepted.{start_bytes, record_whole, rest_laid, counts_back_in}
use Rattle.runs.specs.Runs.{total, lengths, runs_of, runs_in, runs_refusals, Fine}
use Rattle.runs.proofs.Turns.{length_record}
use Rattle.runs.proofs.Running.{bytes_drop}
use Rattle.runs.proofs.Several.{many_lengths, all_within_lem, runs_inv, counts_in_lem, runs_fine, runs_lent, runs_back, runs_accept, length_runs}
use Rattle.verdicts.specs.declared.Form.{Form}
use Rattle.verdicts.specs.Forms.{of_set, of_map, of_bulletin, of_signed, kinds_of, form_of, start_size, size_of, form_counts, form_entries, sharing, trailing}
use Rattle.verdicts.specs.Forms.{mark_of, overlap, form_refusals, Formed}
use Rattle.verdicts.specs.Steps.{Shape, lone, pair, FormKind}

-- the form of any runs under one of the two marks is to be read with that mark
pub mark_back : (mark : ℕ) (f : Form) (runs : List (List Entry)) → (mark ≡ old_mark) ⊎ (mark ≡ new_mark) → mark_of (form_of mark f runs) ≡ mark
unfolding mark_of form_of
mark_back mark f runs (inl e) = rw e
mark_back mark f runs (inr e) = rw e

-- the kinds of a form of one run
one_run : (start kind : ℕ) (l : Layout) → body_length start ≡ some 2 → body_length kind ≡ some (8 * l.width) → 2 ≤ l.width → l.width ≤ 4
    → l.limit < past2 → FormKind (record { start = start; first = kind; second = kind; runs = 1; layout = l })
one_run start kind l s i two four small = record {
  start = record { one = lit≤ tt; two = lit≤ tt; body = s };
  first = record { two = two; four = four; body = i };
  second = record { two = two; four = four; body = i };
  shape = lone;
  small = small;
  plain = λ n. absurd (n refl);
}

pub set_kind : FormKind of_set
unfolding body_length
set_kind = one_run _ _ _ refl refl (lit≤ tt) (lit≤ tt) (lit< tt)

pub map_kind : FormKind of_map
unfolding body_length
map_kind = one_run _ _ _ refl refl (lit≤ tt) (lit≤ tt) (lit< tt)

-- [K6] signed sets
pub signed_kind : FormKind of_signed
unfolding body_length
signed_kind = one_run _ _ _ refl refl (lit≤ tt) (lit≤ tt) (lit< tt)

-- the kinds of a bulletin, which has two runs
pub bulletin_kind : FormKind of_bulletin
unfolding body_length
bulletin_kind = record {
  start = record { one = lit≤ tt; two = lit≤ tt; body = refl };
  first = record { two = lit≤ tt; four = lit≤ tt; body = refl };
  second = record { two = lit≤ tt; four = lit≤ tt; body = refl };
  shape = pair;
  small = lit< tt;
  plain = λ n. (λ x. refl, λ x. refl);
}

-- the kinds of the four forms
pub ruleset form_kinds = (set_kind, map_kind, signed_kind, bulletin_kind)

kinds_are : (r : ℕ) (l : Layout) (a b : ℕ) → Shape r l → ItemKind a l.width → ItemKind b l.width
    → Each (λ k. ItemKind k l.width) (take r (a ∷ b ∷ []))
kinds_are r l a b lone i j = (i, tt)
kinds_are r l a b pair i j = (i, (j, tt))

pub as_many : {A : Type 0} (r : ℕ) (l : Layout) (x y : A) → Shape r l → length (take r (x ∷ y ∷ [])) ≡ r
as_many r l x y lone = refl
as_many r l x y pair = refl

pub many_counts : (n : ℕ) (b : List ℕ) (q : ℕ) → length (counts_in n b q) ≡ n
many_counts zero b q = refl
many_counts (suc n) b q = ap suc (many_counts n b (q + 2))

module _ (f : Form) (k : FormKind f) where
  abbrev s : ℕ
  s = f.layout.width

  pub kinds : Each (λ i. ItemKind i s) (kinds_of f)
  kinds = kinds_are f.runs f.layout f.first f.second k.shape k.first k.second

  pub many_kinds : length (kinds_of f) ≡ f.runs
  many_kinds = as_many f.runs f.layout f.first f.second k.shape

  pub start_long : (b : List ℕ) → Clear (form_refusals f b) → start_size f ≤ length b
  unfolding form_refusals
  start_long b c = (record_inv (mark_of b) f.start b (all_within f.layout.limit (form_counts f b)) (2 * f.runs) k.start.body c.0).0.long

  pub counted : (b : List ℕ) → lengths (form_entries f b) ≡ form_counts f b
  unfolding form_entries
  counted b = counts_in_lem (mark_of b) s (kinds_of f) (form_counts f b) (drop (start_size f) b) (many_counts f.runs b 3 ∙ sym many_kinds)

  -- the bytes that are accepted are the form of the runs read
  pub made : (b : List ℕ) → Bytes b → Clear (form_refusals f b) → Formed f b (form_entries f b)
  unfolding form_refusals form_of form_entries
  made b y c =
      let ns = form_counts f b in
      let a = start_size f in
      let d = drop a b in
      let es = runs_in s (kinds_of f) ns d in
      let l : length ns ≡ length (kinds_of f) = many_counts f.runs b 3 ∙ sym many_kinds in
      let i = record_inv (mark_of b) f.start b (all_within f.layout.limit ns) (2 * f.runs) k.start.body c.0 in
      let t = clear_split (runs_refusals (mark_of b) s a (kinds_of f) ns d) (trailing (size_of f ns) b ∷ overlap es ∷ []) c.1 in
      let r = runs_inv (mark_of b) s (kinds_of f) ns l kinds a d (bytes_drop a b y) t.0 in
      let e : length b ≤ size_of f ns = ltb-false (size_of f ns) (length b) (applies_clear (ltb (size_of f ns) (length b)) 12 t.1.0) in
      let none_after : drop ((8 * s + 5) * total ns) d ≡ [] = drop_of_length-le d {i = (8 * s + 5) * total ns} (omega (arith, length-drop a b)) in
      let run : d ≡ runs_of (mark_of b) (kinds_of f) es =
      r.bytes ∙ ap (λ (x : List ℕ). runs_of (mark_of b) (kinds_of f) es ++ x) none_after ∙ append-nil (runs_of (mark_of b) (kinds_of f) es) in
      record {
        form = start_bytes (mark_of b) f.start b y f.runs i.0
            ∙ ap₂ (λ (m : List ℕ) (x : List ℕ). start_record (mark_of b) f.start m ++ x) (sym (counted b)) run;
        many = sym (many_lengths es) ∙ ap length (counted b) ∙ many_counts f.runs b 3;
        fine = runs_fine (mark_of b) s (kinds_of f) ns d f.layout.limit k.first.two r.sound i.1;
        lent = runs_lent (mark_of b) s (kinds_of f) ns d (bytes_drop a b y) k.first.two;
        apart = applies_clear (sharing es) 13 t.1.1.0;
      }

  -- the form of runs under a mark, taken apart
  module _ (mark : ℕ) (runs : List (List Entry)) (n : length runs ≡ f.runs) (h : Each (Shaped s) runs) where
    abbrev b : List ℕ
    b = form_of mark f runs

    as_kinds : length runs ≡ length (kinds_of f)
    as_kinds = n ∙ sym many_kinds

    counts_long : length (count_bytes (lengths runs)) ≡ 2 * f.runs
    counts_long = omega (arith, length_counts (lengths runs), many_lengths runs, n)

    -- «Sizes: set 7+21n, map 7+29n, bulletin 9+21(r+w).»
    pub size : length b ≡ size_of f (lengths runs)
    unfolding form_of
    size =
        length-append (start_record mark f.start (lengths runs)) (runs_of mark (kinds_of f) runs)
        ∙ omega (
          arith,
          length_record mark f.start (count_bytes (lengths runs)),
          counts_long,
          length_runs mark s
              (kinds_of f) runs as_kinds kinds h,
        )

    counts_back : form_counts f b ≡ lengths runs
    unfolding form_of
    counts_back =
        ap (λ (m : ℕ). counts_in m (start_record mark f.start (lengths runs) ++ runs_of mark (kinds_of f) runs) 3) (sym n ∙ sym (many_lengths runs))
        ∙ counts_back_in mark f.start (lengths runs) (runs_of mark (kinds_of f) runs)

    dropped : drop (start_size f) b ≡ runs_of mark (kinds_of f) runs ++ []
    unfolding form_of
    dropped =
        rest_laid mark f.start (count_bytes (lengths runs)) (runs_of mark (kinds_of f) runs) (2 * f.runs) counts_long
        ∙ sym (append-nil (runs_of mark (kinds_of f) runs))

    pub back : form_entries f b ≡ runs
    unfolding form_entries
    back = ap₂ (runs_in s (kinds_of f)) counts_back dropped ∙ runs_back mark s [] (kinds_of f) runs as_kinds kinds h

    start_whole : Whole mark f.start (2 * f.runs) b
    unfolding form_of
    start_whole = record_whole mark f.start (count_bytes (lengths runs)) (runs_of mark (kinds_of f) runs) (2 * f.runs) counts_long

    pub whole : mark_of b ≡ mark → Each (Fine s f.layout.limit) runs → sharing runs ≡ false → Clear (form_refusals f b)
    unfolding form_refusals
    whole m d o =
        let ns = form_counts f b in
        let c : all_within f.layout.limit ns ≡ true = ap (all_within f.layout.limit) counts_back ∙ all_within_lem s f.layout.limit runs d in
        let p : size_of f ns ≡ length b = ap (size_of f) counts_back ∙ sym size in
        let e : applies (ltb (size_of f ns) (length b)) 13 ≡ 0 = rw (le-ltb (size_of f ns) (length b) (omega arith)) in
        let g : applies (sharing (form_entries f b)) 14 ≡ 0 = ap (λ (x : List (List Entry)). applies (sharing x) 14) back ∙ rw o in
        let r : Clear (runs_refusals mark s (start_size f) (kinds_of f) ns (drop (start_size f) b)) =
        subst (λ (m : List ℕ). Clear (runs_refusals mark s (start_size f) (kinds_of f) m (drop (start_size f) b))) (sym counts_back)
        (subst (λ (x : List ℕ). Clear (runs_refusals mark s (start_size f) (kinds_of f) (lengths runs) x)) (sym dropped)
        (runs_accept mark s [] f.layout.limit (kinds_of f) runs as_kinds kinds d (start_size f))) in
        rw m (
          record_zero mark f.start b (all_within f.layout.limit ns) (2 * f.runs) k.start.body start_whole c,
          clear_both (runs_refusals mark s (start_size f) (kinds_of f) ns (drop (start_size f) b)) (trailing (size_of f ns) b ∷ overlap
              (form_entries f b) ∷ []) r (e, (g, tt)),
        )
