-- A form as the code goes through it: its start, a run, and a second run, which is empty where the form has one.
use Prim.Native.Nat.{ℕ, ◌+◌, ◌*◌, ◌<◌, ◌≤◌}
use mathlib.Core.List.{List, [], ◌∷◌, ◌++◌, append_assoc, append-nil}
use mathlib.Core.Bool.{Bool, true, false}
use mathlib.Core.Option.{none}
use mathlib.Core.Path.{◌≡◌, refl, sym, subst, ap, ap₂, ◌∙◌}
use native.Mathlib.Omega.{arith}
use native.Mathlib.Nat.{mul-add}
use lib.Dec.{ltb}
use lib.ListN.{length, take, drop}
use lib.Seq.{drop-drop}
use borrow.Author.Tests.{lt-ltb, le-ltb, eq-eqb, ne_eqb}
use Rattle.std.specs.Prelude.{Result, Ok, Err, IsErrAnd}
use Rattle.entries.specs.Entries.{Entry}
use Rattle.entries.specs.Bulletins.{shareb}
use Rattle.answers.specs.Answers.{at, applies, Clear, Finding}
use Rattle.answers.specs.Says.{at_place}
use Rattle.answers.specs.Steps.{FirstOf}
use Rattle.answers.specs.declared.Reason.{Reason}
use Rattle.answers.specs.declared.Reason.TheVariants.{Trailing, Overlap}
use Rattle.answers.specs.declared.Refusal.{Refusal}
use Rattle.answers.proofs.Turns.{stops, passes, ends, stops_in, passes_in, clear_turn}
use Rattle.blocks.specs.Blocks.{set_layout}
use Rattle.blocks.specs.declared.Layout.{Layout}
use Rattle.blocks.proofs.Judging.{sound_true}
use Rattle.checks.specs.Check.{old_mark, new_mark}
use Rattle.numbers.specs.Numbers.{Bytes, num2, counts_in}
use Rattle.records.specs.Records.{all_within, start_verdict}
use Rattle.records.specs.Reads.{second_count, read_as}
use Rattle.records.proofs.Answers.{was_ok, was_err}
use Rattle.records.proofs.Heads.{record_inv, record_small}
use Rattle.runs.specs.Runs.{entries_in, run_refusals, total, runs_in, runs_refusals}
use Rattle.runs.specs.Steps.{RunPassed}
use Rattle.runs.proofs.Running.{bytes_drop, run_inv}
use Rattle.verdicts.specs.declared.Form.{Form}
use Rattle.verdicts.specs.Forms.{mark_of, kinds_of, start_size, size_of, form_counts, form_entries, sharing, trailing, overlap, form_refusals}
use Rattle.verdicts.specs.Steps.{Shape, lone, pair, FormKind, each_of, item_size, second_at, runs_here, behind_start, OneRun}

-- one run or two: over the number of runs r and the layout l
two_refusals_lem : (mark : ℕ) (l : Layout) (r a c p : ℕ) (b d : List ℕ) → Shape r l
    → (let step = 8 * l.width + 5 in
    runs_refusals mark l.width p (take r (a ∷ c ∷ [])) (counts_in r b 3) d
    ≡ run_refusals mark a l.width (num2 b 3) p none d
    ++ run_refusals mark c l.width (second_count r b) (p + step * num2 b 3) none (drop (step * num2 b 3) d))
unfolding runs_refusals run_refusals
two_refusals_lem mark l r a c p b d lone = refl
two_refusals_lem mark l r a c p b d pair =
    ap (λ (x : List Finding). run_refusals mark a 2 (num2 b 3) p none d ++ x)
    (append-nil (run_refusals mark c 2 (num2 b 5) (p + 21 * num2 b 3) none (drop (21 * num2 b 3) d)))

two_runs : (l : Layout) (r a c : ℕ) (b d : List ℕ) → Shape r l
    → runs_in l.width (take r (a ∷ c ∷ [])) (counts_in r b 3) d
    ≡ take r (entries_in a l.width (num2 b 3) d ∷ entries_in c l.width (second_count r b) (drop ((8 * l.width + 5) * num2 b 3) d) ∷ [])
unfolding runs_in
two_runs l r a c b d lone = refl
two_runs l r a c b d pair = refl

two_counts_lem : (r : ℕ) (l : Layout) (b : List ℕ) → Shape r l → total (counts_in r b 3) ≡ num2 b 3 + second_count r b
two_counts_lem r l b lone = refl
two_counts_lem r l b pair = omega arith

pub one_run : (r : ℕ) (x y : List Entry) → r ≡ 1 → sharing (take r (x ∷ y ∷ [])) ≡ false
one_run r x y e = rw e

pub not_one : (r : ℕ) (l : Layout) → Shape r l → (r ≡ 1 → ⊥) → (r ≡ 2) × (l ≡ set_layout)
not_one r l lone n = absurd (n refl)
not_one r l pair n = (refl, refl)

not_two : (r : ℕ) (l : Layout) → Shape r l → (r ≡ 2 → ⊥) → r ≡ 1
not_two r l lone n = refl
not_two r l pair n = absurd (n refl)

-- no refusal applies
clear_first : (fs : List Finding) → Clear fs → FirstOf fs (Ok tt)
clear_first fs c = record { turn = λ lent x. sym (clear_turn fs lent x c); clear = c }

-- a refusal that is handed on
pub failed : (fs : List Finding) (r : Result (Unit {0}) Refusal) (e : Refusal) → IsErrAnd r (λ d. d ≡ e) → FirstOf fs (Err e) → FirstOf fs r
failed fs (Ok u) e h g = absurd h
failed fs (Err d) e h g = rw h g

-- the mark: the first two bytes are the old one, or are not; a single byte is not
pub is_old : (b : List ℕ) → num2 b 0 ≡ old_mark → old_mark ≡ mark_of b
unfolding mark_of
is_old b e = rw (eq-eqb (num2 b 0) old_mark e)

pub is_new : (b : List ℕ) → (num2 b 0 ≡ old_mark → ⊥) → new_mark ≡ mark_of b
unfolding mark_of
is_new b n = rw (ne_eqb (num2 b 0) old_mark n)

pub too_short : (b : List ℕ) → length b < 2 → num2 b 0 ≡ old_mark → ⊥
too_short [] h e = omega arith
too_short (x ∷ []) h e = omega arith
too_short (x ∷ y ∷ b) h e = omega arith

module _ (f : Form) (k : FormKind f) (b : List ℕ) where
  abbrev n₀ : ℕ
  n₀ = num2 b 3

  abbrev m₀ : ℕ
  m₀ = second_count f.runs b

  pub entries_here : form_entries f b ≡ runs_here f n₀ m₀ b
  unfolding form_entries
  entries_here =
      two_runs f.layout f.runs f.first f.second b (drop (start_size f) b) k.shape
      ∙ ap (λ (x : List ℕ). each_of f (entries_in f.first f.layout.width n₀ (drop (start_size f) b)) (entries_in f.second f.layout.width m₀ x))
      (drop-drop (item_size f * n₀) (start_size f) b)

  pub size_here : size_of f (form_counts f b) ≡ second_at f n₀ + item_size f * m₀
  size_here =
      ap (λ (t : ℕ). start_size f + item_size f * t) (two_counts_lem f.runs f.layout b k.shape) ∙ omega (arith, mul-add (item_size f) n₀ m₀)

  behind_start_lem : form_refusals f b ≡ at 0 (start_verdict (mark_of b) f.start f.runs f.layout.limit b) ∷ behind_start (mark_of b) f n₀ m₀ b
  unfolding form_refusals
  behind_start_lem =
      let A = run_refusals (mark_of b) f.first f.layout.width n₀ (start_size f) none (drop (start_size f) b) in
      let B = run_refusals (mark_of b) f.second f.layout.width m₀ (second_at f n₀) none (drop (second_at f n₀) b) in
      let E = trailing (second_at f n₀ + item_size f * m₀) b ∷ overlap (runs_here f n₀ m₀ b) ∷ [] in
      let runs : runs_refusals (mark_of b) f.layout.width (start_size f) (kinds_of f) (form_counts f b) (drop (start_size f) b) ≡ A ++ B =
      two_refusals_lem (mark_of b) f.layout f.runs f.first f.second (start_size f) b (drop (start_size f) b) k.shape
      ∙ ap (λ (x : List ℕ). A ++ run_refusals (mark_of b) f.second f.layout.width m₀ (second_at f n₀) none x) (drop-drop (item_size f * n₀)
      (start_size f) b) in
      let ends : trailing (size_of f (form_counts f b)) b ∷ overlap (form_entries f b) ∷ [] ≡ E =
      ap₂ (λ (p : ℕ) (es : List (List Entry)). trailing p b ∷ overlap es ∷ []) size_here entries_here in
      ap (λ (l : List Finding). at 0 (start_verdict (mark_of b) f.start f.runs f.layout.limit b) ∷ l) (ap₂ ◌++◌ runs ends ∙ append_assoc A B E)

  -- by the answer of the start, which was read with the mark of the bytes
  module _ (mark : ℕ) (q : mark ≡ mark_of b) (a : Result (ℕ × ℕ) Reason)
      (e : a ≡ read_as (start_verdict mark f.start f.runs f.layout.limit b) (n₀, m₀)) where
    abbrev due : ℕ
    due = start_verdict (mark_of b) f.start f.runs f.layout.limit b

    e' : a ≡ read_as due (n₀, m₀)
    e' = e ∙ ap (λ (i : ℕ). read_as (start_verdict i f.start f.runs f.layout.limit b) (n₀, m₀)) q

    pub start_bad : (r : Reason) → a ≡ Err r → FirstOf (form_refusals f b) (Err (at_place r 0))
    start_bad r g =
        subst (λ (l : List Finding). FirstOf l (Err (at_place r 0))) (sym behind_start_lem)
        (stops r (at_place r 0) due 0 (behind_start (mark_of b) f n₀ m₀ b) refl
        (was_err due r _ (record_small (mark_of b) f.start b (all_within f.layout.limit (form_counts f b))) (sym g ∙ e')))

    module _ (n m : ℕ) (g : a ≡ Ok (n, m)) where
      t : (due ≡ 0) × ◌≡◌ {A = ℕ × ℕ} (n, m) (n₀, m₀)
      t = was_ok due (n, m) (n₀, m₀) (sym g ∙ e')

      pub start_fits : start_size f ≤ length b
      start_fits = (record_inv (mark_of b) f.start b (all_within f.layout.limit (form_counts f b)) (2 * f.runs) k.start.body t.0).0.long

      pub start_passed : (r : Result (Unit {0}) Refusal) → FirstOf (behind_start mark f n m b) r → FirstOf (form_refusals f b) r
      start_passed r h =
          let u : behind_start mark f n m b ≡ behind_start (mark_of b) f n₀ m₀ b =
          rw q (ap (λ (c : ℕ × ℕ). behind_start (mark_of b) f c.0 c.1 b) t.1) in
          subst (λ (l : List Finding). FirstOf l r) (sym behind_start_lem)
          (passes due 0 (behind_start (mark_of b) f n₀ m₀ b) r t.0 (subst (λ (l : List Finding). FirstOf l r) u h))

-- the first refusal behind the start, by what was judged of the runs
module _ (mark : ℕ) (f : Form) (n m : ℕ) (b : List ℕ) where
  abbrev A : List Finding
  A = run_refusals mark f.first f.layout.width n (start_size f) none (drop (start_size f) b)

  abbrev B : List Finding
  B = run_refusals mark f.second f.layout.width m (second_at f n) none (drop (second_at f n) b)

  abbrev behind : ℕ
  behind = second_at f n + item_size f * m

  abbrev E : List Finding
  E = trailing behind b ∷ overlap (runs_here f n m b) ∷ []

  pub first_bad : (e : Refusal) → FirstOf A (Err e) → FirstOf (behind_start mark f n m b) (Err e)
  first_bad e g = stops_in A (B ++ E) e g

  module _ (p : ℕ) (x : RunPassed mark f.first f.layout.width n (start_size f) b p) where
    pub second_bad : (e : Refusal) → FirstOf (run_refusals mark f.second f.layout.width m p none (drop p b)) (Err e)
        → FirstOf (behind_start mark f n m b) (Err e)
    second_bad e g =
        passes_in A (B ++ E) tt (Err e) (clear_first A x.clear)
        (stops_in B E e (subst (λ (i : ℕ). FirstOf (run_refusals mark f.second f.layout.width m i none (drop i b)) (Err e)) x.behind g))

    module _ (q : ℕ) (y : RunPassed mark f.second f.layout.width m p b q) where
      place : q ≡ behind
      place = y.behind ∙ ap (λ (i : ℕ). i + item_size f * m) x.behind

      runs_passed : (r : Result (Unit {0}) Refusal) → FirstOf E r → FirstOf (behind_start mark f n m b) r
      runs_passed r e =
          passes_in A (B ++ E) tt r (clear_first A x.clear)
          (passes_in B E tt r
          (clear_first B (subst (λ (i : ℕ). Clear (run_refusals mark f.second f.layout.width m i none (drop i b))) x.behind y.clear)) e)

      pub trails : q < length b → FirstOf (behind_start mark f n m b) (Err (at_place Trailing q))
      trails l =
          runs_passed (Err (at_place Trailing q))
          (stops Trailing (at_place Trailing q) (applies (ltb behind (length b)) 13) behind (overlap (runs_here f n m b) ∷ []) (ap (at_place Trailing) place)
          (rw (lt-ltb behind (length b) (omega (arith, place))) refl))

      -- nothing trails: 14 or nothing
      last_is : length b ≤ q → (r : Result (Unit {0}) Refusal) → FirstOf (overlap (runs_here f n m b) ∷ []) r → FirstOf (behind_start mark f n m b) r
      last_is l r g =
          runs_passed r (passes (applies (ltb behind (length b)) 13) behind (overlap (runs_here f n m b) ∷ []) r
          (rw (le-ltb behind (length b) (omega (arith, place))) refl) g)

      pub lone_run : length b ≤ q → FormKind f → (f.runs ≡ 2 → ⊥) → FirstOf (behind_start mark f n m b) (Ok tt)
      lone_run l k h =
          last_is l (Ok tt) (ends (applies (sharing (runs_here f n m b)) 14) 0
          (ap (λ (t : Bool). applies t 14) (one_run f.runs _ _ (not_two f.runs f.layout k.shape h))))

      -- a second run: it and the first are sound ranges in the bytes
      pub to_share : FormKind f → Bytes b → f.runs ≡ 2 → OneRun f.first (start_size f) n b × OneRun f.second p m b
      to_share k u two =
          let nz : f.runs ≡ 1 → ⊥ = λ z. omega arith in
          let t : f.layout.width ≡ 2 = ap (λ (l : Layout). l.width) (not_one f.runs f.layout k.shape nz).1 in
          let i = run_inv mark f.first f.layout.width k.first n (start_size f) none (drop (start_size f) b) (bytes_drop (start_size f) b u) x.clear in
          let j = run_inv mark f.second f.layout.width k.second m p none (drop p b) (bytes_drop p b u) y.clear in (
            record {
              held = rw t at (subst (λ (i : ℕ). i ≤ length b) x.behind x.within);
              sound = rw t at (sound_true (entries_in f.first f.layout.width n (drop (start_size f) b)) i.sound);
              plain = (k.plain nz).0;
            },
            record {
              held = rw t at (subst (λ (i : ℕ). i ≤ length b) y.behind y.within);
              sound = rw t at (sound_true (entries_in f.second f.layout.width m (drop p b)) j.sound);
              plain = (k.plain nz).1;
            },
          )

      module _ (l : length b ≤ q) (k : FormKind f) (two : f.runs ≡ 2) (t : Bool)
          (e : t ≡ shareb (entries_in f.first 2 n (drop (start_size f) b)) (entries_in f.second 2 m (drop p b))) where
        shared_is : sharing (runs_here f n m b) ≡ t
        shared_is =
            let w = not_one f.runs f.layout k.shape (λ z. omega arith) in
            sym (e ∙ go f.runs f.layout.width w.0 (ap (λ (l : Layout). l.width) w.1) p (second_at f n) x.behind)
          where
            go : (r s : ℕ) → r ≡ 2 → s ≡ 2 → (p q : ℕ) → p ≡ q
                → shareb (entries_in f.first 2 n (drop (start_size f) b)) (entries_in f.second 2 m (drop p b))
                ≡ sharing (take r (entries_in f.first s n (drop (start_size f) b) ∷ entries_in f.second s m (drop q b) ∷ []))
            go r s a c p q d = rw (a, c, d)

        pub overlapping : t ≡ true → FirstOf (behind_start mark f n m b) (Err (at_place Overlap 0))
        overlapping h =
            last_is l (Err (at_place Overlap 0)) (stops Overlap (at_place Overlap 0) (applies (sharing (runs_here f n m b)) 14) 0 [] refl
            (sym (ap (λ (u : Bool). applies u 14) (shared_is ∙ h))))

        pub all_apart : t ≡ false → FirstOf (behind_start mark f n m b) (Ok tt)
        all_apart h =
            last_is l (Ok tt) (ends (applies (sharing (runs_here f n m b)) 14) 0 (ap (λ (u : Bool). applies u 14) (shared_is ∙ h)))
