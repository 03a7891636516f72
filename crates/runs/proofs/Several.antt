-- Runs one behind the other: what is accepted is the runs of its entries, and the runs of sound entries are accepted.
use Prim.Native.Nat.{ℕ, suc, ◌+◌, ◌*◌, ◌≤◌}
use mathlib.Core.List.{List, [], ◌∷◌, ◌++◌, append_assoc}
use mathlib.Core.Bool.{true}
use mathlib.Core.Option.{none}
use mathlib.Core.Path.{◌≡◌, refl, sym, subst, ap, ap₂, ◌∙◌}
use native.Mathlib.Omega.{arith}
use native.Mathlib.Nat.{mul-zero, mul-add}
use lib.Dec.{leb}
use lib.ListN.{length, drop, length-append, length-drop}
use lib.Seq.{drop-drop, drop_at}
use borrow.Author.Tests.{leb-true, le-leb}
use Rattle.entries.specs.Entries.{Each, Entry, Sound}
use Rattle.entries.proofs.Values.{and_true}
use Rattle.answers.specs.Answers.{Clear}
use Rattle.blocks.specs.Blocks.{words_of, Lent, Shaped}
use Rattle.blocks.proofs.Judging.{sound_true, true_sound}
use Rattle.numbers.specs.Numbers.{Bytes}
use Rattle.records.specs.Records.{all_within}
use Rattle.records.specs.Steps.{ItemKind}
use Rattle.answers.proofs.Turns.{clear_both, clear_split}
use Rattle.runs.specs.Runs.{Fine, run_of, entries_in, run_refusals, total, lengths, runs_of, runs_in, runs_refusals}
use Rattle.runs.proofs.Running.{bytes_drop, length_entries, entries_shaped, entries_lent, run_inv, run_accept}
use Rattle.runs.proofs.Running.{run_back, length_run}

pub shapes : (s limit : ℕ) (runs : List (List Entry)) → Each (Fine s limit) runs → Each (Shaped s) runs
shapes s limit [] e = tt
shapes s limit (es ∷ runs) e = (e.0.shaped, shapes s limit runs e.1)

pub many_lengths : {A : Type 0} (xs : List (List A)) → length (lengths xs) ≡ length xs
many_lengths [] = refl
many_lengths (x ∷ xs) = ap suc (many_lengths xs)

pub all_within_lem : (s limit : ℕ) (runs : List (List Entry)) → Each (Fine s limit) runs → all_within limit (lengths runs) ≡ true
all_within_lem s limit [] e = refl
all_within_lem s limit (es ∷ runs) e = rw (le-leb (length es) limit e.0.within) (all_within_lem s limit runs e.1)

module _ (mark s : ℕ) where
  abbrev step : ℕ
  step = 8 * s + 5

  pub record RunsAt (kinds counts b : List ℕ) : Type 0 where
    pub bytes : b ≡ runs_of mark kinds (runs_in s kinds counts b) ++ drop (step * total counts) b
    pub sound : Each (λ es. Sound es) (runs_in s kinds counts b)
    pub long : step * total counts ≤ length b

  pub runs_inv : (kinds counts : List ℕ) → length counts ≡ length kinds → Each (λ k. ItemKind k s) kinds → (p : ℕ) (b : List ℕ) → Bytes b
      → Clear (runs_refusals mark s p kinds counts b) → RunsAt kinds counts b
  unfolding runs_refusals runs_of runs_in
  runs_inv [] [] l h p b y c =
      let z = mul-zero step in
      record { bytes = sym (ap (λ (j : ℕ). drop j b) z); sound = tt; long = omega arith }
  runs_inv [] (n ∷ ns) l h p b y c = absurd (omega arith)
  runs_inv (k ∷ ks) [] l h p b y c = absurd (omega arith)
  runs_inv (k ∷ ks) (n ∷ ns) l h p b y c =
      let d = drop (step * n) b in
      let t = clear_split (run_refusals mark k s n p none b) (runs_refusals mark s (p + step * n) ks ns d) c in
      let r = run_inv mark k s h.0 n p none b y t.0 in
      let q = runs_inv ks ns (omega arith) h.1 (p + step * n) d (bytes_drop (step * n) b y) t.1 in
      let u : step * n + step * total ns ≡ step * (n + total ns) = sym (mul-add step n (total ns)) in
      let last : drop (step * total ns) d ≡ drop (step * (n + total ns)) b = drop-drop (step * total ns) (step * n) b ∙ ap (λ (j : ℕ). drop j b) u in
      let x = run_of mark k (entries_in k s n b) in
      let z = runs_of mark ks (runs_in s ks ns d) in
      record {
        bytes = r.bytes ∙ ap (λ (l : List ℕ). x ++ l) (q.bytes ∙ ap (λ (l : List ℕ). z ++ l) last) ∙ sym (append_assoc x z (drop (step *
            (n + total ns)) b));
        sound = (sound_true (entries_in k s n b) r.sound, q.sound);
        long = omega (arith, r.long, q.long, length-drop (step * n) b, u);
      }

  pub counts_in_lem : (kinds counts b : List ℕ) → length counts ≡ length kinds → lengths (runs_in s kinds counts b) ≡ counts
  unfolding runs_in
  counts_in_lem [] [] b l = refl
  counts_in_lem [] (n ∷ ns) b l = absurd (omega arith)
  counts_in_lem (k ∷ ks) [] b l = absurd (omega arith)
  counts_in_lem (k ∷ ks) (n ∷ ns) b l = ap₂ ◌∷◌ (length_entries k s n b) (counts_in_lem ks ns (drop (step * n) b) (omega arith))

  pub runs_fine : (kinds counts b : List ℕ) (limit : ℕ) → 2 ≤ s → Each (λ es. Sound es) (runs_in s kinds counts b) → all_within limit counts ≡ true
      → Each (Fine s limit) (runs_in s kinds counts b)
  unfolding runs_in
  runs_fine [] ns b limit h d w = tt
  runs_fine (k ∷ ks) [] b limit h d w = tt
  runs_fine (k ∷ ks) (n ∷ ns) b limit h d w =
      let t = and_true (leb n limit) (all_within limit ns) w in (
        record { sound = d.0; shaped = entries_shaped k s n b h; within = omega (arith, leb-true n limit t.0, length_entries k s n b) },
        runs_fine ks ns (drop (step * n) b) limit h d.1 t.1,
      )

  pub runs_lent : (kinds counts b : List ℕ) → Bytes b → 2 ≤ s → Each (λ es. Lent (words_of es)) (runs_in s kinds counts b)
  unfolding runs_in
  runs_lent [] ns b y h = tt
  runs_lent (k ∷ ks) [] b y h = tt
  runs_lent (k ∷ ks) (n ∷ ns) b y h = (entries_lent k s n b y h, runs_lent ks ns (drop (step * n) b) (bytes_drop (step * n) b y) h)

  -- the bytes of runs
  module _ (rest : List ℕ) where
    abbrev laid : List ℕ → List (List Entry) → List ℕ
    laid kinds runs = runs_of mark kinds runs ++ rest

    module _ (k : ℕ) (ks : List ℕ) (es : List Entry) (runs : List (List Entry)) (i : ItemKind k s) (h : Shaped s es) where
      taken : run_of mark k es ++ runs_of mark ks runs ++ rest ≡ run_of mark k es ++ laid ks runs
      taken = append_assoc (run_of mark k es) (runs_of mark ks runs) rest

      behind : drop (step * length es) (run_of mark k es ++ laid ks runs) ≡ laid ks runs
      behind = drop_at (run_of mark k es) (laid ks runs) (step * length es) (length_run mark k s i es h)

    pub runs_back : (kinds : List ℕ) (runs : List (List Entry)) → length runs ≡ length kinds → Each (λ k. ItemKind k s) kinds → Each (Shaped s) runs
        → runs_in s kinds (lengths runs) (laid kinds runs) ≡ runs
    unfolding runs_in runs_of
    runs_back [] [] l i h = refl
    runs_back [] (es ∷ runs) l i h = absurd (omega arith)
    runs_back (k ∷ ks) [] l i h = absurd (omega arith)
    runs_back (k ∷ ks) (es ∷ runs) l i h =
        ap (λ (y : List ℕ). entries_in k s (length es) y ∷ runs_in s ks (lengths runs) (drop (step * length es) y)) (taken k ks es runs i.0 h.0)
        ∙ ap₂ ◌∷◌ (run_back mark k s i.0 es (laid ks runs) h.0)
        (ap (runs_in s ks (lengths runs)) (behind k ks es runs i.0 h.0) ∙ runs_back ks runs (omega arith) i.1 h.1)

    pub runs_accept : (limit : ℕ) (kinds : List ℕ) (runs : List (List Entry)) → length runs ≡ length kinds → Each (λ k. ItemKind k s) kinds
        → Each (Fine s limit) runs → (p : ℕ) → Clear (runs_refusals mark s p kinds (lengths runs) (laid kinds runs))
    unfolding runs_refusals runs_of
    runs_accept limit [] [] l i h p = tt
    runs_accept limit [] (es ∷ runs) l i h p = absurd (omega arith)
    runs_accept limit (k ∷ ks) [] l i h p = absurd (omega arith)
    runs_accept limit (k ∷ ks) (es ∷ runs) l i h p =
        let n = length es in
        let f = h.0 in
        let y = run_of mark k es ++ laid ks runs in
        let c = run_accept mark k s i.0 p none es (laid ks runs) f.shaped (true_sound es f.sound) in
        let d = runs_accept limit ks runs (omega arith) i.1 h.1 (p + step * n) in
        subst (λ (y : List ℕ). Clear (run_refusals mark k s n p none y ++ runs_refusals mark s (p + step * n) ks (lengths runs) (drop (step * n) y)))
        (sym (taken k ks es runs i.0 f.shaped))
        (clear_both (run_refusals mark k s n p none y) (runs_refusals mark s (p + step * n) ks (lengths runs) (drop (step * n) y)) c
        (subst (λ (y : List ℕ). Clear (runs_refusals mark s (p + step * n) ks (lengths runs) y)) (sym (behind k ks es runs i.0 f.shaped)) d))

  pub length_runs : (kinds : List ℕ) (runs : List (List Entry)) → length runs ≡ length kinds → Each (λ k. ItemKind k s) kinds → Each (Shaped s) runs
      → length (runs_of mark kinds runs) ≡ step * total (lengths runs)
  unfolding runs_of
  length_runs [] [] l i h = sym (mul-zero step)
  length_runs [] (es ∷ runs) l i h = absurd (omega arith)
  length_runs (k ∷ ks) [] l i h = absurd (omega arith)
  length_runs (k ∷ ks) (es ∷ runs) l i h =
      length-append (run_of mark k es) (runs_of mark ks runs)
      ∙ omega (arith, length_run mark k s i.0 es h.0, length_runs ks runs (omega arith) i.1 h.1, mul-add step (length es) (total (lengths runs)))
