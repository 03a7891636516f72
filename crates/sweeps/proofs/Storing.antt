-- Items of words that change: the last one raised, one laid behind, the count set, zeros behind.
use mathlib.Core.Path.{◌≡◌, refl, sym, ◌∙◌, ap, ap₂}
use mathlib.Core.Bool.{Bool, true, false}
use mathlib.Core.List.{List, [], ◌∷◌, ◌++◌}
use Prim.Native.Nat.{ℕ, zero, suc, ◌+◌, ◌*◌, ◌-◌, ◌≤◌, ◌<◌, min}
use native.Mathlib.Omega.{arith}
use native.Mathlib.Nat.{mul-suc, mul-zero}
use lib.ListN.{length, get_or, set, drop, length-set, take-append-drop}
use lib.Seq.{get_or-set_same, get_or-set_other}
use Rattle.entries.specs.Entries.{Value, Entry, entry}
use Rattle.entries.specs.Build.{pick}
use Rattle.blocks.specs.Blocks.{items_of, block_of}
use Rattle.blocks.specs.Steps.{item_from, Cleared}
use Rattle.blocks.proofs.Moves.{part_eq, splice_entries}
use Rattle.blocks.proofs.Tests.{le_mul}
use Rattle.sweeps.specs.Sweeps.{bit}
use Rattle.sweeps.specs.Cursors.{items, value_of, raise, grow, Addable, Holds, Laid, Stored}
use Rattle.sweeps.specs.declared.Words.{Words}
use Rattle.sweeps.proofs.Runs.{items_are}
use Rattle.sweeps.proofs.Segments.{words_two, words_three, words_four}
use Rattle.sweeps.proofs.Growing.{raise_snoc}

entry_path : (e f : Entry) → e.low ≡ f.low → e.high ≡ f.high → e.value ≡ f.value → e ≡ f
entry_path e f p q r = λ i. record { low = p i; high = q i; value = r i }

module _ (s : ℕ) (two : 2 ≤ s) where
  items_agree : (o d : List ℕ) (n p q : ℕ) → q ≡ p + s * n → q ≤ length o → q ≤ length d → ((j : ℕ) → p ≤ j → j < q → get_or o j 0 ≡ get_or d j 0)
      → items s n p o ≡ items s n p d
  items_agree o d zero p q e a b h = refl
  items_agree o d (suc n) p q e a b h =
      let k : q ≡ p + s + s * n = omega (arith, mul-suc s n) in
      ap₂ ◌∷◌ (entry_path _ _ (h p (omega arith) (omega arith)) (h (p + 1) (omega arith) (omega arith))
      (part_eq o d (p + 2) (p + 2) (s - 2) (omega arith) (omega arith) (λ i l. h (p + 2 + i) (omega arith) (omega arith))))
      (items_agree o d n (p + s) q k a b (λ j l m. h j (omega arith) m))

  items_snoc : (w : List ℕ) (n p q : ℕ) → q ≡ p + s * n → items s (suc n) p w ≡ items s n p w ++ item_from s w q ∷ []
  items_snoc w zero p q e = let k : p ≡ q = omega (arith, mul-zero s) in ap (λ (r : ℕ). item_from s w r ∷ []) k
  items_snoc w (suc n) p q e = ap (λ (l : List Entry). item_from s w p ∷ l) (items_snoc w n (p + s) q (omega (arith, mul-suc s n)))

  -- the items before
  laid_none : {w o : List ℕ} {x h : ℕ} {v : Value} (n : ℕ) → 1 + s * n ≤ length w → Laid s w (1 + s * n) x h v o → items s n 1 o ≡ items s n 1 w
  laid_none {w} {o} n r l = items_agree o w n 1 (1 + s * n) refl (omega (arith, l.long)) r (λ j a b. l.kept j b)

  -- an item laid behind
  laid_new : {w o : List ℕ} {x h : ℕ} {v : Value} (n : ℕ) → 1 + s * suc n ≤ length w → Laid s w (1 + s * n) x h v o
      → items s (suc n) 1 o ≡ items s n 1 w ++ entry x h v ∷ []
  laid_new {w} {o} {x} {h} {v} n r l =
      items_snoc o n 1 (1 + s * n) refl
      ∙ ap₂ (λ (a : List Entry) (e : Entry). a ++ e ∷ []) (laid_none n (omega (arith, mul-suc s n)) l) (l.item (omega (arith, mul-suc s n)))

  -- the last item laid again, with its own low end
  laid_over : {w o : List ℕ} {h : ℕ} {v : Value} (n : ℕ) → 1 + s * suc n ≤ length w → Laid s w (1 + s * n) (get_or w (1 + s * n) 0) h v o
      → items s (suc n) 1 o ≡ raise (items s (suc n) 1 w) h v
  laid_over {w} {o} {h} {v} n r l =
      laid_new n r l ∙ sym
      (ap (λ (es : List Entry). raise es h v) (items_snoc w n 1 (1 + s * n) refl) ∙ raise_snoc (items s n 1 w) (item_from s w (1 + s * n)) h v)

-- x as the low end, or in the high end's place, and h as the high end
module _ (d : List ℕ) (q x h : ℕ) (join : Bool) (low : ℕ) (el : low ≡ q + bit join) (room : q + 2 ≤ length d) where
  abbrev ends : List ℕ
  ends = set (set d low x) (q + 1) h

  ends_kept : (j : ℕ) → j < q → get_or ends j 0 ≡ get_or d j 0
  ends_kept j l = get_or-set_other (set d low x) (q + 1) j h 0 (omega arith) ∙ get_or-set_other d low j x 0 (omega arith)

  ends_low : get_or ends q 0 ≡ pick join (get_or d q 0) x
  ends_low = get_or-set_other (set d low x) (q + 1) q h 0 (omega arith) ∙ ap (λ (i : ℕ). get_or (set d i x) q 0) el ∙ go join
    where
      go : (t : Bool) → get_or (set d (q + bit t) x) q 0 ≡ pick t (get_or d q 0) x
      go true = get_or-set_other d (q + 1) q x 0 (omega arith)
      go false = let k : q + 0 ≡ q = omega arith in rw k (get_or-set_same d q x 0 (omega arith))

  ends_high : get_or ends (q + 1) 0 ≡ h
  ends_high = get_or-set_same (set d low x) (q + 1) h 0 (simp length-set (omega arith))

module _ (s : ℕ) (d : List ℕ) (q x h : ℕ) (join : Bool) (low : ℕ) (el : low ≡ q + bit join) (v : Words) (two : 2 ≤ s) (room : q + s ≤ length d) where
  has_two : q + 2 ≤ length d
  has_two = omega arith

  abbrev both : List ℕ
  both = set (set d low x) (q + 1) h

  pub lay_two : s ≡ 2 → Laid s d q (pick join (get_or d q 0) x) h (value_of s v) both
  lay_two e = record {
    long = simp length-set;
    kept = ends_kept d q x h join low el has_two;
    item =
        λ fits. entry_path (item_from s both q) (entry (pick join (get_or d q 0) x) h (value_of s v)) (ends_low d q x h join low el has_two)
        (ends_high d q x h join low el has_two)
        (sym (words_two s v both (q + 2) e));
  }

  abbrev third : List ℕ
  third = set both (q + 2) v.first

  pub lay_three : s ≡ 3 → Laid s d q (pick join (get_or d q 0) x) h (value_of s v) third
  lay_three e = record {
    long = simp length-set;
    kept = λ j l. get_or-set_other both (q + 2) j v.first 0 (omega arith) ∙ ends_kept d q x h join low el has_two j l;
    item = λ fits. entry_path (item_from s third q) (entry (pick join (get_or d q 0) x) h (value_of s v))
        (get_or-set_other both (q + 2) q v.first 0 (omega arith) ∙ ends_low d q x h join low el has_two)
        (get_or-set_other both (q + 2) (q + 1) v.first 0 (omega arith) ∙ ends_high d q x h join low el has_two)
        (sym (words_three s v third (q + 2) e (simp length-set (omega arith)) (sym (get_or-set_same both (q + 2) v.first 0 (simp length-set (omega arith))))));
  }

  abbrev fourth : List ℕ
  fourth = set third (q + 3) v.second

  pub lay_four : s ≡ 4 → Laid s d q (pick join (get_or d q 0) x) h (value_of s v) fourth
  lay_four e = record {
    long = simp length-set;
    kept =
        λ j l. get_or-set_other third (q + 3) j v.second 0 (omega arith) ∙ get_or-set_other both (q + 2) j v.first 0 (omega arith)
        ∙ ends_kept d q x h join low el has_two j l;
    item = λ fits. entry_path (item_from s fourth q) (entry (pick join (get_or d q 0) x) h (value_of s v))
        (get_or-set_other third (q + 3) q v.second 0 (omega arith) ∙ get_or-set_other both (q + 2) q v.first 0 (omega arith)
        ∙ ends_low d q x h join low el has_two)
        (get_or-set_other third (q + 3) (q + 1) v.second 0 (omega arith) ∙ get_or-set_other both (q + 2) (q + 1) v.first 0 (omega arith)
        ∙ ends_high d q x h join low el has_two)
        (sym (words_four s v fourth (q + 2) e (simp length-set (omega arith))
        (sym (get_or-set_other third (q + 3) (q + 2) v.second 0 (omega arith) ∙ get_or-set_same both (q + 2) v.first 0 (simp length-set (omega arith))))
        (sym (let k : q + 2 + 1 ≡ q + 3 = omega arith in ap (λ (i : ℕ). get_or fourth i 0) k
        ∙ get_or-set_same third (q + 3) v.second 0 (simp length-set (omega arith))))));
  }

-- a segment added to the items
pub added : (keep inside join : Bool) (s n x h : ℕ) (v : Value) (d o : List ℕ) (k r : ℕ) → Addable keep s n inside join (length d) → k ≡ n - bit join
    → r ≡ k + bit inside
    → Stored keep s d k join x h v o → Holds keep s r o (grow inside join (items s n 1 d) x h v)
added false inside join s n x h v d o k r g ek er st = tt
added true false true s n x h v d o k r g ek er st = absurd (omega (arith, g.goes_on))
added true false false s n x h v d o k r g ek er st =
    let a : k ≡ n = omega arith in
    let b : r ≡ n = omega arith in
    let c : n + 0 ≡ n = omega arith in
    rw b (laid_none s g.two n (rw c at g.room) (rw a at st))
added true true false s n x h v d o k r g ek er st =
    let a : k ≡ n = omega arith in
    let b : r ≡ suc n = omega arith in
    let c : n + 1 ≡ suc n = omega arith in
    rw b (laid_new s g.two n (rw c at g.room) (rw a at st))
added true true true s n x h v d o k r g ek er st =
    let a : n ≡ suc k = omega (arith, g.from_one) in
    let b : r ≡ suc k = omega arith in
    let c : n + 0 ≡ suc k = omega arith in
    rw (b, a) (laid_over s g.two k (rw c at g.room) st)

-- room for all that is listed: the count stops at none
pub all_met : (s l r len : ℕ) → 2 ≤ s → 1 + s * l ≤ len → r ≡ min l len → (l < len) × (1 + s * r ≤ len)
all_met s l r len two h e =
    let k = le_mul s l two in
    let f : r ≡ l = omega arith in
    (omega arith, rw f h)

-- n items behind word 0, the count set to n, zeros behind: the block
pub finished : (s : ℕ) → 2 ≤ s → (w o : List ℕ) (n m len : ℕ) (es : List Entry) → length w ≡ len → items s n 1 w ≡ es → m ≡ n → 1 + s * n ≤ len
    → Cleared (set w 0 m) (1 + s * n) o → o ≡ block_of len es
finished s two w o n m len es el e em fits c =
    let room : 1 + s * n ≤ length w = omega arith in
    splice_entries s two w [] n n n 0 room (omega arith) (omega arith) (sym (mul-zero s)) o m (omega arith) (omega (arith, mul-zero s, none))
    (c.same ∙ length-set w 0 m)
    (record {
      head = c.before 0 (omega arith) ∙ get_or-set_same w 0 m 0 (omega arith);
      front = λ k l h. c.before k (omega arith) ∙ get_or-set_other w 0 k m 0 (omega arith);
      new_at = λ k t q l. absurd (omega arith);
      back = λ k q l h j. absurd (omega arith);
      tail = λ k l. c.zero k (omega arith);
    })
    ∙ ap₂ block_of el (take-append-drop n (items_of s n (drop 1 w)) ∙ sym (items_are s n 1 w) ∙ e)
  where
    none : s * (n - n) ≡ 0
    none = let z : n - n ≡ 0 = omega arith in ap (λ (k : ℕ). s * k) z ∙ mul-zero s
