-- The statements of specs/Damage: no form of the new mark differs from another form in one byte; and the first refusal of a form in which
-- an item has another mark is at that item.
use mathlib.Core.Path.{◌≡◌, refl, sym, ◌∙◌, ap, ap₂, subst}
use mathlib.Core.Bool.{Bool, true, false}
use mathlib.Core.Option.{Option, none, some}
use mathlib.Core.List.{List, [], ◌∷◌, ◌++◌, append_assoc}
use Prim.Native.Nat.{ℕ, zero, suc, ◌+◌, ◌-◌, ◌*◌, ◌≤◌, ◌<◌}
use native.Mathlib.Omega.{arith}
use native.Mathlib.Nat.{mul-zero, mul-suc, mul-add, mul-le-mul_left}
use lib.Dec.{ltb, eqb, lit<}
use lib.ListN.{length, get_or, take, drop, set, length-take, length-drop, length-set}
use lib.Seq.{take-set-le, take-set-lt, drop-set-lt, drop-set-add, get_or-set_same, get_or-set_other, get_or-take, get_or-drop, ext_get_or}
use borrow.Author.Tests.{ltb-true, ltb-false, eqb-true, eqb-false}
use Rattle.entries.specs.Entries.{Each, Entry}
use Rattle.answers.specs.Answers.{Outcome, outcome, given, refuse, in_turn, Clear}
use Rattle.answers.specs.Answers.{Finding}
use Rattle.answers.proofs.Turns.{refused≢given, clear_turn, clear_both, clear_split}
use Rattle.blocks.specs.Blocks.{item_of}
use Rattle.numbers.specs.Numbers.{Bytes, num2, num4, words_in, counts_in, count_bytes}
use Rattle.numbers.proofs.Numbers.{num2_drop, counts_drop, counts_bytes}
use Rattle.checks.specs.Check.{old_mark, new_mark, fletcher, crc_bit, crc_byte, crc_from, check_of}
use Rattle.checks.proofs.Changed.{notices}
use Rattle.records.specs.Records.{said, body_length, record_verdict, start_verdict, item_verdict, entry_in, in_order, all_within}
use Rattle.records.specs.Steps.{ItemKind}
use Rattle.records.proofs.Heads.{Whole, kind_body, record_inv, record_zero, front_mark}
use Rattle.runs.specs.Runs.{run_refusals, runs_refusals, total}
use Rattle.runs.proofs.Running.{bytes_drop}
use Rattle.verdicts.specs.declared.Form.{Form}
use Rattle.verdicts.specs.Steps.{FormKind}
use Rattle.verdicts.specs.Forms.{of_set, mark_of, kinds_of, start_size, size_of, form_counts, form_entries, form_refusals}
use Rattle.verdicts.proofs.Whole.{kinds, many_kinds, many_counts, counted}
use Rattle.forms.specs.Calls.{stored_in, read_call}
use Rattle.forms.proofs.Forms.{accepted_size, formed_accepted}
use Rattle.demands.specs.Bytes.{OfFour, is_set, is_map, is_bulletin, is_signed, IsForm}
use Rattle.demands.specs.Damage.{OneByte, OneByteAsked, LaterMark}
use Rattle.demands.proofs.Forms.{kind_of}
use Rattle.demands.proofs.Reading.{no_form, host_refuses}

-- BYTES AS FAR AS A PLACE: c is as long as b, and the same before place m
record Kept (m : ℕ) (b c : List ℕ) : Type 0 where
  long : length c ≡ length b
  same : (i : ℕ) → i < m → get_or c i 0 ≡ get_or b i 0

-- so a change from m on leaves it
kept_set : (m : ℕ) (b : List ℕ) (i v : ℕ) → m ≤ i → Kept m b (set b i v)
kept_set m b i v h = record { long = length-set b i v; same = λ j l. get_or-set_other b i j v 0 (omega arith) }

-- what is read there: numbers, words and counts,
module _ (m : ℕ) (b c : List ℕ) (k : Kept m b c) where
  num2_kept : (q : ℕ) → q + 2 ≤ m → num2 c q ≡ num2 b q
  num2_kept q h = omega (arith, k.same q (omega arith), k.same (q + 1) (omega arith))

  num4_kept : (q : ℕ) → q + 4 ≤ m → num4 c q ≡ num4 b q
  num4_kept q h = omega (arith, num2_kept q (omega arith), num2_kept (q + 2) (omega arith))

  words_kept : (s q : ℕ) → q + 8 * s ≤ m → words_in s c q ≡ words_in s b q
  words_kept zero q h = refl
  words_kept (suc s) q h =
      ap₂ ◌∷◌ (omega (arith, num4_kept q (omega arith), num4_kept (q + 4) (omega arith))) (words_kept s (q + 8) (omega arith))

  counts_kept : (n q : ℕ) → q + 2 * n ≤ m → counts_in n c q ≡ counts_in n b q
  counts_kept zero q h = refl
  counts_kept (suc n) q h = ap₂ ◌∷◌ (num2_kept q (omega arith)) (counts_kept n (q + 2) (omega arith))

  mark_kept : 2 ≤ m → mark_of c ≡ mark_of b
  unfolding mark_of
  mark_kept h = rw (num2_kept 0 h)

-- bytes and a change seen from place m on
drop_set : (m : ℕ) (b : List ℕ) (i v : ℕ) → m ≤ i → drop m (set b i v) ≡ set (drop m b) (i - m) v
drop_set m b i v h =
    let e : i ≡ m + (i - m) = omega arith in
    subst (λ (k : ℕ). drop m (set b k v) ≡ set (drop m b) (i - m) v) (sym e) (drop-set-add m b (i - m) v)

-- a byte is that at a place if it is so before m and from m on
before_or_behind : (m : ℕ) (b : List ℕ) (i v : ℕ) → (i < m → v ≡ get_or b i 0) → (m ≤ i → v ≡ get_or (drop m b) (i - m) 0) → v ≡ get_or b i 0
before_or_behind m b i v near far = go (ltb i m) refl
  where
    go : (t : Bool) → ltb i m ≡ t → v ≡ get_or b i 0
    go true e = near (ltb-true i m e)
    go false e =
        let h = ltb-false i m e in
        let p : m + (i - m) ≡ i = omega arith in
        far h ∙ get_or-drop m b (i - m) 0 ∙ ap (λ (j : ℕ). get_or b j 0) p

-- a part of bytes is bytes, and so are bytes with one of them changed
bytes_take : (n : ℕ) (b : List ℕ) → Bytes b → Bytes (take n b)
bytes_take zero b y i = lit< tt
bytes_take (suc n) [] y i = y i
bytes_take (suc n) (x ∷ b) y zero = y 0
bytes_take (suc n) (x ∷ b) y (suc i) = bytes_take n b (λ j. y (suc j)) i

bytes_set : (b : List ℕ) (i v : ℕ) → Bytes b → v < 256 → Bytes (set b i v)
bytes_set [] i v y h j = y j
bytes_set (x ∷ b) zero v y h zero = h
bytes_set (x ∷ b) zero v y h (suc j) = y (suc j)
bytes_set (x ∷ b) (suc i) v y h zero = y 0
bytes_set (x ∷ b) (suc i) v y h (suc j) = bytes_set b i v (λ k. y (suc k)) h j

-- ONE BYTE of a number of two
two_bytes : (b : List ℕ) (i v k : ℕ) → k + 2 ≤ length b → k ≤ i → i < k + 2 → num2 (set b i v) k ≡ num2 b k → v ≡ get_or b i 0
two_bytes b i v k h l m e = sym (get_or-set_same b i v 0 (omega arith)) ∙ go (eqb i k) refl
  where
    at : (j : ℕ) → i ≡ j → get_or (set b i v) j 0 ≡ get_or b j 0 → get_or (set b i v) i 0 ≡ get_or b i 0
    at j z d = subst (λ (x : ℕ). get_or (set b i v) x 0 ≡ get_or b x 0) (sym z) d

    go : (t : Bool) → eqb i k ≡ t → get_or (set b i v) i 0 ≡ get_or b i 0
    go true q = let z = eqb-true i k q in at k z (omega (arith, get_or-set_other b i (k + 1) v 0 (omega arith)))
    go false q = let n = eqb-false i k q in at (k + 1) (omega arith) (omega (arith, get_or-set_other b i k v 0 (omega arith)))

-- kind and body of a record, n bytes of body
abbrev part : ℕ → List ℕ → List ℕ
part n b = take (n + 1) (drop 2 b)

-- of a record: where the mark is not the old one and both are whole, the byte is not changed
module _ (mark : ℕ) (new : mark ≡ old_mark → ⊥) (v : ℕ) (small : v < 256) where
  module _ (due n : ℕ) (b : List ℕ) (i : ℕ) (y : Bytes b) (w : Whole mark due n b) (x : Whole mark due n (set b i v)) where
    in_body : 2 ≤ i → i < n + 3 → v ≡ get_or b i 0
    in_body h l =
        let p : part n (set b i v) ≡ set (part n b) (i - 2) v =
        ap (take (n + 1)) (drop_set 2 b i v h) ∙ take-set-lt (n + 1) (drop 2 b) (i - 2) v (omega arith) in
        let q : num2 (set b i v) (n + 3) ≡ num2 b (n + 3) =
        omega (arith, get_or-set_other b i (n + 3) v 0 (omega arith), get_or-set_other b i (n + 3 + 1) v 0 (omega arith)) in
        let m : length (part n b) ≡ n + 1 = simp (length-take, length-drop) (omega (arith, w.long)) in
        let e : 2 + (i - 2) ≡ i = omega arith in
        notices mark new (part n b) (i - 2) v (bytes_take (n + 1) (drop 2 b) (bytes_drop 2 b y)) (omega arith) small
        (ap (check_of mark) (sym p) ∙ x.sum ∙ q ∙ sym w.sum)
        ∙ get_or-take (n + 1) (drop 2 b) (i - 2) 0 (omega arith) ∙ get_or-drop 2 b (i - 2) 0 ∙ ap (λ (j : ℕ). get_or b j 0) e

    in_check : n + 3 ≤ i → i < n + 5 → v ≡ get_or b i 0
    in_check h l =
        let p : part n (set b i v) ≡ part n b =
        ap (take (n + 1)) (drop_set 2 b i v (omega arith)) ∙ take-set-le (n + 1) (drop 2 b) (i - 2) v (omega arith) in
        two_bytes b i v (n + 3) (omega (arith, w.long)) h (omega arith) (sym x.sum ∙ ap (check_of mark) p ∙ w.sum)

    one_changed : i < n + 5 → v ≡ get_or b i 0
    one_changed l = go (ltb i 2) refl (ltb i (n + 3)) refl
      where
        go : (t : Bool) → ltb i 2 ≡ t → (u : Bool) → ltb i (n + 3) ≡ u → v ≡ get_or b i 0
        go true e u d = two_bytes b i v 0 (omega (arith, w.long)) (omega arith) (ltb-true i 2 e) (x.marked ∙ sym w.marked)
        go false e true d = in_body (ltb-false i 2 e) (ltb-true i (n + 3) d)
        go false e false d = in_check (ltb-false i (n + 3) d) l

  -- of a run, of any kind and width,
  run_changed : (kind s : ℕ) → ItemKind kind s → (n p : ℕ) (d e : Option Entry) (b : List ℕ) (i : ℕ) → Bytes b → i < (8 * s + 5) * n
      → Clear (run_refusals mark kind s n p d b) → Clear (run_refusals mark kind s n p e (set b i v)) → v ≡ get_or b i 0
  unfolding run_refusals
  run_changed kind s k zero p d e b i y h c x = absurd (omega (arith, mul-zero (8 * s + 5)))
  run_changed kind s k (suc n) p d e b i y h c x =
      let m = 8 * s + 5 in
      before_or_behind m b i v
      (one_changed kind (8 * s) b i y (record_inv mark kind b _ (8 * s) k.body c.0).0 (record_inv mark kind (set b i v) _ (8 * s) k.body x.0).0)
      (λ l. run_changed kind s k n (p + m) _ _ (drop m b) (i - m) (bytes_drop m b y) (omega (arith, mul-suc m n)) c.1 (rw (drop_set m b i v l) at x.1))

  -- and of several
  runs_changed : (s p : ℕ) (kinds counts : List ℕ) → length counts ≡ length kinds → Each (λ k. ItemKind k s) kinds → (b : List ℕ) (i : ℕ) → Bytes b
      → i < (8 * s + 5) * total counts → Clear (runs_refusals mark s p kinds counts b) → Clear (runs_refusals mark s p kinds counts (set b i v)) → v ≡ get_or b i 0
  unfolding runs_refusals
  runs_changed s p [] [] l k b i y h c x = absurd (omega (arith, mul-zero (8 * s + 5)))
  runs_changed s p [] (n ∷ ns) l k b i y h c x = absurd (omega arith)
  runs_changed s p (kind ∷ kinds) [] l k b i y h c x = absurd (omega arith)
  runs_changed s p (kind ∷ kinds) (n ∷ ns) l k b i y h c x =
      let m = (8 * s + 5) * n in
      let a = clear_split (run_refusals mark kind s n p none b) _ c in
      let z = clear_split (run_refusals mark kind s n p none (set b i v)) _ x in
      before_or_behind m b i v
      (λ j. run_changed kind s k.0 n p none none b i y j a.0 z.0)
      (λ j. runs_changed s (p + m) kinds ns (omega arith) k.1 (drop m b) (i - m) (bytes_drop m b y) (omega (arith, mul-add (8 * s + 5) n (total ns))) a.1
      (rw (drop_set m b i v j) at z.1))

-- a form's counts and kinds, and the records of one that is accepted
module _ (f : Form) (k : FormKind f) (b : List ℕ) where
  as_many : length (form_counts f b) ≡ length (kinds_of f)
  as_many = many_counts f.runs b 3 ∙ sym (many_kinds f k)

  start_whole : Clear (form_refusals f b) → Whole (mark_of b) f.start (2 * f.runs) b
  unfolding form_refusals
  start_whole c = (record_inv (mark_of b) f.start b _ (2 * f.runs) k.start.body c.0).0

  items_clear : Clear (form_refusals f b)
      → Clear (runs_refusals (mark_of b) f.layout.width (start_size f) (kinds_of f) (form_counts f b) (drop (start_size f) b))
  unfolding form_refusals
  items_clear c = (clear_split (runs_refusals (mark_of b) f.layout.width (start_size f) (kinds_of f) (form_counts f b) (drop (start_size f) b)) _ c.1).0

-- LATER MARKS: where the bytes of a record are the same, its verdict is too, if it is 0
module _ (m : ℕ) (b c : List ℕ) (k : Kept m b c) where
  whole_kept : (mark due n : ℕ) → n + 5 ≤ m → Whole mark due n b → Whole mark due n c
  whole_kept mark due n h w =
      let p : part n c ≡ part n b =
      ext_get_or 0 (part n c) (part n b) (simp (length-take, length-drop, k.long)) (λ i j.
      let l : i < n + 1 = omega (arith, length-take (n + 1) (drop 2 c)) in
      get_or-take (n + 1) (drop 2 c) i 0 l ∙ get_or-drop 2 c i 0 ∙ k.same (2 + i) (omega arith)
      ∙ sym (get_or-take (n + 1) (drop 2 b) i 0 l ∙ get_or-drop 2 b i 0)) in
      record {
        marked = num2_kept m b c k 0 (omega arith) ∙ w.marked;
        is_due = k.same 2 (omega arith) ∙ w.is_due;
        long = omega (arith, k.long, w.long);
        sum = ap (check_of mark) p ∙ w.sum ∙ sym (num2_kept m b c k (n + 3) (omega arith));
      }

  record_kept : (mark due n : ℕ) → n + 5 ≤ m → body_length due ≡ some n → (t u : Bool) → u ≡ t → record_verdict mark due t b ≡ 0 → record_verdict mark due u c ≡ 0
  record_kept mark due n h q t u e v =
      let i = record_inv mark due b t n q v in
      record_zero mark due c u n q (whole_kept mark due n h i.0) (e ∙ i.1)

  entry_kept : (kind s : ℕ) → 8 * s + 5 ≤ m → entry_in kind s c ≡ entry_in kind s b
  entry_kept kind s h = ap (λ (ws : List ℕ). said kind (item_of s ws)) (words_kept m b c k s 3 (omega arith))

-- c is b before place q, and has another mark there
record Remarked (mark q : ℕ) (b c : List ℕ) : Type 0 where
  kept : Kept q b c
  other : num2 c q ≡ mark → ⊥

-- the same seen from a place m before it on
remarked_drop : (m mark q : ℕ) (b c : List ℕ) → m ≤ q → Remarked mark q b c → Remarked mark (q - m) (drop m b) (drop m c)
remarked_drop m mark q b c h r =
    let p : m + (q - m) ≡ q = omega arith in
    record {
      kept = record {
        long = simp (length-drop, r.kept.long);
        same = λ i l. get_or-drop m c i 0 ∙ r.kept.same (m + i) (omega arith) ∙ sym (get_or-drop m b i 0);
      };
      other = λ e. r.other (sym (num2_drop c m (q - m) ∙ ap (num2 c) p) ∙ e);
    }

-- where item j from p on is the first with another mark, at place r, the first refusal is 9 there: if it is in the run of n items, and else
-- if what follows the run refuses so
module _ (mark s r : ℕ) (lent : List (List ℕ)) (o : Outcome) where
  later_run : (kind : ℕ) → ItemKind kind s → (gs : List Finding) (n j q p : ℕ) (d : Option Entry) (b c : List ℕ) → q ≡ (8 * s + 5) * j → r ≡ p + q
      → Remarked mark q b c → Clear (run_refusals mark kind s n p d b) → ((i : ℕ) → j ≡ n + i → in_turn gs lent o ≡ refuse 9 r lent)
      → in_turn (run_refusals mark kind s n p d c ++ gs) lent o ≡ refuse 9 r lent
  unfolding run_refusals
  later_run kind k gs zero j q p d b c e f m x rest = rest j (omega arith)
  later_run kind k gs (suc n) zero q p d b c e f m x rest =
      let z : q ≡ 0 = omega (arith, mul-zero (8 * s + 5)) in
      let w = (record_inv mark kind b _ (8 * s) k.body x.0).0 in
      let v : item_verdict mark kind s d c ≡ 9 =
      sym (front_mark mark kind c _ (omega (arith, w.long, m.kept.long)) mark (num2 c 0) refl refl (λ y. m.other (ap (num2 c) z ∙ y))) in
      let l : p ≡ r = omega arith in
      rw v (ap (λ (i : ℕ). refuse 9 i lent) l)
  later_run kind k gs (suc n) (suc j) q p d b c e f m x rest =
      let a = 8 * s + 5 in
      let h : q ≡ a + a * j = omega (arith, mul-suc a j) in
      let u = entry_kept q b c m.kept kind s (omega arith) in
      let v : item_verdict mark kind s d c ≡ 0 = record_kept q b c m.kept mark kind (8 * s) (omega arith) k.body _ _ (ap (in_order d) u) x.0 in
      rw (v, u)
      (later_run kind k gs n j (q - a) (p + a) (some (entry_in kind s b)) (drop a b) (drop a c) (omega arith) (omega arith)
      (remarked_drop a mark q b c (omega arith) m) x.1 (λ i l. rest i (omega arith)))

  -- it is in one of several runs
  later_runs : (gs : List Finding) (kinds counts : List ℕ) → length counts ≡ length kinds → Each (λ k. ItemKind k s) kinds → (j q p : ℕ) (b c : List ℕ)
      → j < total counts → q ≡ (8 * s + 5) * j → r ≡ p + q → Remarked mark q b c → Clear (runs_refusals mark s p kinds counts b)
      → in_turn (runs_refusals mark s p kinds counts c ++ gs) lent o ≡ refuse 9 r lent
  unfolding runs_refusals
  later_runs gs [] [] l k j q p b c h e f m x = absurd (omega arith)
  later_runs gs [] (n ∷ ns) l k j q p b c h e f m x = absurd (omega arith)
  later_runs gs (kind ∷ kinds) [] l k j q p b c h e f m x = absurd (omega arith)
  later_runs gs (kind ∷ kinds) (n ∷ ns) l k j q p b c h e f m x =
      let a = (8 * s + 5) * n in
      let z = clear_split (run_refusals mark kind s n p none b) _ x in
      rw append_assoc
      (later_run kind k.0 (runs_refusals mark s (p + a) kinds ns (drop a c) ++ gs) n j q p none b c e f m z.0 (λ i y.
      let g : q ≡ a + (8 * s + 5) * i = e ∙ ap (λ (j : ℕ). (8 * s + 5) * j) y ∙ mul-add (8 * s + 5) n i in
      later_runs gs kinds ns (omega arith) k.1 i (q - a) (p + a) (drop a b) (drop a c) (omega arith) (omega arith) (omega arith)
      (remarked_drop a mark q b c (omega arith) m) z.1))

-- it is in a form, of either mark
form_later : (f : Form) → FormKind f → (b c : List ℕ) (j q : ℕ) → j < total (form_counts f b) → q ≡ start_size f + (8 * f.layout.width + 5) * j
    → Remarked (mark_of b) q b c → Clear (form_refusals f b) → (outs : List (List ℕ)) → read_call f c outs ≡ refuse 9 q outs
unfolding read_call form_refusals
form_later f k b c j q h e m x outs =
    let a = start_size f in
    let n : form_counts f c ≡ form_counts f b = counts_kept q b c m.kept f.runs 3 (omega arith) in
    let v : start_verdict (mark_of b) f.start f.runs f.layout.limit c ≡ 0 =
    record_kept q b c m.kept (mark_of b) f.start (2 * f.runs) (omega arith) k.start.body _ _ (ap (all_within f.layout.limit) n) x.0 in
    let fs = runs_refusals (mark_of b) f.layout.width a (kinds_of f) (form_counts f b) (drop a c) in
    rw (mark_kept q b c m.kept (omega arith), v, n)
    (ap (λ (gs : List Finding). in_turn gs outs (outcome (given []) (stored_in outs (form_entries f c)))) (append_assoc fs _ _)
    ∙ later_runs (mark_of b) f.layout.width q outs _ _ (kinds_of f) (form_counts f b) (as_many f k b) (kinds f k) j (q - a) a (drop a b) (drop a c)
    h (omega arith) (omega arith) (remarked_drop a (mark_of b) q b c (omega arith) m) (items_clear f k b x))

-- THE FIRST MARK: the first item of a form that is accepted, where there is one, has the mark of the form,
item_marked : (f : Form) → FormKind f → (b : List ℕ) → Clear (form_refusals f b) → 0 < total (form_counts f b) → (num2 b (start_size f) ≡ mark_of b → ⊥) → ⊥
unfolding read_call
item_marked f k b c h n =
    refused≢given (sym (form_later f k b b 0 (start_size f) h (omega (arith, mul-zero (8 * f.layout.width + 5)))
    (record { kept = record { long = refl; same = λ i l. refl }; other = n }) c [])
    ∙ clear_turn (form_refusals f b ++ []) [] _ (clear_both (form_refusals f b) [] c tt))

-- and where there is none, the counts are those read in no bytes,
no_counts : (n : ℕ) (b : List ℕ) (q : ℕ) → total (counts_in n b q) ≡ 0 → counts_in n b q ≡ counts_in n [] q
no_counts zero b q e = refl
no_counts (suc n) b q e = ap₂ ◌∷◌ (omega arith) (no_counts n b (q + 2) (omega arith))

-- kind and body of a start with such counts, of which the two checks differ
abbrev bare : Form → List ℕ
bare f = f.start ∷ count_bytes (counts_in f.runs [] 3)

two_checks : {f : Form} → OfFour f → check_of new_mark (bare f) ≡ check_of old_mark (bare f) → ⊥
unfolding check_of fletcher crc_from crc_byte crc_bit
two_checks is_set e = omega arith
two_checks is_map e = omega arith
two_checks is_bulletin e = omega arith
two_checks is_signed e = omega arith

-- where a form of the new mark and the same with one byte set are both accepted,
module _ (f : Form) (t : OfFour f) (b : List ℕ) (i v : ℕ) (y : Bytes b) (new : mark_of b ≡ new_mark) (c : Clear (form_refusals f b))
    (x : Clear (form_refusals f (set b i v))) where
  abbrev b' : List ℕ
  b' = set b i v

  abbrev k : FormKind f
  k = kind_of t

  -- the second is not of the old mark, the byte being one of the first two,
  not_old : i < 2 → mark_of b' ≡ old_mark → ⊥
  not_old h old = go (total (form_counts f b)) refl
    where
      behind : (q : ℕ) → 2 ≤ q → num2 b' q ≡ num2 b q
      behind q l = omega (arith, get_or-set_other b i q v 0 (omega arith), get_or-set_other b i (q + 1) v 0 (omega arith))

      dropped : drop 2 b' ≡ drop 2 b
      dropped = drop-set-lt 2 b i v h

      counts : form_counts f b' ≡ form_counts f b
      counts = sym (counts_drop f.runs b' 2 1) ∙ ap (λ (d : List ℕ). counts_in f.runs d 1) dropped ∙ counts_drop f.runs b 2 1

      go : (m : ℕ) → total (form_counts f b) ≡ m → ⊥
      go zero e =
          let n = 2 * f.runs in
          let w = start_whole f k b c in
          let p : part n b ≡ bare f =
          sym (kind_body f.start n b w.is_due w.long) ∙ ap (λ (l : List ℕ). f.start ∷ l)
          (sym (counts_bytes b y f.runs 3 (omega (arith, w.long))) ∙ ap count_bytes (no_counts f.runs b 3 e)) in
          two_checks t
          (ap₂ check_of (sym new) (sym p) ∙ w.sum ∙ sym ((start_whole f k b' x).sum ∙ behind (n + 3) (omega arith))
          ∙ ap₂ check_of old (ap (take (n + 1)) dropped ∙ p))
      go (suc m) e =
          item_marked f k b c (omega arith)
          (λ j. item_marked f k b' x (omega (arith, ap total counts)) (λ l. omega (arith, behind (start_size f) (omega arith))))

  -- so both are of one mark, whichever byte it is,
  same_mark : mark_of b' ≡ mark_of b
  unfolding mark_of
  same_mark = go (ltb i 2) refl (eqb (num2 b' 0) old_mark) refl
    where
      go : (r : Bool) → ltb i 2 ≡ r → (u : Bool) → eqb (num2 b' 0) old_mark ≡ u → mark_of b' ≡ mark_of b
      go true l true e = absurd (not_old (ltb-true i 2 l) (rw e))
      go true l false e = rw e (sym new)
      go false l u e = mark_kept 2 b b' (kept_set 2 b i v (ltb-false i 2 l)) (omega arith)

  -- and the byte is not changed
  form_changed : i < length b → v < 256 → v ≡ get_or b i 0
  form_changed h small =
      let m = start_size f in
      let n : mark_of b ≡ old_mark → ⊥ = λ e. omega arith in
      before_or_behind m b i v
      (one_changed (mark_of b) n v small f.start (2 * f.runs) b i y (start_whole f k b c) (rw same_mark at (start_whole f k b' x)))
      (λ l.
      let q : form_counts f b' ≡ form_counts f b = counts_kept m b b' (kept_set m b i v l) f.runs 3 (omega arith) in
      runs_changed (mark_of b) n v small f.layout.width m (kinds_of f) (form_counts f b) (as_many f k b) (kinds f k) (drop m b) (i - m) (bytes_drop m b y)
      (omega (arith, accepted_size f k b y c, ap (size_of f) (counted f k b))) (items_clear f k b c)
      (rw (same_mark, q, drop_set m b i v l) at (items_clear f k b' x)))

-- so what is left is no form, where the byte is another
changed_no_form : (f : Form) → OfFour f → (b : List ℕ) → Bytes b → IsForm f b → mark_of b ≡ new_mark → (i v : ℕ) → i < length b → v < 256
    → (v ≡ get_or b i 0 → ⊥) → IsForm f (set b i v) → ⊥
changed_no_form f t b y g m i v h small other o =
    let k = kind_of t in
    other (form_changed f t b i v y m (formed_accepted f k b g.runs g.form).0 (formed_accepted f k (set b i v) o.runs o.form).0 h small)

pub one_byte : OneByte
one_byte f t b y g m i v h small other outs = no_form f t (set b i v) (bytes_set b i v y small) (changed_no_form f t b y g m i v h small other) outs

pub one_byte_asked : OneByteAsked
one_byte_asked b y g m i v h small other x =
    host_refuses (set b i v) x (bytes_set b i v y small) (changed_no_form of_set is_set b y g m i v h small other)

pub later_mark : LaterMark
later_mark f t b z g j x y h n outs =
    let k = kind_of t in
    let s = 8 * f.layout.width + 5 in
    let q = start_size f + s * j in
    let a = (formed_accepted f k b g.runs g.form).0 in
    let d = set b q x in
    let l : q + 1 < length b =
    omega (arith, accepted_size f k b z a, ap (size_of f) (counted f k b), mul-le-mul_left s h, mul-suc s j) in
    let w : num2 (set d (q + 1) y) q ≡ x * 256 + y =
    omega (
      arith,
      get_or-set_other d (q + 1) q y 0 (omega arith),
      get_or-set_same b q x 0 (omega arith),
      get_or-set_same d (q + 1) y 0 (omega (arith, length-set b q x)),
    ) in
    form_later f k b (set d (q + 1) y) j q h refl (record {
      kept = record {
        long = length-set d (q + 1) y ∙ length-set b q x;
        same = λ i u. get_or-set_other d (q + 1) i y 0 (omega arith) ∙ get_or-set_other b q i x 0 (omega arith);
      };
      other = λ e. n (sym w ∙ e);
    }) a outs
