-- A run of item records: what is accepted is the run of its entries, and the run of sound entries is accepted.
use Prim.Native.Nat.{ℕ, zero, suc, ◌+◌, ◌*◌, ◌≤◌}
use mathlib.Core.List.{List, [], ◌∷◌, ◌++◌, append_assoc}
use mathlib.Core.Bool.{Bool, true, false}
use mathlib.Core.Option.{Option, none, some}
use mathlib.Core.Path.{◌≡◌, refl, sym, subst, ap, ap₂, ◌∙◌}
use native.Mathlib.Omega.{arith}
use native.Mathlib.Nat.{mul-suc, mul-zero}
use lib.Dec.{leb, lit<}
use lib.ListN.{length, drop, length-append, length-drop}
use lib.Seq.{drop-drop, get_or-drop}
use Rattle.entries.specs.Entries.{Entry}
use Rattle.entries.specs.Build.{andb}
use Rattle.entries.proofs.Values.{and_true}
use Rattle.answers.specs.Answers.{Clear}
use Rattle.blocks.specs.Blocks.{linkb, soundb, words_of, Lent, Shaped}
use Rattle.blocks.proofs.Words.{lent_cons, lent_append}
use Rattle.numbers.specs.Numbers.{Bytes, num8, words_in, word_bytes}
use Rattle.numbers.proofs.Numbers.{length_bytes, length_words, word_fits}
use Rattle.records.specs.Records.{entry_words, saying, item_record, item_verdict, entry_in, follows, in_order}
use Rattle.records.specs.Steps.{ItemKind}
use Rattle.records.proofs.Said.{says, same_saying}
use Rattle.records.proofs.Heads.{record_inv, record_zero}
use Rattle.records.proofs.Items.{item_words}
use Rattle.records.proofs.Accepted.{item_bytes_lem, record_whole, rest_laid, entry_back}
use Rattle.blocks.specs.Blocks.{item_of}
use Rattle.runs.specs.Runs.{run_of, entries_in, run_refusals}
use Rattle.runs.proofs.Turns.{length_record}

-- sound, and the first may stand after the one before it
abbrev pub sinceb : Option Entry → List Entry → Bool
sinceb none es = soundb es
sinceb (some d) es = andb (linkb d es) (soundb es)

since_cons : (before : Option Entry) (e : Entry) (es : List Entry)
    → sinceb before (e ∷ es) ≡ andb (in_order before e) (sinceb (some e) es)
since_cons none e es = go (leb e.low e.high) (linkb e es)
  where
    go : (l k : Bool) → andb (andb l k) (soundb es) ≡ andb (andb l true) (andb k (soundb es))
    go true k = refl
    go false k = refl
since_cons (some d) e es = go (follows (some d) e) (leb e.low e.high) (linkb e es)
  where
    go : (a l k : Bool) → andb a (andb (andb l k) (soundb es)) ≡ andb (andb l a) (andb k (soundb es))
    go true true k = refl
    go true false k = refl
    go false true k = refl
    go false false k = refl

and_in : (t u : Bool) → t ≡ true → u ≡ true → andb t u ≡ true
and_in t u p q = rw (p, q)

pub bytes_drop : (k : ℕ) (b : List ℕ) → Bytes b → Bytes (drop k b)
bytes_drop k b y i = rw (get_or-drop k b i 0) (y (k + i))

pub length_entries : (kind s n : ℕ) (b : List ℕ) → length (entries_in kind s n b) ≡ n
unfolding entries_in
length_entries kind s zero b = refl
length_entries kind s (suc n) b = ap suc (length_entries kind s n (drop (8 * s + 5) b))

pub entries_shaped : (kind s n : ℕ) (b : List ℕ) → 2 ≤ s → Shaped s (entries_in kind s n b)
unfolding entries_in
entries_shaped kind s zero b h = tt
entries_shaped kind s (suc n) b h =
    let ws = words_in s b 3 in (
      omega (arith, (says kind).same (item_of s ws), ap length (item_words s ws h (length_words s b 3)), length_words s b 3),
      entries_shaped kind s n (drop
          (8 * s + 5) b) h,
    )

lent_words : (b : List ℕ) → Bytes b → (n q : ℕ) → Lent (words_in n b q)
lent_words b y zero q = λ j. lit< tt
lent_words b y (suc n) q = lent_cons (num8 b q) (words_in n b (q + 8)) (word_fits b y q) (lent_words b y n (q + 8))

pub entries_lent : (kind s n : ℕ) (b : List ℕ) → Bytes b → 2 ≤ s → Lent (words_of (entries_in kind s n b))
unfolding entries_in
entries_lent kind s zero b y h = λ j. lit< tt
entries_lent kind s (suc n) b y h =
    let ws = words_in s b 3 in
    lent_append (entry_words (entry_in kind s b)) (words_of (entries_in kind s n (drop (8 * s + 5) b)))
    ((says kind).lent (item_of s ws) (subst (λ (l : List ℕ). Lent l) (sym (item_words s ws h (length_words s b 3))) (lent_words b y s 3)))
    (entries_lent kind s n (drop (8 * s + 5) b) (bytes_drop (8 * s + 5) b y) h)

module _ (mark kind s : ℕ) (k : ItemKind kind s) where
  pub record RunAt (n : ℕ) (before : Option Entry) (b : List ℕ) : Type 0 where
    pub bytes : b ≡ run_of mark kind (entries_in kind s n b) ++ drop ((8 * s + 5) * n) b
    pub sound : sinceb before (entries_in kind s n b) ≡ true
    pub long : (8 * s + 5) * n ≤ length b

  none_left : (before : Option Entry) → sinceb before [] ≡ true
  none_left none = refl
  none_left (some d) = refl

  pub run_inv : (n p : ℕ) (before : Option Entry) (b : List ℕ) → Bytes b → Clear (run_refusals mark kind s n p before b) → RunAt n before b
  unfolding run_refusals run_of entries_in
  run_inv zero p before b y e =
      let z = mul-zero (8 * s + 5) in
      record { bytes = sym (ap (λ (m : ℕ). drop m b) z); sound = none_left before; long = omega arith }
  run_inv (suc n) p before b y e =
      let m = 8 * s + 5 in
      let i = record_inv mark kind b (in_order before (entry_in kind s b)) (8 * s) k.body e.0 in
      let r = run_inv n (p + m) (some (entry_in kind s b)) (drop m b) (bytes_drop m b y) e.1 in
      let x = item_record mark kind (entry_in kind s b) in
      let es = entries_in kind s n (drop m b) in
      let u : m + m * n ≡ m * suc n = omega (arith, mul-suc m n) in
      let last : drop (m * n) (drop m b) ≡ drop (m * suc n) b = drop-drop (m * n) m b ∙ ap (λ (j : ℕ). drop j b) u in
      record {
        bytes = item_bytes_lem mark kind b y s k.two i.0 ∙ ap (λ (l : List ℕ). x ++ l) (r.bytes ∙ ap (λ (l : List ℕ). run_of mark kind es ++ l) last)
            ∙ sym (append_assoc x (run_of mark kind es) (drop (m * suc n) b));
        sound = since_cons before (entry_in kind s b) es ∙ and_in (in_order before (entry_in kind s b)) (sinceb (some (entry_in kind s b)) es) i.1 r.sound;
        long = omega (arith, r.long, i.0.long, length-drop m b, mul-suc m n);
      }

  abbrev said-body : Entry → List ℕ
  said-body e = word_bytes (entry_words (saying kind e))

  body_length_lem : (e : Entry) → 2 + length e.value ≡ s → length (said-body e) ≡ 8 * s
  body_length_lem e h = omega (arith, length_bytes (entry_words (saying kind e)), same_saying kind e)

  pub run_accept : (p : ℕ) (before : Option Entry) (es : List Entry) (rest : List ℕ) → Shaped s es → sinceb before es ≡ true
      → Clear (run_refusals mark kind s (length es) p before (run_of mark kind es ++ rest))
  unfolding run_refusals run_of
  run_accept p before [] rest h q = tt
  run_accept p before (e ∷ es) rest h q =
      let m = 8 * s + 5 in
      let x = item_record mark kind e in
      let l = run_of mark kind es ++ rest in
      let a : (x ++ run_of mark kind es) ++ rest ≡ x ++ l = append_assoc x (run_of mark kind es) rest in
      let t = and_true (in_order before e) (sinceb (some e) es) (sym (since_cons before e es) ∙ q) in
      let d : entry_in kind s (x ++ l) ≡ e = entry_back mark kind s e l h.0 in
      let v : item_verdict mark kind s before (x ++ l) ≡ 0 =
      record_zero mark kind (x ++ l) (in_order before (entry_in kind s (x ++ l))) (8 * s) k.body
      (record_whole mark kind (said-body e) l (8 * s) (body_length_lem e h.0)) (ap (in_order before) d ∙ t.0) in
      let w : drop m (x ++ l) ≡ l = rest_laid mark kind (said-body e) l (8 * s) (body_length_lem e h.0) in
      let c = run_accept (p + m) (some e) es rest h.1 t.1 in
      subst
      (λ (y : List ℕ). (item_verdict mark kind s before y ≡ 0) × Clear (run_refusals mark kind s (length es) (p + m) (some (entry_in kind s y)) (drop m y)))
      (sym a) (
        v,
        subst (λ (y : List ℕ). Clear (run_refusals mark kind s (length es) (p + m) (some (entry_in kind s (x ++ l))) y)) (sym w)
            (subst (λ (f : Entry). Clear (run_refusals mark kind s (length es) (p + m) (some f) l)) (sym d) c),
      )

  pub run_back : (es : List Entry) (rest : List ℕ) → Shaped s es → entries_in kind s (length es) (run_of mark kind es ++ rest) ≡ es
  unfolding entries_in run_of
  run_back [] rest h = refl
  run_back (e ∷ es) rest h =
      let x = item_record mark kind e in
      let l = run_of mark kind es ++ rest in
      let a : (x ++ run_of mark kind es) ++ rest ≡ x ++ l = append_assoc x (run_of mark kind es) rest in
      ap (λ (y : List ℕ). entry_in kind s y ∷ entries_in kind s (length es) (drop (8 * s + 5) y)) a
      ∙ ap₂ (λ (f : Entry) (y : List ℕ). f ∷ entries_in kind s (length es) y) (entry_back mark kind s e l h.0) (rest_laid mark kind (said-body e) l
      (8 * s) (body_length_lem e h.0))
      ∙ ap (λ (y : List Entry). e ∷ y) (run_back es rest h.1)

  pub length_run : (es : List Entry) → Shaped s es → length (run_of mark kind es) ≡ (8 * s + 5) * length es
  unfolding run_of
  length_run [] h = sym (mul-zero (8 * s + 5))
  length_run (e ∷ es) h =
      let x = item_record mark kind e in
      length-append x (run_of mark kind es)
      ∙ omega (arith, length_record mark kind (said-body e), body_length_lem e h.0, length_run es h.1, mul-suc (8 * s + 5) (length es))
