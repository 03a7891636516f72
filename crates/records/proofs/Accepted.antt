-- A whole record is the record of what it says, and the record of an entry or of counts is whole and says them.
use Prim.Native.Nat.{ℕ, ◌+◌, ◌-◌, ◌*◌, ◌≤◌}
use mathlib.Core.List.{List, ◌∷◌, ◌++◌, append_assoc}
use mathlib.Core.Path.{◌≡◌, refl, sym, ap, ap₂, ◌∙◌}
use native.Mathlib.Omega.{arith}
use native.Mathlib.Nat.{div-add-mod'}
use lib.ListN.{length, take, drop, take-append-drop, length-append}
use lib.Seq.{drop-drop, take_at, drop_at, take_all}
use Rattle.entries.specs.Entries.{Entry, entry}
use Rattle.blocks.specs.Blocks.{item_of}
use Rattle.numbers.specs.Numbers.{Bytes, num2, be2, words_in, word_bytes, counts_in, count_bytes}
use Rattle.checks.specs.Check.{check_of}
use Rattle.records.specs.Records.{record_of, start_record, entry_words, saying, said, item_record, entry_in}
use Rattle.records.proofs.Said.{says, same_saying}
use Rattle.records.proofs.Heads.{Whole, kind_body}
use Rattle.records.proofs.Items.{item_words}
use Rattle.numbers.proofs.Numbers.{two_bytes, words_bytes, counts_bytes, words_drop, counts_drop, words_back, counts_back, length_words, num2_drop}

-- an entry from its words
pub words_item : (s : ℕ) (e : Entry) → 2 + length e.value ≡ s → item_of s (entry_words e) ≡ e
words_item s e h = ap (λ (v : List ℕ). entry e.low e.high v) (take_all (s - 2) e.value (omega arith))

module _ (mark kind : ℕ) (b : List ℕ) where
  -- a whole record is the record of its body
  module _ (y : Bytes b) (n : ℕ) (w : Whole mark kind n b) where
    pub record_bytes : b ≡ record_of mark kind (take n (drop 3 b)) ++ drop (n + 5) b
    record_bytes =
        let kb : kind ∷ take n (drop 3 b) ≡ take (n + 1) (drop 2 b) = kind_body kind n b w.is_due w.long in
        let m : be2 mark ≡ take 2 b = ap be2 (sym w.marked) ∙ two_bytes b y 0 (omega (arith, w.long)) in
        let s : be2 (check_of mark (kind ∷ take n (drop 3 b))) ≡ take 2 (drop (n + 3) b) =
        ap be2 (ap (check_of mark) kb ∙ w.sum) ∙ two_bytes b y (n + 3) (omega (arith, w.long)) in
        let k : 2 + (n + 1) ≡ n + 3 = omega arith in
        let j : n + 3 + 2 ≡ n + 5 = omega arith in
        let x = take 2 b in
        let u = take (n + 1) (drop 2 b) in
        let v = take 2 (drop (n + 3) b) in
        let whole : record_of mark kind (take n (drop 3 b)) ≡ x ++ (u ++ v) = ap₂ ◌++◌ m (ap₂ ◌++◌ kb s) in
        let last : v ++ drop (n + 5) b ≡ drop (n + 1) (drop 2 b) =
        ap (λ (q : ℕ). v ++ drop q b) (sym j) ∙ ap (λ (l : List ℕ). v ++ l) (sym (drop-drop 2 (n + 3) b)) ∙ take-append-drop 2 (drop (n + 3) b)
        ∙ ap (λ (q : ℕ). drop q b) (sym k) ∙ sym (drop-drop (n + 1) 2 b) in
        sym (ap (λ (l : List ℕ). l ++ drop (n + 5) b) whole ∙ append_assoc x (u ++ v) (drop (n + 5) b)
        ∙ ap (λ (l : List ℕ). x ++ l) (append_assoc u v (drop (n + 5) b) ∙ ap (λ (l : List ℕ). u ++ l) last ∙ take-append-drop (n + 1) (drop 2 b))
        ∙ take-append-drop 2 b)

  pub item_bytes_lem : Bytes b → (s : ℕ) → 2 ≤ s → Whole mark kind (8 * s) b → b ≡ item_record mark kind (entry_in kind s b) ++ drop (8 * s + 5) b
  item_bytes_lem y s two w =
      let ws = words_in s b 3 in
      record_bytes y (8 * s) w
      ∙ ap (λ (l : List ℕ). record_of mark kind l ++ drop (8 * s + 5) b)
      (sym (words_bytes b y s 3 (omega (arith, w.long)))
      ∙ ap word_bytes (sym (ap entry_words ((says kind).forth (item_of s ws)) ∙ item_words s ws two (length_words s b 3))))

  pub start_bytes : Bytes b → (n : ℕ) → Whole mark kind (2 * n) b → b ≡ start_record mark kind (counts_in n b 3) ++ drop (2 * n + 5) b
  start_bytes y n w =
      record_bytes y (2 * n) w
      ∙ ap (λ (l : List ℕ). record_of mark kind l ++ drop (2 * n + 5) b) (sym (counts_bytes b y n 3 (omega (arith, w.long))))

-- and the record of a body is whole
module _ (mark kind : ℕ) (body rest : List ℕ) where
  abbrev laid : List ℕ
  laid = record_of mark kind body ++ rest

  tail_laid : laid ≡ be2 mark ++ (kind ∷ (body ++ (be2 (check_of mark (kind ∷ body)) ++ rest)))
  tail_laid = ap (λ (l : List ℕ). be2 mark ++ (kind ∷ l)) (append_assoc body (be2 (check_of mark (kind ∷ body))) rest)

  pub body_laid : drop 3 laid ≡ body ++ (be2 (check_of mark (kind ∷ body)) ++ rest)
  body_laid = ap (drop 3) tail_laid

  pub rest_laid : (n : ℕ) → length body ≡ n → drop (n + 5) laid ≡ rest
  rest_laid n h =
      let k : 3 + (n + 2) ≡ n + 5 = omega arith in
      let l : length (body ++ be2 (check_of mark (kind ∷ body))) ≡ n + 2 = length-append body (be2 (check_of mark (kind ∷ body))) ∙ ap (λ (m : ℕ). m + 2) h in
      sym (ap (λ (m : ℕ). drop m laid) k) ∙ sym (drop-drop (n + 2) 3 laid) ∙ drop_at (body ++ be2 (check_of mark (kind ∷ body))) rest (n + 2) l

  pub record_whole : (n : ℕ) → length body ≡ n → Whole mark kind n laid
  record_whole n h =
      let c = be2 (check_of mark (kind ∷ body)) in
      let l : length laid ≡ n + 5 + length rest = simp length-append (omega arith) in
      let lk : length (kind ∷ body) ≡ n + 1 = omega arith in
      let d : drop (n + 3) laid ≡ c ++ rest =
      let k : 3 + n ≡ n + 3 = omega arith in
      sym (ap (λ (m : ℕ). drop m laid) k) ∙ sym (drop-drop n 3 laid) ∙ ap (drop n) body_laid ∙ drop_at body (c ++ rest) n h in
      let z : n + 3 + 0 ≡ n + 3 = omega arith in
      record {
        marked = div-add-mod' mark 256;
        is_due = refl;
        long = omega arith;
        sum = ap (check_of mark) (ap (λ (l : List ℕ). take (n + 1) (drop 2 l)) tail_laid ∙ take_at (kind ∷ body) (c ++ rest) (n + 1) lk)
            ∙ sym (div-add-mod' (check_of mark (kind ∷ body)) 256)
            ∙ ap (λ (l : List ℕ). num2 l 0) (sym d) ∙ num2_drop laid (n + 3) 0 ∙ ap (num2 laid) z;
      }

pub entry_back : (mark kind s : ℕ) (e : Entry) (rest : List ℕ) → 2 + length e.value ≡ s → entry_in kind s (item_record mark kind e ++ rest) ≡ e
entry_back mark kind s e rest h =
    let d = saying kind e in
    let ws = entry_words d in
    let r = be2 (check_of mark (kind ∷ word_bytes ws)) ++ rest in
    let i : 2 + length d.value ≡ s = omega (arith, same_saying kind e) in
    let k : s ≡ length ws = omega arith in
    ap (λ (l : List ℕ). said kind (item_of s l))
    (sym (words_drop s (item_record mark kind e ++ rest) 3 0) ∙ ap (λ (l : List ℕ). words_in s l 0) (body_laid mark kind (word_bytes ws) rest)
    ∙ ap (λ (n : ℕ). words_in n (word_bytes ws ++ r) 0) k ∙ words_back ws r)
    ∙ ap (said kind) (words_item s d i) ∙ (says kind).back e

pub counts_back_in : (mark kind : ℕ) (ns rest : List ℕ) → counts_in (length ns) (start_record mark kind ns ++ rest) 3 ≡ ns
counts_back_in mark kind ns rest =
    sym (counts_drop (length ns) (start_record mark kind ns ++ rest) 3 0)
    ∙ ap (λ (l : List ℕ). counts_in (length ns) l 0) (body_laid mark kind (count_bytes ns) rest)
    ∙ counts_back ns (be2 (check_of mark (kind ∷ count_bytes ns)) ++ rest)
