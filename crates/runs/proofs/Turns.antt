-- One turn of each loop over a run of item records.
use Prim.Native.Nat.{ℕ, zero, suc, ◌+◌, ◌-◌, ◌*◌, ◌<◌, ◌≤◌}
use mathlib.Core.List.{List, [], ◌∷◌, ◌++◌}
use mathlib.Core.Option.{Option, none, some}
use mathlib.Core.Path.{◌≡◌, refl, sym, subst, ap, ◌∙◌}
use native.Mathlib.Omega.{arith}
use lib.ListN.{length, take, drop, length-append, length-drop, length-take}
use lib.Seq.{drop-drop, take-add}
use borrow.Rule.Slice.PartMut.{put_mid}
use Rattle.entries.specs.Entries.{Entry}
use Rattle.answers.specs.Steps.{FirstOf}
use Rattle.answers.specs.Answers.{Finding}
use Rattle.answers.proofs.Turns.{stops, passes, none_left}
use Rattle.blocks.specs.Blocks.{item_of, items_of, words_of}
use Rattle.numbers.specs.Numbers.{word_bytes, over, patch}
use Rattle.numbers.proofs.Patch.{tail_part, lent_turn, patch_none}
use Rattle.records.specs.Records.{entry_words, in_order, item_verdict, item_record, entry_in, saying, record_of}
use Rattle.records.specs.Reads.{item_here, item_said, entry_of, previous, read_as}
use Rattle.records.specs.Steps.{ItemKind}
use Rattle.records.specs.declared.Item.{Item}
use Rattle.records.proofs.Answers.{was_ok, was_err}
use Rattle.std.specs.Prelude.{Result, Ok, Err, MatchResult, IsErrAnd}
use Rattle.std.specs.Prelude as code
use Rattle.answers.specs.declared.Reason.{Reason}
use Rattle.answers.specs.declared.Refusal.{Refusal}
use Rattle.answers.specs.Says.{at_place}
use Rattle.records.proofs.Heads.{record_inv, record_small}
use Rattle.records.proofs.Items.{here_entry}
use Rattle.records.proofs.Ends.{said_length, saying_bytes}
use Rattle.records.proofs.Accepted.{words_item}
use Rattle.runs.specs.Runs.{run_of, entries_in, run_refusals}

-- judging: the record at p was read
module _ (mark kind s p : ℕ) (b : List ℕ) (before : code.Option Item) (r : Result Item Reason)
    (e : r ≡ read_as (item_verdict mark kind s (previous s before) (take (length b - p) (drop p b))) (item_said kind (item_here s (take (length b - p)
    (drop p b))))) where
  abbrev due : ℕ
  due = item_verdict mark kind s (previous s before) (drop p b)

  e' : r ≡ read_as due (item_said kind (item_here s (drop p b)))
  e' = e ∙ ap (λ (l : List ℕ). read_as (item_verdict mark kind s (previous s before) l) (item_said kind (item_here s l))) (tail_part p b)

  good : (i : Item) → r ≡ Ok i → (due ≡ 0) × (i ≡ item_said kind (item_here s (drop p b)))
  good i q = was_ok due i _ (sym q ∙ e')

  pub judge_more : ItemKind kind s → (n m q : ℕ) (i : Item) → n ≡ suc m → q ≡ p + (8 * s + 5) → r ≡ Ok i → (x : Result (Unit {0}) Refusal)
      → FirstOf (run_refusals mark kind s m q (some (entry_of s i)) (drop q b)) x
      → FirstOf (run_refusals mark kind s n p (previous s before) (drop p b)) x
  unfolding run_refusals
  judge_more k n m q i l j h x f =
      let t = good i h in
      let d : entry_of s i ≡ entry_in kind s (drop p b) = ap (entry_of s) t.1 ∙ here_entry kind s (drop p b) k.two k.four in
      let w : run_refusals mark kind s m q (some (entry_of s i)) (drop q b)
      ≡ run_refusals mark kind s m (p + (8 * s + 5)) (some (entry_in kind s (drop p b))) (drop (8 * s + 5) (drop p b)) = rw (j, d, drop-drop (8 * s + 5) p b) in
      rw l (passes due p (run_refusals mark kind s m (p + (8 * s + 5)) (some (entry_in kind s (drop p b))) (drop (8 * s + 5) (drop p b))) x t.0
      (subst (λ (l : List Finding). FirstOf l x) w f))

  pub judge_bad : (n : ℕ) (f : Reason) → 0 < n → r ≡ Err f
      → FirstOf (run_refusals mark kind s n p (previous s before) (drop p b)) (Err (at_place f p))
  unfolding run_refusals
  judge_bad zero f l h = absurd (omega arith)
  judge_bad (suc n) f l h =
      stops f (at_place f p) due p (run_refusals mark kind s n (p + (8 * s + 5)) (some (entry_in kind s (drop p b))) (drop (8 * s + 5) (drop p b))) refl
      (was_err due f _ (record_small mark kind (drop p b) (in_order (previous s before) (entry_in kind s (drop p b)))) (sym h ∙ e'))

  pub judge_fits : ItemKind kind s → (i : Item) → r ≡ Ok i → p ≤ length b → p + (8 * s + 5) ≤ length b
  judge_fits k i q l =
      let w = record_inv mark kind (drop p b) (in_order (previous s before) (entry_in kind s (drop p b))) (8 * s) k.body (good i q).0 in
      omega (arith, w.0.long, length-drop p b)

pub judge_start : (mark kind s n m p q : ℕ) (b : List ℕ) → m ≡ n → q ≡ p → (r : Result (Unit {0}) Refusal)
    → FirstOf (run_refusals mark kind s m q none (drop q b)) r → FirstOf (run_refusals mark kind s n p none (drop p b)) r
judge_start mark kind s n m p q b e k r f = rw (e, k) at f

pub judge_end : (mark kind s n p : ℕ) (before : Option Entry) (b : List ℕ) → n ≡ 0 → FirstOf (run_refusals mark kind s n p before b) (Ok tt)
unfolding run_refusals
judge_end mark kind s n p before b l = rw l none_left

-- filling
module _ (kind s : ℕ) (b : List ℕ) (two : 2 ≤ s) where
  words_more : (q r n m : ℕ) → n ≡ suc m → r ≡ q + (8 * s + 5) → words_of (entries_in kind s n (drop q b))
      ≡ entry_words (entry_in kind s (drop q b)) ++ words_of (entries_in kind s m (drop r b))
  unfolding entries_in
  words_more q r n m l e = rw (l, e, drop-drop (8 * s + 5) q b)

  pub fill_turn : (out y whole : List ℕ) (w v q r n m : ℕ) → n ≡ suc m → r ≡ q + (8 * s + 5) → v ≡ w + s → w ≤ length out
      → whole ≡ patch w (words_of (entries_in kind s n (drop q b))) out
      → y ≡ over (entry_words (entry_in kind s (take (length b - q) (drop q b)))) (take (length out - w) (drop w out))
      → whole ≡ patch v (words_of (entries_in kind s m (drop r b))) (put_mid w (length out - w) out y)
  fill_turn out y whole w v q r n m l i j h e k =
      rw j (lent_turn (entry_words (entry_in kind s (drop q b))) (words_of (entries_in kind s m (drop r b))) out y whole w s
      (said_length kind s (drop q b) two) h
      (e ∙ ap (λ (v : List ℕ). patch w v out) (words_more q r n m l i))
      (k ∙ ap (λ (v : List ℕ). over (entry_words (entry_in kind s v)) (take (length out - w) (drop w out))) (tail_part q b)))

pub fill_end : (kind s n w : ℕ) (b out : List ℕ) → n ≡ 0 → patch w (words_of (entries_in kind s n b)) out ≡ out
unfolding entries_in
fill_end kind s n w b out l = rw l (patch_none w out)

-- writing
pub length_record : (mark kind : ℕ) (body : List ℕ) → length (record_of mark kind body) ≡ length body + 5
length_record mark kind body = simp length-append (omega arith)

item_take : (s : ℕ) (l : List ℕ) → 2 ≤ s → s ≤ length l → entry_words (item_of s l) ≡ take s l
item_take s [] two h = absurd (omega arith)
item_take s (x ∷ []) two h = absurd (omega arith)
item_take s (x ∷ y ∷ l) two h = let k : s ≡ 2 + (s - 2) = omega arith in sym (ap (λ (m : ℕ). take m (x ∷ y ∷ l)) k ∙ take-add 2 (s - 2) (x ∷ y ∷ l))

-- the item of the part with its words
item_part : (s j : ℕ) (l : List ℕ) → 2 ≤ s → s ≤ length l → j ≡ s → item_of (length (take j l)) (take j l) ≡ item_of s l
item_part s j l two h e =
    let t : length (take s l) ≡ s = simp length-take (omega arith) in
    let v : length (take (s - 2) (drop 2 l)) ≡ s - 2 = simp (length-take, length-drop) (omega arith) in
    rw (e, t) (ap (item_of s) (sym (item_take s l two h)) ∙ words_item s (item_of s l) (omega arith))

module _ (mark kind s : ℕ) (ws : List ℕ) (two : 2 ≤ s) where
  run_more : (w v n m : ℕ) → n ≡ suc m → v ≡ w + s → run_of mark kind (items_of s n (drop w ws))
      ≡ item_record mark kind (item_of s (drop w ws)) ++ run_of mark kind (items_of s m (drop v ws))
  unfolding run_of
  run_more w v n m l e = rw (l, e, drop-drop s w ws)

  pub write_turn : (b y whole : List ℕ) (w v q r n m : ℕ) → n ≡ suc m → r ≡ q + (8 * s + 5) → v ≡ w + s → w + s ≤ length ws → q ≤ length b
      → whole ≡ patch q (run_of mark kind (items_of s n (drop w ws))) b
      → (let us = take (w + s - w) (drop w ws) in
      y ≡ over (item_record mark kind (item_of (length us) us)) (take (length b - q) (drop q b)))
      → whole ≡ patch r (run_of mark kind (items_of s m (drop v ws))) (put_mid q (length b - q) b y)
  write_turn b y whole w v q r n m z i j h g e k =
      let c : w + s - w ≡ s = omega arith in
      let d : s ≤ length (drop w ws) = omega (arith, length-drop w ws) in
      let t = item_of s (drop w ws) in
      let lr : length (item_record mark kind t) ≡ 8 * s + 5 = length_record mark kind (word_bytes (entry_words (saying kind t)))
      ∙ ap (λ (j : ℕ). j + 5) (saying_bytes kind s (drop w ws) two d) in
      rw i (lent_turn (item_record mark kind t) (run_of mark kind (items_of s m (drop v ws))) b y whole q (8 * s + 5) lr g
      (e ∙ ap (λ (v : List ℕ). patch q v b) (run_more w v n m z j))
      (k ∙ ap (λ (v : Entry). over (item_record mark kind v) (take (length b - q) (drop q b))) (item_part s (w + s - w) (drop w ws) two d c)))

pub write_end : (mark kind s n q : ℕ) (ws b : List ℕ) → n ≡ 0 → patch q (run_of mark kind (items_of s n ws)) b ≡ b
unfolding run_of
write_end mark kind s n q ws b l = rw l (patch_none q b)
