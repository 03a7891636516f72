-- The words of an item where the code fills or writes them: the ends turned in one kind, and every word as it stands in the others.
use Prim.Native.Nat.{ℕ, suc, ◌-◌, ◌*◌, ◌≤◌}
use mathlib.Core.List.{List, [], ◌∷◌, ◌++◌}
use mathlib.Core.Option.{some}
use mathlib.Core.Path.{◌≡◌, refl, sym, ap, ◌∙◌}
use native.Mathlib.Omega.{arith}
use lib.ListN.{length, get_or, set, take, drop, length-take, length-drop}
use lib.Seq.{take_all}
use Rattle.keys.specs.Keys.{turned}
use Rattle.blocks.specs.Blocks.{item_of}
use Rattle.numbers.specs.Numbers.{words_in, word_bytes, over}
use Rattle.numbers.proofs.Patch.{tail_part}
use Rattle.numbers.proofs.Numbers.{words_drop, length_words, length_bytes}
use Rattle.records.specs.Records.{body_length, said, saying, entry_words, entry_in}
use Rattle.records.specs.Steps.{ItemKind, Laid}
use Rattle.records.proofs.Said.{said_plain, saying_plain, plain_kind, says, same_saying}
use Rattle.records.proofs.Items.{item_words}

-- [K6] the ends of the words at the front of a list are turned
turned_front : (kind s : ℕ) (ws rest : List ℕ) (t u : ℕ) → kind ≡ 0x14 → 2 ≤ s → length ws ≡ s → t ≡ turned (get_or (ws ++ rest) 0 0)
    → u ≡ turned (get_or (set (ws ++ rest) 0 t) 1 0) → set (set (ws ++ rest) 0 t) 1 u ≡ entry_words (said kind (item_of s ws)) ++ rest
unfolding said
turned_front kind s [] rest t u k two l p q = absurd (omega arith)
turned_front kind s (a ∷ []) rest t u k two l p q = absurd (omega arith)
turned_front kind s (a ∷ b ∷ ws) rest t u k two l p q = rw (p, q, k, take_all (s - 2) ws (omega arith))

-- what a record says has as many words
pub said_length : (kind s : ℕ) (b : List ℕ) → 2 ≤ s → length (entry_words (entry_in kind s b)) ≡ s
said_length kind s b two =
    let ws = words_in s b 3 in
    ap (λ (n : ℕ). suc (suc n)) ((says kind).same (item_of s ws)) ∙ ap length (item_words s ws two (length_words s b 3)) ∙ length_words s b 3

-- filling: the words of the record stand in out
module _ (kind s : ℕ) (b out y : List ℕ) (two : 2 ≤ s) (e : y ≡ over (words_in s (take (length b - 3) (drop 3 b)) 0) out) where
  filled : y ≡ over (words_in s b 3) out
  filled = e ∙ ap (λ (v : List ℕ). over v out) (ap (λ (l : List ℕ). words_in s l 0) (tail_part 3 b) ∙ words_drop s b 3 0)

  pub fill_plain : (kind ≡ 0x14 → ⊥) → y ≡ over (entry_words (entry_in kind s b)) out
  fill_plain n =
      let ws = words_in s b 3 in
      filled ∙ ap (λ (v : List ℕ). over v out)
      (sym (ap entry_words (said_plain kind (plain_kind kind n) (item_of s ws)) ∙ item_words s ws two (length_words s b 3)))

  pub fill_turned : (t u : ℕ) → kind ≡ 0x14 → t ≡ turned (get_or y 0 0) → u ≡ turned (get_or (set y 0 t) 1 0)
      → set (set y 0 t) 1 u ≡ over (entry_words (entry_in kind s b)) out
  fill_turned t u k p q =
      let ws = words_in s b 3 in
      let l : length ws ≡ length (entry_words (entry_in kind s b)) = length_words s b 3 ∙ sym (said_length kind s b two) in
      ap (λ (v : List ℕ). set (set v 0 t) 1 u) filled
      ∙ turned_front kind s ws (drop (length ws) out) t u k two (length_words s b 3) (p ∙ ap (λ (v : List ℕ). turned (get_or v 0 0)) filled)
      (q ∙ ap (λ (v : List ℕ). turned (get_or (set v 0 t) 1 0)) filled)
      ∙ ap (λ (n : ℕ). entry_words (entry_in kind s b) ++ drop n out) l

-- writing: the words of the record of an item, and how many bytes they are
pub laid_as : {kind r : ℕ} {before after : List ℕ} (us vs : List ℕ) → us ≡ vs → Laid kind (word_bytes us) before after r
    → Laid kind (word_bytes vs) before after r
laid_as us vs e l = rw e at l

pub put_plain : (kind : ℕ) (ws : List ℕ) → (kind ≡ 0x14 → ⊥) → 2 ≤ length ws → ws ≡ entry_words (saying kind (item_of (length ws) ws))
put_plain kind ws n two =
    sym (ap entry_words (saying_plain kind (plain_kind kind n) (item_of (length ws) ws)) ∙ item_words (length ws) ws two refl)

-- [K6] an item of the kind that holds keys has two words, and both are turned
two_words : (kind s : ℕ) → kind ≡ 0x14 → body_length kind ≡ some (8 * s) → s ≡ 2
unfolding body_length
two_words kind s k e = let n : some 16 ≡ some (8 * s) = sym (ap body_length k) ∙ e in let m : 16 ≡ 8 * s = cc in omega arith

pub put_turned : (kind : ℕ) (ws : List ℕ) (t u : ℕ) → kind ≡ 0x14 → ItemKind kind (length ws) → t ≡ turned (get_or ws 0 0) → u ≡ turned (get_or ws 1 0)
    → t ∷ u ∷ [] ≡ entry_words (saying kind (item_of (length ws) ws))
unfolding saying
put_turned kind ws t u k i p q = rw (two_words kind (length ws) k i.body, k, p, q)

pub saying_bytes : (kind s : ℕ) (ws : List ℕ) → 2 ≤ s → s ≤ length ws → length (word_bytes (entry_words (saying kind (item_of s ws)))) ≡ 8 * s
saying_bytes kind s ws two h =
    let e = item_of s ws in
    let l : length e.value ≡ s - 2 = simp (length-take, length-drop) (omega arith) in
    length_bytes (entry_words (saying kind e)) ∙ omega (arith, same_saying kind e)
