-- The counts of a start and the words of an item as the code carries them, and the tests on them.
use mathlib.Core.Path.{◌≡◌, refl, sym, ◌∙◌, ap, ap₂}
use mathlib.Core.Bool.{Bool, true, false, not}
use mathlib.Core.List.{List, [], ◌∷◌}
use mathlib.Core.Option.{Option}
use Prim.Native.Nat.{ℕ, zero, suc, ◌+◌, ◌-◌, ◌*◌, ◌≤◌, ◌<◌}
use native.Mathlib.Omega.{arith}
use lib.Dec.{leb, eqb}
use borrow.Author.Tests.{lt-ltb, le-ltb, le-leb, eq-eqb, ne_eqb}
use lib.ListN.{length, take, drop}
use lib.Seq.{take_all}
use Rattle.entries.specs.Build.{andb, same_words}
use Rattle.entries.specs.Entries.{Entry}
use Rattle.blocks.specs.Blocks.{item_of, afterb}
use Rattle.numbers.specs.Numbers.{Bytes, num2, words_in, word_bytes, counts_in, count_bytes}
use Rattle.keys.specs.Keys.{turned}
use Rattle.numbers.proofs.Numbers.{words_bytes, counts_bytes, length_words}
use Rattle.records.specs.Records.{all_within, said, entry_words, entry_in, in_order}
use Rattle.records.specs.Reads.{counts_of, second_count, item_here, item_said, entry_of}
use Rattle.records.specs.Steps.{item_bytes}
use Rattle.records.specs.declared.Item.{Item}

-- the counts of a start, of which there are one or two
pub counts_two : (k : ℕ) → 1 ≤ k → k ≤ 2 → (b : List ℕ) → counts_of k (num2 b 3) (second_count k b) ≡ counts_in k b 3
counts_two zero h l b = absurd (omega arith)
counts_two (suc zero) h l b = refl
counts_two (suc (suc zero)) h l b = refl
counts_two (suc (suc (suc k))) h l b = absurd (omega arith)

pub counts_length : (k n m : ℕ) → 1 ≤ k → k ≤ 2 → length (count_bytes (counts_of k n m)) ≡ 2 * k
counts_length zero n m h l = absurd (omega arith)
counts_length (suc zero) n m h l = refl
counts_length (suc (suc zero)) n m h l = refl
counts_length (suc (suc (suc k))) n m h l = absurd (omega arith)

within_two : (k limit n : ℕ) (b : List ℕ) → 1 ≤ k → k ≤ 2
    → andb (leb n limit) (leb (second_count k b) limit) ≡ all_within limit (counts_of k n (second_count k b))
within_two zero limit n b h l = absurd (omega arith)
within_two (suc zero) limit n b h l = ap (andb (leb n limit)) (le-leb 0 limit (omega arith))
within_two (suc (suc zero)) limit n b h l = ap (andb (leb n limit)) (sym (go (leb (num2 b 5) limit)))
  where
    go : (t : Bool) → andb t true ≡ t
    go true = refl
    go false = refl
within_two (suc (suc (suc k))) limit n b h l = absurd (omega arith)

module _ (k : ℕ) (one : 1 ≤ k) (two : k ≤ 2) (b : List ℕ) (n m : ℕ) (e : n ≡ num2 b 3) (f : m ≡ second_count k b) where
  counts_are : counts_of k n m ≡ counts_in k b 3
  counts_are = ap₂ (counts_of k) e f ∙ counts_two k one two b

  pub start_body : Bytes b → 2 * k + 5 ≤ length b → count_bytes (counts_of k n m) ≡ take (2 * k) (drop 3 b)
  start_body y l = ap count_bytes counts_are ∙ counts_bytes b y k 3 (omega arith)

  pub start_content : (limit : ℕ) → andb (leb n limit) (leb m limit) ≡ all_within limit (counts_in k b 3)
  start_content limit =
      ap (λ (i : ℕ). andb (leb n limit) (leb i limit)) f ∙ within_two k limit n b one two
      ∙ ap (all_within limit) (ap (counts_of k n) (sym f) ∙ counts_are)

-- the words of an item, from its entry
pub item_words : (s : ℕ) (ws : List ℕ) → 2 ≤ s → length ws ≡ s → entry_words (item_of s ws) ≡ ws
item_words s [] two h = absurd (omega arith)
item_words s (a ∷ []) two h = absurd (omega arith)
item_words s (a ∷ b ∷ ws) two h = ap (λ (l : List ℕ). a ∷ b ∷ l) (take_all (s - 2) ws (omega arith))

-- the words that the code carries are those of the record, and say its entry
here_item : (s : ℕ) (b : List ℕ) → 2 ≤ s → s ≤ 4 → entry_of s (item_here s b) ≡ item_of s (words_in s b 3)
here_item zero b h l = absurd (omega arith)
here_item (suc zero) b h l = absurd (omega arith)
here_item (suc (suc zero)) b h l = refl
here_item (suc (suc (suc zero))) b h l = refl
here_item (suc (suc (suc (suc zero)))) b h l = refl
here_item (suc (suc (suc (suc (suc s))))) b h l = absurd (omega arith)

pub here_entry : (kind s : ℕ) (b : List ℕ) → 2 ≤ s → s ≤ 4 → entry_of s (item_said kind (item_here s b)) ≡ entry_in kind s b
unfolding said
here_entry kind s b h l = ap (said kind) (here_item s b h l)

pub item_body : (s : ℕ) (b : List ℕ) (i : Item) → 2 ≤ s → s ≤ 4 → i ≡ item_here s b → Bytes b → 8 * s + 5 ≤ length b → item_bytes s i ≡ take (8 * s) (drop 3 b)
item_body s b i two four e y l =
    ap (λ (v : Entry). word_bytes (entry_words v)) (ap (entry_of s) e ∙ here_item s b two four)
    ∙ ap word_bytes (item_words s (words_in s b 3) two (length_words s b 3)) ∙ words_bytes b y s 3 (omega arith)

pub item_content : (kind s : ℕ) (before : Option Entry) (b : List ℕ) (i : Item) → 2 ≤ s → s ≤ 4 → i ≡ item_said kind (item_here s b)
    → in_order before (entry_of s i) ≡ in_order before (entry_in kind s b)
item_content kind s before b i two four e = ap (in_order before) (ap (entry_of s) e ∙ here_entry kind s b two four)

-- the item that a record says: its words as they are, or with the ends turned
pub said_as_it_is : (kind : ℕ) (i : Item) → (kind ≡ 0x14 → ⊥) → i ≡ item_said kind i
said_as_it_is kind i n = rw (ne_eqb kind 0x14 n)

pub said_turned : (kind : ℕ) (i : Item) → kind ≡ 0x14 → (l h : ℕ) → l ≡ turned i.low → h ≡ turned i.high
    → ◌≡◌ {A = Item} (record { low = l; high = h; value = i.value; second = i.second }) (item_said kind i)
said_turned kind i k l h p q = rw (p, q, eq-eqb kind 0x14 k)

-- values of s - 2 words, one word after the other
module _ (s v w x y : ℕ) where
  abbrev same : Bool
  same = same_words (take (s - 2) (v ∷ w ∷ [])) (take (s - 2) (x ∷ y ∷ []))

  pub same_none : s ≡ 2 → true ≡ same
  same_none e = rw e

  pub same_differ : 2 < s → (v ≡ x → ⊥) → false ≡ same
  same_differ h n = let k : s - 2 ≡ suc (s - 3) = omega arith in rw (k, ne_eqb v x n)

  pub same_one : s ≡ 3 → v ≡ x → true ≡ same
  same_one e q = rw (e, eq-eqb v x q)

  unit : (t : Bool) → t ≡ andb t true
  unit true = refl
  unit false = refl

  pub same_two : s ≡ 4 → v ≡ x → eqb w y ≡ same
  same_two e q = rw (e, eq-eqb v x q) (unit (eqb w y))

-- one entry after another
module _ (d e : Entry) where
  pub overlaps : e.low ≤ d.high → false ≡ afterb d e
  overlaps h = rw (le-ltb d.high e.low h)

  module _ (h : d.high < e.low) where
    pub apart : 1 < e.low - d.high → true ≡ afterb d e
    apart m = rw (lt-ltb d.high e.low h, ne_eqb e.low (suc d.high) (λ z. omega arith))

    pub touching : e.low - d.high ≤ 1 → (t : Bool) → same_words d.value e.value ≡ t → not t ≡ afterb d e
    touching m t q = rw (lt-ltb d.high e.low h, eq-eqb e.low (suc d.high) (omega arith), q)
