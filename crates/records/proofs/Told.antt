-- The check that the code takes, of counts and of an item, is that of the record; and the verdict that it leads to.
use Prim.Native.Nat.{ℕ, ◌+◌, ◌*◌}
use mathlib.Core.List.{List, [], ◌∷◌, ◌++◌}
use mathlib.Core.Bool.{Bool}
use mathlib.Core.Option.{Option}
use mathlib.Core.Path.{◌≡◌, sym, ap, ◌∙◌}
use lib.Dec.{leb, eqb}
use Rattle.entries.specs.Entries.{Entry}
use Rattle.entries.specs.Build.{pick, andb}
use Rattle.numbers.specs.Numbers.{Bytes, num2, be8, counts_in, count_bytes}
use Rattle.checks.specs.Check.{fletcher, crc_start, crc_byte, crc_from, crc, check_of}
use Rattle.checks.specs.Steps.{go_on, Begun, After}
use Rattle.checks.specs.declared.Sums.{Sums}
use Rattle.checks.proofs.Marks.{crc_on, crc_kind}
use Rattle.records.specs.Records.{all_within, start_verdict, entry_in, in_order, item_verdict}
use Rattle.records.specs.Reads.{counts_of, second_count, item_here, item_said, entry_of}
use Rattle.records.specs.Steps.{StartKind, ItemKind, Front, item_bytes}
use Rattle.records.specs.declared.Item.{Item}
use Rattle.records.proofs.Heads.{record_told}
use Rattle.records.proofs.Items.{start_body, start_content, item_body, item_content}

-- a way of going on from what stands for the kind and some bytes: from the sums, from a register, from a word
module _ {S : Type 0} (go : S → List ℕ → ℕ) (check : List ℕ → ℕ) (kind : ℕ) where
  abbrev pub Begins : List ℕ → S → Type 0
  Begins xs r = (ys : List ℕ) → check (kind ∷ (xs ++ ys)) ≡ go r ys

  abbrev pub GoesOn : List ℕ → S → S → Type 0
  GoesOn xs s r = (ys : List ℕ) → go s (xs ++ ys) ≡ go r ys

  -- over the words of an item
  module _ (i : Item) (s : ℕ) (s1 s2 : S) (l : Begins (be8 i.low) s1) (h : GoesOn (be8 i.high) s1 s2) where
    ends_on : (ys : List ℕ) → check (kind ∷ (be8 i.low ++ (be8 i.high ++ ys))) ≡ go s2 ys
    ends_on ys = l (be8 i.high ++ ys) ∙ h ys

    pub two_words : s ≡ 2 → go s2 [] ≡ check (kind ∷ item_bytes s i)
    two_words e = rw e (sym (ends_on []))

    module _ (s3 : S) (v : GoesOn (be8 i.value) s2 s3) where
      pub three_words : s ≡ 3 → go s3 [] ≡ check (kind ∷ item_bytes s i)
      three_words e = rw e (sym (ends_on (be8 i.value ++ []) ∙ v []))

      pub four_words : (s4 : S) → GoesOn (be8 i.second) s3 s4 → s ≡ 4 → go s4 [] ≡ check (kind ∷ item_bytes s i)
      four_words s4 w e = rw e (sym (ends_on (be8 i.value ++ (be8 i.second ++ [])) ∙ v (be8 i.second ++ []) ∙ w []))

-- the sums over the kind, and a number behind
pub sums_begin : (kind : ℕ) (xs : List ℕ) (s r : Sums) → Begun kind s → After xs s r → Begins go_on (fletcher 0 0) kind xs r
sums_begin kind xs s r b f ys = b.on (xs ++ ys) ∙ f.on ys

-- a register that is the CRC so far, and one over the kind and a number behind
pub crc_next : (xs : List ℕ) (s r : ℕ) → r ≡ crc_from s xs → (ys : List ℕ) → crc_from s (xs ++ ys) ≡ crc_from r ys
crc_next xs s r e ys = crc_on s xs ys ∙ ap (λ (z : ℕ). crc_from z ys) (sym e)

pub crc_begin : (kind s : ℕ) → s ≡ crc_byte crc_start kind → (ys : List ℕ) → crc (kind ∷ ys) ≡ crc_from s ys
crc_begin kind s e ys = crc_kind kind ys ∙ ap (λ (z : ℕ). crc_from z ys) (sym e)

-- the verdict on a record whose front is good, by the comparison t of its check, which is summed to x, and the test u of its content
module _ (mark due : ℕ) (b : List ℕ) (f : Front mark due b) (y : Bytes b) (x : ℕ) (t u : Bool) where
  pub start_judged : (k limit n m : ℕ) → StartKind due k → n ≡ num2 b 3 → m ≡ second_count k b → x ≡ check_of mark (due ∷ count_bytes (counts_of k n m))
      → t ≡ eqb x (num2 b (2 * k + 3)) → u ≡ andb (leb n limit) (leb m limit)
      → pick t (pick u 0 12) 11 ≡ start_verdict mark due k limit b
  start_judged k limit n m q i j s c w =
      ap (λ (a : Bool). pick t (pick a 0 12) 11) (w ∙ start_content k q.one q.two b n m i j limit)
      ∙ record_told mark due b (all_within limit (counts_in k b 3)) (2 * k) q.body f x (count_bytes (counts_of k n m))
      (start_body k q.one q.two b n m i j y (f.long (2 * k) q.body)) s t c

  pub item_judged : (s : ℕ) (before : Option Entry) (i : Item) → ItemKind due s → i ≡ item_here s b → x ≡ check_of mark (due ∷ item_bytes s i)
      → t ≡ eqb x (num2 b (8 * s + 3)) → u ≡ in_order before (entry_of s (item_said due i))
      → pick t (pick u 0 12) 11 ≡ item_verdict mark due s before b
  item_judged s before i q j c k w =
      ap (λ (a : Bool). pick t (pick a 0 12) 11) (w ∙ item_content due s before b _ q.two q.four (ap (item_said due) j))
      ∙ record_told mark due b (in_order before (entry_in due s b)) (8 * s) q.body f x (item_bytes s i)
      (item_body s b i q.two q.four j y (f.long (8 * s) q.body)) c t k
