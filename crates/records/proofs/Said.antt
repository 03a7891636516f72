-- What the laws of the byte form need of what an item record says.
use Prim.Native.Nat.{ℕ, zero, suc, ◌<◌}
use mathlib.Core.Path.{◌≡◌, refl, sym, ap, ap₂, ◌∙◌}
use mathlib.Core.Bool.{Bool, true, false}
use mathlib.Core.List.{◌∷◌}
use lib.Dec.{eqb}
use lib.ListN.{length}
use borrow.Author.Tests.{ne_eqb}
use Rattle.keys.specs.Keys.{turned}
use Rattle.keys.proofs.Shift.{turned_twice, turned_bound}
use Rattle.entries.specs.Entries.{Entry, entry}
use Rattle.entries.specs.Sets.{past_m}
use Rattle.entries.specs.Build.{pick}
use Rattle.blocks.specs.Blocks.{Lent}
use Rattle.records.specs.Records.{end_of, said, saying, entry_words}
use Rattle.records.specs.Steps.{AsTheyAre}

-- [K6] an end from its word and back, and it is below 2^64 if the word is
end_twice : (kind x : ℕ) → end_of kind (end_of kind x) ≡ x
end_twice kind x = go (eqb kind 0x14)
  where
    go : (t : Bool) → pick t (turned (pick t (turned x) x)) (pick t (turned x) x) ≡ x
    go true = turned_twice x
    go false = refl

end_bound : (kind x : ℕ) → x < past_m → end_of kind x < past_m
end_bound kind x h = go (eqb kind 0x14)
  where
    go : (t : Bool) → pick t (turned x) x < past_m
    go true = turned_bound x h
    go false = h

lent_ends : (kind : ℕ) (e : Entry) → Lent (entry_words e) → Lent (end_of kind e.low ∷ end_of kind e.high ∷ e.value)
lent_ends kind e f zero = end_bound kind e.low (f 0)
lent_ends kind e f (suc zero) = end_bound kind e.high (f 1)
lent_ends kind e f (suc (suc j)) = f (suc (suc j))

ends_twice : (kind : ℕ) (e : Entry) → entry (end_of kind (end_of kind e.low)) (end_of kind (end_of kind e.high)) e.value ≡ e
ends_twice kind e = ap₂ (λ (l h : ℕ). entry l h e.value) (end_twice kind e.low) (end_twice kind e.high)

-- a kind says each entry with one item and each item says one entry, of as many words, below 2^64 if those that stand there are
pub record Saying (kind : ℕ) : Type 0 where
  pub back : (e : Entry) → said kind (saying kind e) ≡ e
  pub forth : (e : Entry) → saying kind (said kind e) ≡ e
  pub same : (e : Entry) → length (said kind e).value ≡ length e.value
  pub lent : (e : Entry) → Lent (entry_words e) → Lent (entry_words (said kind e))

pub says : (kind : ℕ) → Saying kind
unfolding said saying
says kind = record { back = ends_twice kind; forth = ends_twice kind; same = λ e. refl; lent = lent_ends kind }

pub same_saying : (kind : ℕ) (e : Entry) → length (saying kind e).value ≡ length e.value
same_saying kind e = sym ((says kind).same (saying kind e)) ∙ ap (λ (d : Entry). length d.value) ((says kind).back e)

-- every kind but one holds the words of its items as they are, and says them so
pub plain_kind : (kind : ℕ) → (kind ≡ 0x14 → ⊥) → AsTheyAre kind
plain_kind kind n x = rw (ne_eqb kind 0x14 n)

pub said_plain : (kind : ℕ) → AsTheyAre kind → (e : Entry) → said kind e ≡ e
unfolding said
said_plain kind p e = ap₂ (λ (l h : ℕ). entry l h e.value) (p e.low) (p e.high)

pub saying_plain : (kind : ℕ) → AsTheyAre kind → (e : Entry) → saying kind e ≡ e
unfolding saying
saying_plain kind p e = ap₂ (λ (l h : ℕ). entry l h e.value) (p e.low) (p e.high)
