-- What the steps of the code promise each other. No public promise names these.
use Rattle.std.specs.Prelude.{ℕ, ◌+◌, ◌*◌, ◌≤◌, ◌<◌, ◌≡◌, Bool, List, ◌∷◌, length, get_or, Result, Ok, Err}
use Rattle.std.proofs.Math.Option.{some}
use Rattle.numbers.specs.Numbers.{past2, num2, word_bytes, over}
use Rattle.checks.specs.Check.{crc}
use Rattle.records.specs.Records.{body_length, end_of, record_verdict, entry_words}
use Rattle.records.specs.Reads.{entry_of}
use Rattle.records.specs.declared.Item.{Item}
use Rattle.answers.specs.declared.Reason.{Reason}
use Rattle.answers.specs.Says.{number_of}

-- a start kind of k counts
pub record StartKind (kind k : ℕ) : Type 0 where
  pub one : 1 ≤ k
  pub two : k ≤ 2
  pub body : body_length kind ≡ some (2 * k)

-- an item kind of s words
pub record ItemKind (kind s : ℕ) : Type 0 where
  pub two : 2 ≤ s
  pub four : s ≤ 4
  pub body : body_length kind ≡ some (8 * s)

-- records of a kind hold the words of their items as they are
abbrev pub AsTheyAre : ℕ → Type 0
AsTheyAre kind = (x : ℕ) → end_of kind x ≡ x

-- the bytes of the words of an item
abbrev pub item_bytes : ℕ → Item → List ℕ
item_bytes s i = word_bytes (entry_words (entry_of s i))

-- the bytes xs written over the front, and the CRC of the kind and them
pub record Laid (kind : ℕ) (xs before after : List ℕ) (r : ℕ) : Type 0 where
  pub bytes : after ≡ over xs before
  pub check : r ≡ crc (kind ∷ xs)
  pub small : r < past2

-- a record of the kind that is due as far as its length
pub record Front (mark due : ℕ) (b : List ℕ) : Type 0 where
  pub marked : num2 b 0 ≡ mark
  pub is_due : get_or b 2 0 ≡ due
  pub long : (n : ℕ) → body_length due ≡ some n → n + 5 ≤ length b

-- the answer on that much of a record: good so far, or refused whatever its content is
abbrev pub Fronted : ℕ → ℕ → List ℕ → Result Unit Reason → Type 0
Fronted mark due b (Ok u) = Front mark due b
Fronted mark due b (Err e) = (content : Bool) → number_of e ≡ record_verdict mark due content b
