-- What the readers of a record answer: by the verdict, the counts or the item that the record holds, or the reason why it is refused.
use Rattle.std.specs.Prelude.{ℕ, zero, suc, ◌-◌, List, [], ◌∷◌, ltb, take, Result, Ok, Err}
use Rattle.std.specs.Prelude as code
use Rattle.std.proofs.Math.Option.{Option, none, some}
use Rattle.entries.specs.Entries.{Entry, entry}
use Rattle.entries.specs.Build.{pick}
use Rattle.numbers.specs.Numbers.{num2, num8}
use Rattle.records.specs.Records.{end_of}
use Rattle.records.specs.declared.Item.{Item}
use Rattle.answers.specs.declared.Reason.{Reason}
use Rattle.answers.specs.Says.{reason_of}

-- a body's length, as the code answers it
abbrev pub body_read : Option ℕ → code.Option ℕ
body_read none = code.None
body_read (some n) = code.Some n

-- what reading answers by its verdict: what was read for 0, else the reason with that number
unfoldable pub read_as : {A : Type 0} → ℕ → A → Result A Reason
read_as zero a = Ok a
read_as (suc v) a = Err (reason_of (suc v))

-- the k counts of a start, of which there are one or two; and the second of those in the bytes, 0 where there is one
abbrev pub counts_of : ℕ → ℕ → ℕ → List ℕ
counts_of k n m = take k (n ∷ m ∷ [])

abbrev pub second_count : ℕ → List ℕ → ℕ
second_count k b = pick (ltb 1 k) (num2 b 5) 0

-- the words of an item record as the code carries them, 0 for a word that it has not; and the entry that they say
abbrev pub item_here : ℕ → List ℕ → Item
item_here s b = record { low = num8 b 3; high = num8 b 11; value = pick (ltb 2 s) (num8 b 19) 0; second = pick (ltb 3 s) (num8 b 27) 0 }

abbrev pub entry_of : ℕ → Item → Entry
entry_of s i = entry i.low i.high (take (s - 2) (i.value ∷ i.second ∷ []))

-- the item that an item record of a kind says with these words
abbrev pub item_said : ℕ → Item → Item
item_said kind i = record { low = end_of kind i.low; high = end_of kind i.high; value = i.value; second = i.second }

-- the entry before, where there is one
abbrev pub previous : ℕ → code.Option Item → Option Entry
previous s code.None = none
previous s (code.Some i) = some (entry_of s i)
