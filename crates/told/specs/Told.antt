-- How an outcome is told to a C host: one answer of six numbers, and the words and bytes lent to be written.
use Rattle.std.specs.Prelude.{◌≡◌, List, [], map, ℕ, ◌+◌, length, get_or}
use Rattle.keys.specs.Keys.{turned}
use Rattle.answers.specs.Answers.{Answer, given, refused, Outcome, outcome}
use Rattle.told.specs.declared.Told.{Told}

-- a status and a place; how many values there are, and the first three, 0 for one that is not there
abbrev pub numbers : ℕ → ℕ → List ℕ → Told
numbers status place xs =
    record { status = status; place = place; count = length xs; first = get_or xs 0 0; second = get_or xs 1 0; third = get_or xs 2 0 }

-- 0 and the values, or 16 plus the refusal's number and its place
abbrev pub told : Answer → Told
told (given xs) = numbers 0 0 xs
told (refused number place) = numbers (16 + number) place []

-- what a C host sees of a call: what it returns, and everything lent to be written
pub data Reply : Type 0 where
  reply : Told → List (List ℕ) → Reply

-- the outcome of a call, told in C
abbrev pub in_c : Outcome → Reply
in_c (outcome a lent) = reply (told a) lent

-- What an export promises: `r` tells the answer of an outcome, and what was lent to be written is as that outcome leaves it. It is the
-- equation `reply r lent ≡ in_c call` (`tells_reply`, `reply_tells` in proofs/Telling), in a form that a call which only hands on meets
-- by itself.
pub record Tells (r : Told) (lent : List (List ℕ)) (call : Outcome) : Type 0 where
  pub answer : Answer
  pub as_told : r ≡ told answer
  pub as_called : outcome answer lent ≡ call

-- [K3] An answer with keys, of which an outcome has the words, is told in two's complement: C casts the values to signed numbers.
abbrev pub in_twos : Answer → Answer
in_twos (given xs) = given (map turned xs)
in_twos (refused number place) = refused number place

-- [K3] the outcome of a call on keys, as C is told it
abbrev pub in_keys : Outcome → Outcome
in_keys (outcome a lent) = outcome (in_twos a) lent

-- What an export that answers keys promises: the same of the answer in two's complement (`tells_keys` in proofs/Telling).
pub record TellsKeys (r : Told) (lent : List (List ℕ)) (call : Outcome) : Type 0 where
  pub answer : Answer
  pub as_told : r ≡ told (in_twos answer)
  pub as_called : outcome answer lent ≡ call
