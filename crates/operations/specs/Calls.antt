-- A result made from one or two blocks into an output, for sets and for maps.
use Rattle.std.specs.Prelude.{List, [], ◌∷◌, length, ℕ}
use Rattle.entries.specs.Entries.{Entry}
use Rattle.answers.specs.Answers.{Finding}
use Rattle.answers.specs.Answers.{Outcome, in_turn}
use Rattle.blocks.specs.declared.Layout.{Layout}
use Rattle.blocks.specs.Blocks.{entries_of}
use Rattle.blocks.specs.Calls.{input, output, room, holding}

-- [R16, R17] from two inputs into an output of so many words, which is to say es: 1, 2, 3 of each input, then 1 and 5 of the output;
-- the inputs stand at 0 and 1, the output at 2
abbrev pub two_refusals : Layout → Layout → Layout → List ℕ → List ℕ → ℕ → List Entry → List Finding
two_refusals first second out w v words es = input 0 first w ∷ input 1 second v ∷ output 2 words ∷ room 2 out words es ∷ []

-- [S11, M4, M5, S15] from two inputs w and v, which may be the same, into o
abbrev pub from_two : Layout → Layout → Layout → (List Entry → List Entry → List Entry) → List ℕ → List ℕ → List ℕ → Outcome
from_two first second out make w v o =
    in_turn (two_refusals first second out w v (length o) (make (entries_of first.width w) (entries_of second.width v))) (o ∷ [])
    (holding o (make (entries_of first.width w) (entries_of second.width v)))

-- [R16, R17] from one input, which stands at 0, into an output at 1
abbrev pub one_refusals : Layout → Layout → List ℕ → ℕ → List Entry → List Finding
one_refusals first out w words es = input 0 first w ∷ output 1 words ∷ room 1 out words es ∷ []

-- [S12, M6] from one input w into o
abbrev pub from_one : Layout → Layout → (List Entry → List Entry) → List ℕ → List ℕ → Outcome
from_one first out make w o =
    in_turn (one_refusals first out w (length o) (make (entries_of first.width w))) (o ∷ []) (holding o (make (entries_of first.width w)))
