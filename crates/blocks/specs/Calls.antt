-- The refusals that every call on blocks tries, and what it leaves where it writes one.
use Rattle.std.specs.Prelude.{List, [], ◌∷◌, ℕ, ltb, eqb, length}
use Rattle.entries.specs.Entries.{Entry}
use Rattle.answers.specs.Answers.{Outcome, outcome, given, at, applies, in_turn, Finding}
use Rattle.blocks.specs.declared.Layout.{Layout}
use Rattle.blocks.specs.Blocks.{capacity, block_of, verdict}

-- [R16, R17] the block at a position, read: 1, 2, 3
abbrev pub input : ℕ → Layout → List ℕ → Finding
input position l w = at position (verdict l w)

-- [R1, R18] 1 for a block with no words, to be written: its old words are not judged
abbrev pub no_block : ℕ → ℕ
no_block words = applies (eqb words 0) 1

-- [R16, R17] the block of so many words at a position, to be written
abbrev pub output : ℕ → ℕ → Finding
output position words = at position (no_block words)

-- [R4] a range given as an argument has low above high
abbrev pub backwards : ℕ → ℕ → Finding
backwards a b = at 0 (applies (ltb b a) 4)

-- [R5, R19] 5 where the result es has more items than the capacity of the block of so many words to be written: room looks at the
-- result only
abbrev pub no_room : Layout → ℕ → List Entry → ℕ
no_room l words es = applies (ltb (capacity l words) (length es)) 5

-- [R5, R16] the same at the block's position
abbrev pub room : ℕ → Layout → ℕ → List Entry → Finding
room position l words es = at position (no_room l words es)

-- [B8] accepted with no value, and the block w says es, with 0 in every word behind
abbrev pub holding : List ℕ → List Entry → Outcome
holding w es = outcome (given []) (block_of (length w) es ∷ [])

-- what remains of a call that has only room left to judge: es into the block w at a position
abbrev pub stored : ℕ → Layout → List ℕ → List Entry → Outcome
stored position l w es = in_turn (room position l (length w) es ∷ []) (w ∷ []) (holding w es)
