-- Windows: what is handed back, and the refusal of the companion question, for sets and for maps; and the refusal
-- of sets that share a number.
use Rattle.std.specs.Prelude.{List, [], ◌∷◌, ℕ, ◌+◌, ◌*◌, length}
use Rattle.entries.specs.Entries.{Entry}
use Rattle.entries.specs.Questions.{meeting, wholly_below}
use Rattle.entries.specs.Bulletins.{shareb}
use Rattle.answers.specs.Answers.{Finding}
use Rattle.answers.specs.Answers.{Outcome, outcome, given, at, applies, in_turn, handed}
use Rattle.blocks.specs.declared.Layout.{Layout}
use Rattle.blocks.specs.Blocks.{entries_of}
use Rattle.blocks.specs.Calls.{input, backwards}
use Rattle.answers.specs.declared.Part.{Part}
use Rattle.searches.specs.Parts.{part, no_part, part_says}

-- where the part of a window begins in the block: behind the count and the ranges wholly below a
abbrev pub window_place : ℕ → List ℕ → ℕ → ℕ
window_place s w a = 1 + s * length (wholly_below a (entries_of s w))

-- how many words it takes: those of the ranges that meet a..b
abbrev pub window_length : ℕ → List ℕ → ℕ → ℕ → ℕ
window_length s w a b = s * length (meeting a b (entries_of s w))

-- [S6, M7] The window a..b as a part of the caller's own block: exactly the words of the ranges that share a number with a..b,
-- unclipped and in order (`window_words` in proofs/Windows); an empty part if there are none.
abbrev pub window_part : ℕ → List ℕ → ℕ → ℕ → Part
window_part s w a b = part (window_place s w a) (window_length s w a b)

-- [R17] 1, 2, 3 of the block, then 4
abbrev pub window_refusals : Layout → List ℕ → ℕ → ℕ → List Finding
window_refusals l w a b = input 0 l w ∷ backwards a b ∷ []

-- [R20] the companion question: the refusal, or that there is none
unfoldable pub window_refusal_call : Layout → List ℕ → ℕ → ℕ → Outcome
window_refusal_call l w a b = in_turn (window_refusals l w a b) [] (outcome (given []) [])

-- [S6, M7, R20] the part that is handed back; refused, one of length 0
unfoldable pub window_call : Layout → List ℕ → ℕ → ℕ → Part
window_call l w a b = handed (in_turn (window_refusals l w a b) [] (outcome (given []) [])) (window_part l.width w a b) no_part

-- [S6, M7] The same part, for a host that is handed no slice: its offset in the block and its length, or no values where it is empty.
-- (`part_of_window` in proofs/Windows.)
unfoldable pub window_at_call : Layout → List ℕ → ℕ → ℕ → Outcome
window_at_call l w a b = in_turn (window_refusals l w a b) [] (outcome (part_says (window_part l.width w a b)) [])

-- [R14] 14 where two sets share a number
abbrev pub overlapping : List Entry → List Entry → ℕ
overlapping released withdrawn = applies (shareb released withdrawn) 14

-- [R14, U1] the two sets of a bulletin, which may share none; the place is 0
abbrev pub overlap : List ℕ → List ℕ → Finding
overlap released withdrawn = at 0 (overlapping (entries_of 2 released) (entries_of 2 withdrawn))
