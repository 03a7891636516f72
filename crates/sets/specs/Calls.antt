-- What each call on sets answers and leaves, from the words lent to it alone.
use Rattle.std.proofs.Math.Option.{Option, none, some}
use Rattle.std.specs.Prelude.{List, [], ◌∷◌, ℕ, length}
use Rattle.entries.specs.Entries.{Entry}
use Rattle.entries.specs.Sets.{member, union, intersection, difference, symmetric_difference, complement}
use Rattle.entries.specs.Questions.{range_at, size_of, least_member, is_empty, wholly_below}
use Rattle.answers.specs.Answers.{Answer, given, Outcome, outcome, in_turn, truth, seated, optional, less_one}
use Rattle.blocks.specs.Blocks.{set_layout, entries_of}
use Rattle.blocks.specs.Calls.{input, output, holding}
use Rattle.edits.specs.Calls.{edit_call}
use Rattle.operations.specs.Calls.{from_two, from_one}
use Rattle.answers.specs.declared.Part.{Part}
use Rattle.searches.specs.Calls.{window_call, window_at_call, window_refusal_call}

-- [R17] a question about a set: 1, 2, 3 of its block, then the answer
abbrev pub asked : List ℕ → (List Entry → Answer) → Outcome
asked w answer = in_turn (input 0 set_layout w ∷ []) [] (outcome (answer (entries_of 2 w)) [])

-- [S8, R18] make empty: it refuses only with 1, whatever the words were
unfoldable pub make_empty_call : List ℕ → Outcome
make_empty_call w = in_turn (output 0 (length w) ∷ []) (w ∷ []) (holding w [])

-- [S1, W1] where x sits: whether it is a member; and, either way, how many ranges lie wholly below it
abbrev pub seat_of : ℕ → List Entry → Answer
seat_of x es = seated (member es x) (length (wholly_below x es))

-- [S1, W1] is x a member, with that count
unfoldable pub member_call : List ℕ → ℕ → Outcome
member_call w x = asked w (seat_of x)

-- the low and the high of a range, or none
abbrev pub ends : Option Entry → Answer
ends (some e) = given (e.low ∷ e.high ∷ [])
ends none = given []

-- [S2] the range at index i, or none if i is at least n
unfoldable pub range_at_call : List ℕ → ℕ → Outcome
range_at_call w i = asked w (λ es. ends (range_at es i))

-- [S3] size: empty, or the size less one; M for the full set
unfoldable pub size_call : List ℕ → Outcome
size_call w = asked w (λ es. less_one (size_of es))

-- [S4] the least member at or above x, or none
unfoldable pub least_member_call : List ℕ → ℕ → Outcome
least_member_call w x = asked w (λ es. optional (least_member es x))

-- [S5] the least non-member at or above x, or none: the least member of the complement within 0..M
abbrev pub non_member : List Entry → ℕ → Option ℕ
non_member es x = least_member (complement es) x

-- [S5] the same asked of a set block
unfoldable pub least_non_member_call : List ℕ → ℕ → Outcome
least_non_member_call w x = asked w (λ es. optional (non_member es x))

-- [S6] window a..b: the part that is handed back
abbrev pub set_window_call : List ℕ → ℕ → ℕ → Part
set_window_call w a b = window_call set_layout w a b

-- [S6] the same part as its place and its length
abbrev pub set_window_at_call : List ℕ → ℕ → ℕ → Outcome
set_window_at_call w a b = window_at_call set_layout w a b

-- [R20] its companion: the refusal, or that there is none
abbrev pub set_window_refusal_call : List ℕ → ℕ → ℕ → Outcome
set_window_refusal_call w a b = window_refusal_call set_layout w a b

-- [S9] insert a..b in place
abbrev pub insert_call : List ℕ → ℕ → ℕ → Outcome
insert_call w a b = edit_call set_layout w a b (some [])

-- [S10] remove a..b in place
abbrev pub remove_call : List ℕ → ℕ → ℕ → Outcome
remove_call w a b = edit_call set_layout w a b none

-- [R16, R17] a question about two sets: 1, 2, 3 of each in turn, then the answer
abbrev pub asked_two : List ℕ → List ℕ → (List Entry → List Entry → Answer) → Outcome
asked_two w v answer = in_turn (input 0 set_layout w ∷ input 1 set_layout v ∷ []) [] (outcome (answer (entries_of 2 w) (entries_of 2 v)) [])

-- [S7] equal: nothing is in just one of them
unfoldable pub equal_call : List ℕ → List ℕ → Outcome
equal_call w v = asked_two w v (λ es fs. truth (is_empty (symmetric_difference es fs)))

-- [S7] the first is within the second: nothing of the first is outside the second
unfoldable pub within_call : List ℕ → List ℕ → Outcome
within_call w v = asked_two w v (λ es fs. truth (is_empty (difference es fs)))

-- [S7] no common number
unfoldable pub disjoint_call : List ℕ → List ℕ → Outcome
disjoint_call w v = asked_two w v (λ es fs. truth (is_empty (intersection es fs)))

-- [S11] union: the numbers of either
unfoldable pub union_call : List ℕ → List ℕ → List ℕ → Outcome
union_call w v o = from_two set_layout set_layout set_layout union w v o

-- [S11] intersection: the numbers of both
unfoldable pub intersection_call : List ℕ → List ℕ → List ℕ → Outcome
intersection_call w v o = from_two set_layout set_layout set_layout intersection w v o

-- [S11] difference: the numbers of the first that are not in the second
unfoldable pub difference_call : List ℕ → List ℕ → List ℕ → Outcome
difference_call w v o = from_two set_layout set_layout set_layout difference w v o

-- [S11] symmetric difference: the numbers of exactly one
unfoldable pub symmetric_difference_call : List ℕ → List ℕ → List ℕ → Outcome
symmetric_difference_call w v o = from_two set_layout set_layout set_layout symmetric_difference w v o

-- [S12] complement within 0..M
unfoldable pub complement_call : List ℕ → List ℕ → Outcome
complement_call w o = from_one set_layout set_layout complement w o
