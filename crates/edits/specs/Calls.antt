-- What an edit in place answers and leaves: the sets' insert and remove, the maps' assign and erase.
use Rattle.std.proofs.Math.Option.{Option}
use Rattle.std.specs.Prelude.{List, [], ◌∷◌, ℕ, length}
use Rattle.entries.specs.Entries.{Value, Entry}
use Rattle.entries.specs.Build.{put}
use Rattle.answers.specs.Answers.{Finding}
use Rattle.answers.specs.Answers.{Outcome, in_turn}
use Rattle.blocks.specs.declared.Layout.{Layout}
use Rattle.blocks.specs.Blocks.{entries_of}
use Rattle.blocks.specs.Calls.{input, backwards, room, holding}

-- the entries of the block w with o on a..b
abbrev pub edited : Layout → List ℕ → ℕ → ℕ → Option Value → List Entry
edited l w a b o = put (entries_of l.width w) a b o

-- [R17] 1, 2, 3 of the block, then 4, then 5
abbrev pub edit_refusals : Layout → List ℕ → ℕ → ℕ → List Entry → List Finding
edit_refusals l w a b es = input 0 l w ∷ backwards a b ∷ room 0 l (length w) es ∷ []

-- [S9, S10, M2, M3] o on a..b, in a block of any layout
unfoldable pub edit_call : Layout → List ℕ → ℕ → ℕ → Option Value → Outcome
edit_call l w a b o = in_turn (edit_refusals l w a b (edited l w a b o)) (w ∷ []) (holding w (edited l w a b o))
