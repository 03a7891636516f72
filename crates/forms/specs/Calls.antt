-- What the calls of this crate answer and leave.
use Rattle.std.specs.Prelude.{ℕ, suc, ◌+◌, ◌-◌, Bool, true, List, [], ◌∷◌, ◌++◌, ltb, length, get_or, Result}
use Rattle.entries.specs.Entries.{Entry}
use Rattle.entries.specs.Build.{pick}
use Rattle.entries.specs.Sets.{member}
use Rattle.answers.specs.Answers.{Answer, given, refused, Outcome, outcome, truth, at, in_turn, applies}
use Rattle.answers.specs.Answers.{Finding}
use Rattle.answers.specs.Says.{says, one_value}
use Rattle.answers.specs.declared.Refusal.{Refusal}
use Rattle.blocks.specs.Blocks.{entries_of, block_of}
use Rattle.blocks.specs.Calls.{input}
use Rattle.blocks.specs.declared.Layout.{Layout}
use Rattle.numbers.specs.Numbers.{patch}
use Rattle.checks.specs.Check.{new_mark}
use Rattle.verdicts.specs.declared.Form.{Form}
use Rattle.runs.specs.Runs.{lengths}
use Rattle.verdicts.specs.Forms.{of_set, of_map, of_bulletin, of_signed, form_of, form_counts, form_entries, overlap, form_refusals, out_refusals}

-- each output as it is when it holds its run
abbrev pub stored_in : List (List ℕ) → List (List Entry) → List (List ℕ)
stored_in [] runs = []
stored_in (w ∷ ws) [] = []
stored_in (w ∷ ws) (es ∷ runs) = block_of (length w) es ∷ stored_in ws runs

-- [Y12, Y15] reading into blocks, one for each run: the refusals of the bytes, then those of the outputs
unfoldable pub read_call : Form → List ℕ → List (List ℕ) → Outcome
read_call f b outs =
    in_turn (form_refusals f b ++ out_refusals f.layout (lengths outs) (lengths (form_entries f b))) outs
    (outcome (given []) (stored_in outs (form_entries f b)))

abbrev pub read_set_call : List ℕ → List ℕ → Outcome
read_set_call b out = read_call of_set b (out ∷ [])

abbrev pub read_map_call : List ℕ → List ℕ → Outcome
read_map_call b out = read_call of_map b (out ∷ [])

-- [K6] a signed set is read into a set block, as the words of its keys
abbrev pub read_signed_call : List ℕ → List ℕ → Outcome
read_signed_call b out = read_call of_signed b (out ∷ [])

abbrev pub read_bulletin_call : List ℕ → List ℕ → List ℕ → Outcome
read_bulletin_call b released withdrawn = read_call of_bulletin b (released ∷ withdrawn ∷ [])

-- the entries that blocks say, and «for each input block in turn 1, 2, 3» from a position on
abbrev pub held_in : Layout → List (List ℕ) → List (List Entry)
held_in layout [] = []
held_in layout (w ∷ ws) = entries_of layout.width w ∷ held_in layout ws

abbrev pub inputs : Layout → ℕ → List (List ℕ) → List Finding
inputs layout position [] = []
inputs layout position (w ∷ ws) = input position layout w ∷ inputs layout (suc position) ws

-- [R15, Y16] «Refusal 15 exactly if p is above the buffer's length or the rest is too short.»
abbrev pub no_space : ℕ → ℕ → ℕ → Bool
no_space p size len = pick (ltb len p) true (ltb (len - p) size)

-- [R17] «for each input block in turn 1, 2, 3; .. 14; .. 15»
abbrev pub block_refusals : Form → List (List ℕ) → List Finding
block_refusals f ws = inputs f.layout 0 ws ++ (overlap (held_in f.layout ws) ∷ [])

abbrev pub write_refusals : Form → List (List ℕ) → ℕ → ℕ → ℕ → List Finding
write_refusals f ws size len p = block_refusals f ws ++ (at 0 (applies (no_space p size len) 15) ∷ [])

-- [Y16] a form, given by its bytes, at place p of a buffer: «the form is written into the part of the byte buffer that begins at p, and its
-- length is returned. .. Every other byte stays.»
abbrev pub written_at : ℕ → List ℕ → List ℕ → Outcome
written_at p form bytes = outcome (given (length form ∷ [])) (patch p form bytes ∷ [])

-- [Y16, C2] «Writing takes a byte buffer and a place p»: from blocks, one for each run. «Writers now write only these», of the new mark
unfoldable pub write_call : Form → List (List ℕ) → List ℕ → ℕ → Outcome
write_call f ws bytes p =
    in_turn (write_refusals f ws (length (form_of new_mark f (held_in f.layout ws))) (length bytes) p) (bytes ∷ [])
    (written_at p (form_of new_mark f (held_in f.layout ws)) bytes)

abbrev pub write_set_call : List ℕ → List ℕ → ℕ → Outcome
write_set_call w bytes p = write_call of_set (w ∷ []) bytes p

abbrev pub write_map_call : List ℕ → List ℕ → ℕ → Outcome
write_map_call w bytes p = write_call of_map (w ∷ []) bytes p

-- [K6] a signed set is written from a set block with the words of its keys
abbrev pub write_signed_call : List ℕ → List ℕ → ℕ → Outcome
write_signed_call w bytes p = write_call of_signed (w ∷ []) bytes p

abbrev pub write_bulletin_call : List ℕ → List ℕ → List ℕ → ℕ → Outcome
write_bulletin_call released withdrawn bytes p = write_call of_bulletin (released ∷ withdrawn ∷ []) bytes p

-- [H1] reading as far as 14, with nothing stored: «no block is needed». Its counts
unfoldable pub judge_call : Form → List ℕ → Outcome
judge_call f b = in_turn (form_refusals f b) [] (outcome (given (form_counts f b)) [])

abbrev pub judge_set_call : List ℕ → Outcome
judge_set_call b = judge_call of_set b

-- what judging the form of a set answers: its count, or a refusal
abbrev pub form_says : Result ℕ Refusal → Answer
form_says = says one_value

-- the set in a form: its first run
abbrev pub first_of : List (List Entry) → List Entry
first_of [] = []
first_of (es ∷ runs) = es

-- [H1] «The answer is one number: 1 member, 0 not, 16 plus the refusal number if reading refuses (8 to 13; no block is needed).»
abbrev pub one_number : Outcome → ℕ
one_number (outcome (given xs) lent) = get_or xs 0 0
one_number (outcome (refused number place) lent) = 16 + number

-- [H1, H2] «A C host asks with a byte buffer and a number whether the number is a member of the set in the buffer. .. The whole form is judged
-- before 1 or 0 is given.»
unfoldable pub member_of_form_call : List ℕ → ℕ → ℕ
member_of_form_call b x = one_number (in_turn (form_refusals of_set b) [] (outcome (truth (member (first_of (form_entries of_set b)) x)) []))
