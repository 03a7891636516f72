-- A form is a value: the kind of its start, the kind of the items of each run, and the layout of the blocks that hold a run. Here are the
-- four that there are, the bytes of a form under a mark, what bytes say that are one, and the refusals of reading them.
use Rattle.std.specs.Prelude.{ℕ, suc, ◌+◌, ◌*◌, ◌≡◌, Bool, false, List, [], ◌∷◌, ◌++◌, ltb, eqb, length, take, drop}
use Rattle.entries.specs.Entries.{Each, Entry}
use Rattle.entries.specs.Build.{pick}
use Rattle.entries.specs.Bulletins.{shareb}
use Rattle.answers.specs.Answers.{at, applies}
use Rattle.answers.specs.Answers.{Finding}
use Rattle.blocks.specs.Blocks.{set_layout, map_layout, capacity, words_of, Lent}
use Rattle.blocks.specs.Calls.{output}
use Rattle.blocks.specs.declared.Layout.{Layout}
use Rattle.numbers.specs.Numbers.{num2, counts_in}
use Rattle.checks.specs.Check.{old_mark, new_mark}
use Rattle.records.specs.Records.{start_record, start_verdict}
use Rattle.verdicts.specs.declared.Form.{Form}
use Rattle.runs.specs.Runs.{Fine, total, lengths, runs_of, runs_in, runs_refusals}

-- [C3] the mark that all records of these bytes have to bear: the old one where the first two bytes are that, else the new one
unfoldable pub mark_of : List ℕ → ℕ
mark_of b = pick (eqb (num2 b 0) old_mark) old_mark new_mark

-- [Y3, Y6] «0x01 | start of a set», «0x10 | range of a set»
abbrev pub of_set : Form
of_set = record { start = 0x01; first = 0x10; second = 0x10; runs = 1; layout = set_layout }

-- [Y4, Y7] «0x02 | start of a map», «0x11 | entry of a map»
abbrev pub of_map : Form
of_map = record { start = 0x02; first = 0x11; second = 0x11; runs = 1; layout = map_layout }

-- [Y5, Y8] «0x03 | .. start of a bulletin», «0x12, 0x13 | released range, withdrawn range»
abbrev pub of_bulletin : Form
of_bulletin = record { start = 0x03; first = 0x12; second = 0x13; runs = 2; layout = set_layout }

-- [K6] the form of a signed set: start 0x04, ranges 0x14
abbrev pub of_signed : Form
of_signed = record { start = 0x04; first = 0x14; second = 0x14; runs = 1; layout = set_layout }

-- the kinds of the items, a run each
abbrev pub kinds_of : Form → List ℕ
kinds_of f = take f.runs (f.first ∷ f.second ∷ [])

-- [Y10, C3] «A set is its start and then n range records; a map likewise; a bulletin is its start, all released, all withdrawn.» All bear
-- one mark
unfoldable pub form_of : ℕ → Form → List (List Entry) → List ℕ
form_of mark f runs = start_record mark f.start (lengths runs) ++ runs_of mark (kinds_of f) runs

-- [Y10] the length of a start record, and of a form with these counts: «Sizes: set 7+21n, map 7+29n, bulletin 9+21(r+w).»
abbrev pub start_size : Form → ℕ
start_size f = 2 * f.runs + 5

abbrev pub size_of : Form → List ℕ → ℕ
size_of f counts = start_size f + (8 * f.layout.width + 5) * total counts

-- the counts in the start of a form, and the entries of its runs
abbrev pub form_counts : Form → List ℕ → List ℕ
form_counts f b = counts_in f.runs b 3

unfoldable pub form_entries : Form → List ℕ → List (List Entry)
form_entries f b = runs_in f.layout.width (kinds_of f) (form_counts f b) (drop (start_size f) b)

-- «a bulletin's two sets share a number»
abbrev pub sharing : List (List Entry) → Bool
sharing [] = false
sharing (es ∷ []) = false
sharing (es ∷ fs ∷ runs) = shareb es fs

-- [D4, Y10, C3] b is the byte form of these runs under its mark: as many as the form has, each fine and of 64-bit words, and they share no number
pub record Formed (f : Form) (b : List ℕ) (runs : List (List Entry)) : Type 0 where
  pub form : b ≡ form_of (mark_of b) f runs
  pub many : length runs ≡ f.runs
  pub fine : Each (Fine f.layout.width f.layout.limit) runs
  pub lent : Each (λ es. Lent (words_of es)) runs
  pub apart : sharing runs ≡ false

-- [R14, Y15] «14 Overlap: .. | 0»
abbrev pub overlap : List (List Entry) → Finding
overlap runs = at 0 (applies (sharing runs) 14)

-- [R13, Y15] «13 Trailing: bytes follow the last record | first of them»: the last record ends at place p
abbrev pub trailing : ℕ → List ℕ → Finding
trailing p b = at p (applies (ltb p (length b)) 13)

-- [Y12, Y13, Y15, C3] «Reading is asked for a set, a map or a bulletin, over the whole slice. For each record in turn: ..»: the start at place 0, then the
-- items, each with the mark of the first. «After the last record: 13, then 14»
unfoldable pub form_refusals : Form → List ℕ → List Finding
form_refusals f b =
    at 0 (start_verdict (mark_of b) f.start f.runs f.layout.limit b)
    ∷ (runs_refusals (mark_of b) f.layout.width (start_size f) (kinds_of f) (form_counts f b) (drop (start_size f) b)
    ++ (trailing (size_of f (form_counts f b)) b ∷ overlap (form_entries f b) ∷ []))

-- [R1, R5, Y15] «then 1 for each output block, then 5 for each»: the lengths of the blocks from a position on, and the counts of what they are to hold
abbrev pub no_blocks : ℕ → List ℕ → List Finding
no_blocks position [] = []
no_blocks position (l ∷ ls) = output position l ∷ no_blocks (suc position) ls

abbrev pub no_room_at : Layout → ℕ → ℕ → ℕ → Finding
no_room_at layout position l n = at position (applies (ltb (capacity layout l) n) 5)

abbrev pub no_rooms : Layout → ℕ → List ℕ → List ℕ → List Finding
no_rooms layout position [] counts = []
no_rooms layout position (l ∷ ls) [] = []
no_rooms layout position (l ∷ ls) (n ∷ counts) =
    no_room_at layout position l n ∷ no_rooms layout (suc position) ls counts

abbrev pub out_refusals : Layout → List ℕ → List ℕ → List Finding
out_refusals layout ls counts = no_blocks 0 ls ++ no_rooms layout 0 ls counts
