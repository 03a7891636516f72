-- Refusals of reading, and the question on bytes, by computing the definitions (check and writing: the table of demands).
use Prim.Native.Nat.{ℕ}
use mathlib.Core.List.{List, [], ◌∷◌, ◌++◌}
use mathlib.Core.Path.{◌≡◌, refl}
use lib.ListN.{take, drop, replicate}
use Rattle.entries.specs.Entries.{Entry, entry}
use Rattle.entries.specs.Sets.{intersection}
use Rattle.entries.specs.Bulletins.{shareb}
use Rattle.answers.specs.Answers.{outcome, given, refused, refuse}
use Rattle.blocks.specs.Blocks.{block_of}
use Rattle.checks.specs.Check.{new_mark, fletcher, crc_bit, crc_byte, crc_from, check_of}
use Rattle.records.specs.Records.{body_length, said, saying, record_verdict}
use Rattle.runs.specs.Runs.{run_of, entries_in, run_refusals, runs_of, runs_in, runs_refusals}
use Rattle.verdicts.specs.Forms.{of_set, of_map, of_bulletin, mark_of, form_of, form_entries, form_refusals}
use Rattle.forms.specs.Calls.{read_call, read_set_call, read_map_call, read_bulletin_call, judge_call, judge_set_call, member_of_form_call}

abbrev set_form : List Entry → List ℕ
set_form es = form_of new_mark of_set (es ∷ [])

abbrev map_form : List Entry → List ℕ
map_form es = form_of new_mark of_map (es ∷ [])

abbrev bulletin_form : List Entry → List Entry → List ℕ
bulletin_form released withdrawn = form_of new_mark of_bulletin (released ∷ withdrawn ∷ [])

abbrev case_h : List ℕ
case_h = 0xC5 ∷ 0x3A ∷ 0x01 ∷ 0x00 ∷ 0x01 ∷ 0x04 ∷ 0x02 ∷ 0xC5 ∷ 0x3A ∷ 0x10 ∷ 0 ∷ 0 ∷ 0 ∷ 0 ∷ 0 ∷ 0 ∷ 0 ∷ 5 ∷ 0 ∷ 0 ∷ 0 ∷ 0 ∷ 0 ∷ 0 ∷ 0 ∷ 9 ∷ 0x47 ∷ 0x1E ∷ []

abbrev case_i : List ℕ
case_i = 0xC5 ∷ 0x3A ∷ 0x01 ∷ 0x00 ∷ 0x00 ∷ 0x03 ∷ 0x01 ∷ []

-- [C1] the same set with the new mark
abbrev case_hnew : List ℕ
case_hnew =
    0xC5 ∷ 0x3B ∷ 0x01 ∷ 0x00 ∷ 0x01 ∷ 0xEB ∷ 0x8D
    ∷ 0xC5 ∷ 0x3B ∷ 0x10 ∷ 0 ∷ 0 ∷ 0 ∷ 0 ∷ 0 ∷ 0 ∷ 0 ∷ 5 ∷ 0 ∷ 0 ∷ 0 ∷ 0 ∷ 0 ∷ 0 ∷ 0 ∷ 9 ∷ 0x3F ∷ 0x08 ∷ []

-- [R8, R9, R10, R13, Y12, Y13, Y15] each refusal of reading a set: 8 before and inside a record, 9, 10, 13, then 1 and 5 of the output
set_refusals :
    read_set_call [] [] ∷ read_set_call (take 6 case_i) [] ∷ read_set_call (take 7 case_h) [] ∷ read_set_call (take 27 case_h) []
    ∷ read_set_call (0xC5 ∷ 0x3C ∷ drop 2 case_h) [] ∷ read_set_call (map_form []) [] ∷ read_set_call (case_h ++
    (0 ∷ [])) [] ∷ read_set_call case_h [] ∷ read_set_call case_h (7 ∷ 7 ∷ []) ∷ []
    ≡ refuse 8 0 ([] ∷ []) ∷ refuse 8 0 ([] ∷ []) ∷ refuse 8 7 ([] ∷ []) ∷ refuse 8 7 ([] ∷ [])
    ∷ refuse 9 0 ([] ∷ []) ∷ refuse 10 0 ([] ∷ []) ∷ refuse 13 28 ([] ∷ []) ∷ refuse 1 0 ([] ∷ []) ∷ refuse 5 0 ((7 ∷ 7 ∷ []) ∷ []) ∷ []
unfolding mark_of form_of runs_of run_of saying read_call form_refusals form_entries runs_refusals run_refusals runs_in entries_in said
    record_verdict body_length check_of fletcher crc_from crc_byte crc_bit block_of
set_refusals = refl

-- [C3] marks: the new mark before a record of the old form, 11; an old start and a new range and the reverse, 9 at the range; whole, 1 of the output
marks :
    read_set_call (0xC5 ∷ 0x3B ∷ drop 2 case_h) [] ∷ read_set_call (take 7 case_h ++ drop 7 case_hnew) [] ∷ read_set_call (take 7 case_hnew ++ drop 7 case_h) []
    ∷ read_set_call case_hnew [] ∷ read_set_call (take 27 case_hnew ++ (9 ∷ [])) [] ∷ []
    ≡ refuse 11 0 ([] ∷ []) ∷ refuse 9 7 ([] ∷ []) ∷ refuse 9 7 ([] ∷ []) ∷ refuse 1 0 ([] ∷ []) ∷ refuse 11 7 ([] ∷ []) ∷ []
unfolding read_call form_refusals form_entries mark_of runs_refusals run_refusals runs_in entries_in said record_verdict body_length check_of fletcher crc_from
    crc_byte crc_bit block_of
marks = refl

-- [R12, Y13, Y14] 12 blames the later of two items: backwards, touching in a set, touching with the same value in a map; other values may touch
contents :
    read_set_call (set_form (entry 9 5 [] ∷ [])) [] ∷ read_set_call (set_form (entry 1 4 [] ∷ entry 5 6 [] ∷ [])) []
    ∷ read_map_call (map_form (entry 1 4 (2 ∷ []) ∷ entry 5 6 (2 ∷ []) ∷ [])) []
    ∷ read_map_call (map_form (entry 1 4 (2 ∷ []) ∷ entry 5 6 (3 ∷ []) ∷ [])) (replicate 8 9) ∷ []
    ≡ refuse 12 7 ([] ∷ []) ∷ refuse 12 28 ([] ∷ [])
    ∷ refuse 12 36 ([] ∷ []) ∷ outcome (given []) ((2 ∷ 1 ∷ 4 ∷ 2 ∷ 5 ∷ 6 ∷ 3 ∷ 0 ∷ []) ∷ []) ∷ []
unfolding mark_of form_of runs_of run_of saying read_call form_refusals form_entries runs_refusals run_refusals runs_in entries_in said
    record_verdict body_length check_of fletcher crc_from crc_byte crc_bit block_of
contents = refl

-- [R14, Y15] a bulletin that releases 1..4 and withdraws 9..9, and one whose sets overlap
bulletins :
    read_bulletin_call (bulletin_form (entry 1 4 [] ∷ []) (entry 9 9 [] ∷ [])) (7 ∷ 7 ∷ 7 ∷ []) (7 ∷ 7 ∷ 7 ∷ 7 ∷ [])
    ∷ read_bulletin_call (bulletin_form (entry 1 4 [] ∷ []) (entry 3 9 [] ∷ [])) [] [] ∷ []
    ≡ outcome (given []) ((1 ∷ 1 ∷ 4 ∷ []) ∷ (1 ∷ 9 ∷ 9 ∷ 0 ∷ []) ∷ []) ∷ refuse 14 0 ([] ∷ [] ∷ []) ∷ []
unfolding mark_of form_of runs_of run_of saying read_call form_refusals form_entries runs_refusals run_refusals runs_in entries_in said
    record_verdict body_length check_of fletcher crc_from crc_byte crc_bit block_of shareb intersection
bulletins = refl

-- [H1, H2] «1 member, 0 not, 16 plus the refusal number»
judged_alone : judge_set_call case_h ∷ judge_set_call (take 27 case_h) ∷ [] ≡ outcome (given (1 ∷ [])) [] ∷ outcome (refused 8 7) [] ∷ []
unfolding judge_call mark_of form_refusals form_entries runs_refusals run_refusals runs_in entries_in said record_verdict body_length check_of fletcher
judged_alone = refl

asked : member_of_form_call case_h 9 ∷ member_of_form_call case_h 4 ∷ member_of_form_call (take 27 case_h) 9 ∷ [] ≡ 1 ∷ 0 ∷ 24 ∷ []
unfolding member_of_form_call mark_of form_refusals form_entries runs_refusals run_refusals runs_in entries_in said record_verdict body_length check_of fletcher
asked = refl
