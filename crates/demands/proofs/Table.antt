-- The worked numbers of the requirements that are marked *, and a row or more for every other call on blocks: each a call and the outcome
-- that is due, in one table, proved against the definitions by one statement. A wrong row would be reported by its index.
use mathlib.Core.Path.{◌≡◌, refl}
use mathlib.Core.Bool.{Bool, true, false}
use mathlib.Core.List.{List, [], ◌∷◌, ◌++◌}
use Prim.Native.Nat.{ℕ, suc, ◌-◌, ◌^◌}
use lib.Dec.{eqb}
use lib.IntN.{ℤ, pos, negsuc}
use lib.ListN.{take, drop, replicate}
use Rattle.keys.specs.Keys.{word_of, key_of, apart_of, turned}
use Rattle.entries.specs.Build.{pick, andb, same_words, put}
use Rattle.entries.specs.Sets.{M, union, intersection, difference, complement}
use Rattle.entries.specs.Bulletins.{shareb}
use Rattle.answers.specs.Answers.{Answer, given, refused, Outcome, outcome}
use Rattle.blocks.specs.Blocks.{block_of, verdict}
use Rattle.edits.specs.Calls.{edit_call}
use Rattle.sets.specs.Calls.{member_call, size_call, least_non_member_call, insert_call, remove_call, union_call, complement_call}
use Rattle.fits.specs.Fits.{gaps, place_in}
use Rattle.fits.specs.Calls.{fit_call, reserve_call, first_fit_call, best_fit_call, reserve_first_call, reserve_best_call}
use Rattle.fits.specs.Calls.{fit_aligned_call, reserve_aligned_call, first_fit_aligned_call, best_fit_aligned_call, reserve_first_aligned_call, reserve_best_aligned_call}
use Rattle.fits.specs.Fits.{aligned}
use Rattle.tilings.specs.Prefixes.{largest, taken, prefixes, audit}
use Rattle.prefixes.specs.Calls.{prefix_call, audit_call}
use Rattle.maps.specs.Calls.{assign_call}
use Rattle.entries.specs.Sets.{symmetric_difference}
use Rattle.entries.specs.Maps.{overlay, restriction, domain}
use Rattle.answers.specs.declared.Reason.TheVariants.{Overlap}
use Rattle.std.specs.Prelude.{Ok, Some}
use Rattle.answers.specs.Says.{number_of, at_place, refusal_says, judged_says, refusal_of, judged_of}
use Rattle.answers.specs.Says.{found_key_says, ranged_keys_says, placed_key_says, apart_says}
use Rattle.searches.specs.Parts.{part_says}
use Rattle.searches.specs.Calls.{window_call, window_at_call, window_refusal_call}
use Rattle.sets.specs.Calls.{make_empty_call, range_at_call, least_member_call, set_window_call, set_window_at_call, set_window_refusal_call}
use Rattle.sets.specs.Calls.{equal_call, within_call, disjoint_call, intersection_call, difference_call, symmetric_difference_call}
use Rattle.maps.specs.Calls.{look_up_call, erase_call, overlay_call, restriction_call, domain_call, map_window_call, map_window_at_call, map_window_refusal_call}
use Rattle.maps.specs.Calls.{deciding_says, site_over_factory_call, site_over_factory_at_call, site_refusal_call}
use Rattle.bulletins.specs.Calls.{apply_call, fold_call}
use Rattle.checks.specs.Check.{fletcher, crc_bit, crc_byte, crc_from, check_of}
use Rattle.records.specs.Records.{body_length, said, saying, record_verdict}
use Rattle.runs.specs.Runs.{run_of, entries_in, run_refusals, runs_of, runs_in, runs_refusals}
use Rattle.verdicts.specs.Forms.{mark_of, form_of, form_entries, form_refusals}
use Rattle.forms.specs.Calls.{read_call, write_call, read_set_call, write_set_call, read_map_call, write_map_call, read_bulletin_call, write_bulletin_call}
use Rattle.forms.specs.Calls.{read_signed_call, write_signed_call}

pub record Case : Type 0 where
  pub got : Outcome
  pub due : Outcome

abbrev case : Outcome → Outcome → Case
case g d = record { got = g; due = d }

abbrev same_answer : Answer → Answer → Bool
same_answer (given a) (given b) = same_words a b
same_answer (given a) (refused n p) = false
same_answer (refused n p) (given b) = false
same_answer (refused n p) (refused m q) = andb (eqb n m) (eqb p q)

abbrev same_lent : List (List ℕ) → List (List ℕ) → Bool
same_lent [] [] = true
same_lent [] (y ∷ ys) = false
same_lent (x ∷ xs) [] = false
same_lent (x ∷ xs) (y ∷ ys) = andb (same_words x y) (same_lent xs ys)

abbrev same_outcome : Outcome → Outcome → Bool
same_outcome (outcome a v) (outcome b w) = andb (same_answer a b) (same_lent v w)

-- the indices of the rows that are wrong
abbrev wrong : ℕ → List Case → List ℕ
wrong i [] = []
wrong i (c ∷ cs) = pick (same_outcome c.got c.due) (wrong (suc i) cs) (i ∷ wrong (suc i) cs)

-- a change accepted, with the block as it then is; one refused, with the block as it was; a question's answer
abbrev accepted : List ℕ → Outcome
accepted w = outcome (given []) (w ∷ [])

abbrev refusing : ℕ → ℕ → List ℕ → Outcome
refusing number place w = outcome (refused number place) (w ∷ [])

abbrev answer : List ℕ → Outcome
answer xs = outcome (given xs) []

-- the number before the last
abbrev less_m : ℕ
less_m = M - 1

-- the set of case F
abbrev F : List ℕ
F = 3 ∷ 0 ∷ 3 ∷ 8 ∷ 9 ∷ 12 ∷ M ∷ []

-- the set in which a number's place is asked for
abbrev W : List ℕ
W = 2 ∷ 5 ∷ 9 ∷ 20 ∷ 29 ∷ []

-- the bytes of cases H and I
abbrev H : List ℕ
H = 0xC5 ∷ 0x3A ∷ 0x01 ∷ 0x00 ∷ 0x01 ∷ 0x04 ∷ 0x02 ∷ 0xC5 ∷ 0x3A ∷ 0x10 ∷ 0 ∷ 0 ∷ 0 ∷ 0 ∷ 0 ∷ 0 ∷ 0 ∷ 5 ∷ 0 ∷ 0 ∷ 0 ∷ 0 ∷ 0 ∷ 0 ∷ 0 ∷ 9 ∷ 0x47 ∷ 0x1E ∷ []

abbrev I : List ℕ
I = 0xC5 ∷ 0x3A ∷ 0x01 ∷ 0x00 ∷ 0x00 ∷ 0x03 ∷ 0x01 ∷ []

-- the bytes of the map {0..9 is 1}, and of the bulletin that releases 1..4 and withdraws 9..9
abbrev one_entry : List ℕ
one_entry =
    0xC5 ∷ 0x3A ∷ 2 ∷ 0 ∷ 1 ∷ 7 ∷ 3
    ∷ 0xC5 ∷ 0x3A ∷ 0x11 ∷ 0 ∷ 0 ∷ 0 ∷ 0 ∷ 0 ∷ 0 ∷ 0 ∷ 0 ∷ 0 ∷ 0 ∷ 0 ∷ 0 ∷ 0 ∷ 0 ∷ 0 ∷ 9 ∷ 0 ∷ 0 ∷ 0 ∷ 0 ∷ 0 ∷ 0 ∷ 0 ∷ 1 ∷ 0xFC ∷ 0x1B ∷ []

abbrev one_each : List ℕ
one_each =
    0xC5 ∷ 0x3A ∷ 3 ∷ 0 ∷ 1 ∷ 0 ∷ 1 ∷ 0x13 ∷ 5
    ∷ 0xC5 ∷ 0x3A ∷ 0x12 ∷ 0 ∷ 0 ∷ 0 ∷ 0 ∷ 0 ∷ 0 ∷ 0 ∷ 1 ∷ 0 ∷ 0 ∷ 0 ∷ 0 ∷ 0 ∷ 0 ∷ 0 ∷ 4 ∷ 0x40 ∷ 0x17
    ∷ 0xC5 ∷ 0x3A ∷ 0x13 ∷ 0 ∷ 0 ∷ 0 ∷ 0 ∷ 0 ∷ 0 ∷ 0 ∷ 9 ∷ 0 ∷ 0 ∷ 0 ∷ 0 ∷ 0 ∷ 0 ∷ 0 ∷ 9 ∷ 0x9E ∷ 0x25 ∷ []

-- the sets {5..9} and {0..0, 2..3, M..M}, and their prefix blocks
abbrev five_to_nine : List ℕ
five_to_nine = 1 ∷ 5 ∷ 9 ∷ []

abbrev blocks_of_five : List ℕ
blocks_of_five = 3 ∷ 5 ∷ 0 ∷ 6 ∷ 1 ∷ 8 ∷ 1 ∷ []

abbrev both_ends : List ℕ
both_ends = 3 ∷ 0 ∷ 0 ∷ 2 ∷ 3 ∷ M ∷ M ∷ []

abbrev blocks_of_ends : List ℕ
blocks_of_ends = 3 ∷ 0 ∷ 0 ∷ 2 ∷ 1 ∷ M ∷ 0 ∷ 0 ∷ 0 ∷ []

-- word 0 of the one block that a call has left
abbrev first_word : Outcome → Outcome
first_word (outcome a []) = answer []
first_word (outcome a (w ∷ ws)) = answer (take 1 w)

-- keys below 0, from 1 on
abbrev less : ℕ → ℤ
less n = negsuc (n - 1)

abbrev least_key : ℤ
least_key = less (2 ^ 63)

abbrev most_key : ℤ
most_key = pos (2 ^ 63 - 1)

-- the signed set {-5..3} in words, and its bytes, which tests/differential has from the model
abbrev K : List ℕ
K = 1 ∷ 9223372036854775803 ∷ 9223372036854775811 ∷ []

abbrev key_bytes : List ℕ
key_bytes =
    0xC5 ∷ 0x3A ∷ 4 ∷ 0 ∷ 1 ∷ 0x0D ∷ 5
    ∷ 0xC5 ∷ 0x3A ∷ 0x14 ∷ 0xFF ∷ 0xFF ∷ 0xFF ∷ 0xFF ∷ 0xFF ∷ 0xFF ∷ 0xFF ∷ 0xFB ∷ 0 ∷ 0 ∷ 0 ∷ 0 ∷ 0 ∷ 0 ∷ 0 ∷ 3 ∷ 0x34 ∷ 0x13 ∷ []

-- the bytes of every key but -1
abbrev all_but_one : List ℕ
all_but_one =
    0xC5 ∷ 0x3A ∷ 4 ∷ 0 ∷ 2 ∷ 0x0E ∷ 6
    ∷ 0xC5 ∷ 0x3A ∷ 0x14 ∷ 0x80 ∷ 0 ∷ 0 ∷ 0 ∷ 0 ∷ 0 ∷ 0 ∷ 0 ∷ 0xFF ∷ 0xFF ∷ 0xFF ∷ 0xFF ∷ 0xFF ∷ 0xFF ∷ 0xFF ∷ 0xFE ∷ 0x5C ∷ 0x93
    ∷ 0xC5 ∷ 0x3A ∷ 0x14 ∷ 0 ∷ 0 ∷ 0 ∷ 0 ∷ 0 ∷ 0 ∷ 0 ∷ 0 ∷ 0x7F ∷ 0xFF ∷ 0xFF ∷ 0xFF ∷ 0xFF ∷ 0xFF ∷ 0xFF ∷ 0xFF ∷ 0x51 ∷ 0x93 ∷ []

-- bytes with 3..3 before -5..-1, and with -5..-1 before 0..3
abbrev by_their_bytes : List ℕ
by_their_bytes =
    0xC5 ∷ 0x3A ∷ 4 ∷ 0 ∷ 2 ∷ 0x0E ∷ 6
    ∷ 0xC5 ∷ 0x3A ∷ 0x14 ∷ 0 ∷ 0 ∷ 0 ∷ 0 ∷ 0 ∷ 0 ∷ 0 ∷ 3 ∷ 0 ∷ 0 ∷ 0 ∷ 0 ∷ 0 ∷ 0 ∷ 0 ∷ 3 ∷ 0x73 ∷ 0x1A
    ∷ 0xC5 ∷ 0x3A ∷ 0x14 ∷ 0xFF ∷ 0xFF ∷ 0xFF ∷ 0xFF ∷ 0xFF ∷ 0xFF ∷ 0xFF ∷ 0xFB ∷ 0xFF ∷ 0xFF ∷ 0xFF ∷ 0xFF ∷ 0xFF ∷ 0xFF ∷ 0xFF ∷ 0xFF ∷ 0x31 ∷ 0x10 ∷ []

abbrev touching_keys : List ℕ
touching_keys =
    0xC5 ∷ 0x3A ∷ 4 ∷ 0 ∷ 2 ∷ 0x0E ∷ 6
    ∷ 0xC5 ∷ 0x3A ∷ 0x14 ∷ 0xFF ∷ 0xFF ∷ 0xFF ∷ 0xFF ∷ 0xFF ∷ 0xFF ∷ 0xFF ∷ 0xFB ∷ 0xFF ∷ 0xFF ∷ 0xFF ∷ 0xFF ∷ 0xFF ∷ 0xFF ∷ 0xFF ∷ 0xFF ∷ 0x31 ∷ 0x10
    ∷ 0xC5 ∷ 0x3A ∷ 0x14 ∷ 0 ∷ 0 ∷ 0 ∷ 0 ∷ 0 ∷ 0 ∷ 0 ∷ 0 ∷ 0 ∷ 0 ∷ 0 ∷ 0 ∷ 0 ∷ 0 ∷ 0 ∷ 3 ∷ 0x58 ∷ 0x17 ∷ []

-- [C1] the same sets, map, bulletin and sets of keys in the new form, and {0..0} and {0..M} in both: case O
abbrev Hnew : List ℕ
Hnew =
    0xC5 ∷ 0x3B ∷ 1 ∷ 0 ∷ 1 ∷ 0xEB ∷ 0x8D
    ∷ 0xC5 ∷ 0x3B ∷ 0x10 ∷ 0 ∷ 0 ∷ 0 ∷ 0 ∷ 0 ∷ 0 ∷ 0 ∷ 5 ∷ 0 ∷ 0 ∷ 0 ∷ 0 ∷ 0 ∷ 0 ∷ 0 ∷ 9 ∷ 0x3F ∷ 8 ∷ []

abbrev Inew : List ℕ
Inew = 0xC5 ∷ 0x3B ∷ 1 ∷ 0 ∷ 0 ∷ 0xFB ∷ 0xAC ∷ []

abbrev one_entry_new : List ℕ
one_entry_new =
    0xC5 ∷ 0x3B ∷ 2 ∷ 0 ∷ 1 ∷ 0xB2 ∷ 0xDD
    ∷ 0xC5 ∷ 0x3B ∷ 0x11 ∷ 0 ∷ 0 ∷ 0 ∷ 0 ∷ 0 ∷ 0 ∷ 0 ∷ 0 ∷ 0 ∷ 0 ∷ 0 ∷ 0 ∷ 0 ∷ 0 ∷ 0 ∷ 9 ∷ 0 ∷ 0 ∷ 0 ∷ 0 ∷ 0 ∷ 0 ∷ 0 ∷ 1 ∷ 0x0A ∷ 0x4C ∷ []

abbrev one_each_new : List ℕ
one_each_new =
    0xC5 ∷ 0x3B ∷ 3 ∷ 0 ∷ 1 ∷ 0 ∷ 1 ∷ 0xD8 ∷ 0xCF
    ∷ 0xC5 ∷ 0x3B ∷ 0x12 ∷ 0 ∷ 0 ∷ 0 ∷ 0 ∷ 0 ∷ 0 ∷ 0 ∷ 1 ∷ 0 ∷ 0 ∷ 0 ∷ 0 ∷ 0 ∷ 0 ∷ 0 ∷ 4 ∷ 0x53 ∷ 0x8E
    ∷ 0xC5 ∷ 0x3B ∷ 0x13 ∷ 0 ∷ 0 ∷ 0 ∷ 0 ∷ 0 ∷ 0 ∷ 0 ∷ 9 ∷ 0 ∷ 0 ∷ 0 ∷ 0 ∷ 0 ∷ 0 ∷ 0 ∷ 9 ∷ 0xBB ∷ 0x3E ∷ []

abbrev key_bytes_new : List ℕ
key_bytes_new =
    0xC5 ∷ 0x3B ∷ 4 ∷ 0 ∷ 1 ∷ 0 ∷ 0x7D
    ∷ 0xC5 ∷ 0x3B ∷ 0x14 ∷ 0xFF ∷ 0xFF ∷ 0xFF ∷ 0xFF ∷ 0xFF ∷ 0xFF ∷ 0xFF ∷ 0xFB ∷ 0 ∷ 0 ∷ 0 ∷ 0 ∷ 0 ∷ 0 ∷ 0 ∷ 3 ∷ 0x90 ∷ 0x49 ∷ []

abbrev all_but_one_new : List ℕ
all_but_one_new =
    0xC5 ∷ 0x3B ∷ 4 ∷ 0 ∷ 2 ∷ 0x30 ∷ 0x1E
    ∷ 0xC5 ∷ 0x3B ∷ 0x14 ∷ 0x80 ∷ 0 ∷ 0 ∷ 0 ∷ 0 ∷ 0 ∷ 0 ∷ 0 ∷ 0xFF ∷ 0xFF ∷ 0xFF ∷ 0xFF ∷ 0xFF ∷ 0xFF ∷ 0xFF ∷ 0xFE ∷ 0x24 ∷ 0xD4
    ∷ 0xC5 ∷ 0x3B ∷ 0x14 ∷ 0 ∷ 0 ∷ 0 ∷ 0 ∷ 0 ∷ 0 ∷ 0 ∷ 0 ∷ 0x7F ∷ 0xFF ∷ 0xFF ∷ 0xFF ∷ 0xFF ∷ 0xFF ∷ 0xFF ∷ 0xFF ∷ 0xC1 ∷ 5 ∷ []

abbrev only_zero : List ℕ
only_zero =
    0xC5 ∷ 0x3A ∷ 1 ∷ 0 ∷ 1 ∷ 4 ∷ 2
    ∷ 0xC5 ∷ 0x3A ∷ 0x10 ∷ 0 ∷ 0 ∷ 0 ∷ 0 ∷ 0 ∷ 0 ∷ 0 ∷ 0 ∷ 0 ∷ 0 ∷ 0 ∷ 0 ∷ 0 ∷ 0 ∷ 0 ∷ 0 ∷ 0x11 ∷ 0x10 ∷ []

abbrev only_zero_new : List ℕ
only_zero_new =
    0xC5 ∷ 0x3B ∷ 1 ∷ 0 ∷ 1 ∷ 0xEB ∷ 0x8D
    ∷ 0xC5 ∷ 0x3B ∷ 0x10 ∷ 0 ∷ 0 ∷ 0 ∷ 0 ∷ 0 ∷ 0 ∷ 0 ∷ 0 ∷ 0 ∷ 0 ∷ 0 ∷ 0 ∷ 0 ∷ 0 ∷ 0 ∷ 0 ∷ 0xD9 ∷ 0xED ∷ []

abbrev whole_line : List ℕ
whole_line =
    0xC5 ∷ 0x3A ∷ 1 ∷ 0 ∷ 1 ∷ 4 ∷ 2
    ∷ 0xC5 ∷ 0x3A ∷ 0x10 ∷ 0 ∷ 0 ∷ 0 ∷ 0 ∷ 0 ∷ 0 ∷ 0 ∷ 0 ∷ 0xFF ∷ 0xFF ∷ 0xFF ∷ 0xFF ∷ 0xFF ∷ 0xFF ∷ 0xFF ∷ 0xFF ∷ 0x11 ∷ 0x10 ∷ []

abbrev whole_line_new : List ℕ
whole_line_new =
    0xC5 ∷ 0x3B ∷ 1 ∷ 0 ∷ 1 ∷ 0xEB ∷ 0x8D
    ∷ 0xC5 ∷ 0x3B ∷ 0x10 ∷ 0 ∷ 0 ∷ 0 ∷ 0 ∷ 0 ∷ 0 ∷ 0 ∷ 0 ∷ 0xFF ∷ 0xFF ∷ 0xFF ∷ 0xFF ∷ 0xFF ∷ 0xFF ∷ 0xFF ∷ 0xFF ∷ 0x7F ∷ 0x0C ∷ []

-- what is left of a block that was read, written at the front of 28 bytes
abbrev rewritten : Outcome → Outcome
rewritten (outcome a []) = answer []
rewritten (outcome a (w ∷ ws)) = write_set_call w (replicate 28 7) 0

abbrev table : List Case
table =
    -- [N-A, B1, B2] empty, insert 5..9
    case (insert_call (0 ∷ 0 ∷ 0 ∷ []) 5 9) (accepted (1 ∷ 5 ∷ 9 ∷ []))
    -- [N-B, N-C, B7, B8] {5..9} insert 10..12; insert 11..12 instead; the words after the stored form are not read, and are 0 afterwards
    ∷ case (insert_call (1 ∷ 5 ∷ 9 ∷ 7 ∷ 7 ∷ []) 10 12) (accepted (1 ∷ 5 ∷ 12 ∷ 0 ∷ 0 ∷ []))
    ∷ case (insert_call (1 ∷ 5 ∷ 9 ∷ 7 ∷ 7 ∷ []) 11 12) (accepted (2 ∷ 5 ∷ 9 ∷ 11 ∷ 12 ∷ []))
    -- [N-D] {0..M} remove 7..7
    ∷ case (remove_call (1 ∷ 0 ∷ M ∷ 0 ∷ 0 ∷ []) 7 7) (accepted (2 ∷ 0 ∷ 6 ∷ 8 ∷ M ∷ []))
    -- [N-E, R18] complement of empty, its size less one, no non-member at or above 0
    ∷ case (complement_call (0 ∷ []) (9 ∷ 9 ∷ 9 ∷ [])) (accepted (1 ∷ 0 ∷ M ∷ []))
    ∷ case (size_call (1 ∷ 0 ∷ M ∷ [])) (answer (M ∷ []))
    ∷ case (least_non_member_call (1 ∷ 0 ∷ M ∷ []) 0) (answer [])
    -- [N-F, F1, R7] {0..3, 8..9, 12..M}, window 0..M: k = 2 first fit 4, best fit 10; k = 3 both 4; k = 5 refusal 7
    ∷ case (first_fit_call F 0 M 2) (answer (4 ∷ []))
    ∷ case (best_fit_call F 0 M 2) (answer (10 ∷ []))
    ∷ case (first_fit_call F 0 M 3) (answer (4 ∷ []))
    ∷ case (best_fit_call F 0 M 3) (answer (4 ∷ []))
    ∷ case (first_fit_call F 0 M 5) (outcome (refused 7 0) [])
    ∷ case (best_fit_call F 0 M 5) (outcome (refused 7 0) [])
    -- [F4] the reservation of the best fit of 2 fills the gap 10..11 and leaves 0 in the words that come free
    ∷ case (reserve_best_call F 0 M 2) (outcome (given (10 ∷ [])) ((2 ∷ 0 ∷ 3 ∷ 8 ∷ M ∷ 0 ∷ 0 ∷ []) ∷ []))
    -- [F5, R0] three words holding {5..9}: the first fit 0 is refused for want of room though 4 would join; 4 where the window begins there
    ∷ case (reserve_first_call (1 ∷ 5 ∷ 9 ∷ []) 0 M 1) (refusing 5 0 (1 ∷ 5 ∷ 9 ∷ []))
    ∷ case (reserve_first_call (1 ∷ 5 ∷ 9 ∷ []) 4 M 1) (outcome (given (4 ∷ [])) ((1 ∷ 4 ∷ 9 ∷ []) ∷ []))
    -- [F1, R17] the longest run that can be asked for, in a gap of 2^64 numbers; 4 comes before 6
    ∷ case (best_fit_call (0 ∷ []) 0 M M) (answer (0 ∷ []))
    ∷ case (first_fit_call (0 ∷ []) 5 4 0) (outcome (refused 4 0) [])
    -- [N-G] {0..9 is 1}: assign 2 to 3..5 gives three entries; then assign 1 to 3..5 gives {0..9 is 1}
    ∷ case (assign_call (1 ∷ 0 ∷ 9 ∷ 1 ∷ 0 ∷ 0 ∷ 0 ∷ 0 ∷ 0 ∷ 0 ∷ []) 3 5 2) (accepted (3 ∷ 0 ∷ 2 ∷ 1 ∷ 3 ∷ 5 ∷ 2 ∷ 6 ∷ 9 ∷ 1 ∷ []))
    ∷ case (assign_call (3 ∷ 0 ∷ 2 ∷ 1 ∷ 3 ∷ 5 ∷ 2 ∷ 6 ∷ 9 ∷ 1 ∷ []) 3 5 1) (accepted (1 ∷ 0 ∷ 9 ∷ 1 ∷ 0 ∷ 0 ∷ 0 ∷ 0 ∷ 0 ∷ 0 ∷ []))
    -- [N-H, R11, Y1, Y2, Y3, Y6, Y10, Y11, C6] {5..9} in the old form, read; with its last byte 1F refused 11 at 7
    ∷ case (read_set_call H (7 ∷ 7 ∷ 7 ∷ 7 ∷ 7 ∷ [])) (accepted (1 ∷ 5 ∷ 9 ∷ 0 ∷ 0 ∷ []))
    ∷ case (read_set_call (take 27 H ++ (0x1F ∷ [])) (7 ∷ 7 ∷ 7 ∷ [])) (refusing 11 7 (7 ∷ 7 ∷ 7 ∷ []))
    -- [N-H, Y16, C1, C2] in the new form, read and written; with its last byte 09 refused 11 at 7
    ∷ case (read_set_call Hnew (7 ∷ 7 ∷ 7 ∷ 7 ∷ 7 ∷ [])) (accepted (1 ∷ 5 ∷ 9 ∷ 0 ∷ 0 ∷ []))
    ∷ case (write_set_call (1 ∷ 5 ∷ 9 ∷ []) (replicate 30 7) 1) (outcome (given (28 ∷ [])) ((7 ∷ (Hnew ++ (7 ∷ []))) ∷ []))
    ∷ case (read_set_call (take 27 Hnew ++ (9 ∷ [])) (7 ∷ 7 ∷ 7 ∷ [])) (refusing 11 7 (7 ∷ 7 ∷ 7 ∷ []))
    -- [C5] the old form read and written gives the new form, and so does the new one
    ∷ case (rewritten (read_set_call H (7 ∷ 7 ∷ 7 ∷ []))) (outcome (given (28 ∷ [])) (Hnew ∷ []))
    ∷ case (rewritten (read_set_call Hnew (7 ∷ 7 ∷ 7 ∷ []))) (outcome (given (28 ∷ [])) (Hnew ∷ []))
    -- [R9, C3] an old start with a new range, the reverse, a third mark in the range, refused 9 at 7; in the start, 9 at 0; the new mark before
    -- the rest of the old form is another check, 11 at 0
    ∷ case (read_set_call (take 7 H ++ drop 7 Hnew) (7 ∷ [])) (refusing 9 7 (7 ∷ []))
    ∷ case (read_set_call (take 7 Hnew ++ drop 7 H) (7 ∷ [])) (refusing 9 7 (7 ∷ []))
    ∷ case (read_set_call (take 7 Hnew ++ (0xC5 ∷ 0x3C ∷ drop 9 Hnew)) (7 ∷ [])) (refusing 9 7 (7 ∷ []))
    ∷ case (read_set_call (0xC5 ∷ 0x3C ∷ drop 2 Hnew) (7 ∷ [])) (refusing 9 0 (7 ∷ []))
    ∷ case (read_set_call (0xC5 ∷ 0x3B ∷ drop 2 H) (7 ∷ [])) (refusing 11 0 (7 ∷ []))
    -- [N-I] the empty set in the old form, read; in the new form, read and written
    ∷ case (read_set_call I (7 ∷ [])) (accepted (0 ∷ []))
    ∷ case (read_set_call Inew (7 ∷ [])) (accepted (0 ∷ []))
    ∷ case (write_set_call (0 ∷ []) (replicate 7 7) 0) (outcome (given (7 ∷ [])) (Inew ∷ []))
    -- [N-O, C1] {0..0} and {0..M}: one check in the old form, two in the new
    ∷ case (read_set_call only_zero (7 ∷ 7 ∷ 7 ∷ [])) (accepted (1 ∷ 0 ∷ 0 ∷ []))
    ∷ case (read_set_call whole_line (7 ∷ 7 ∷ 7 ∷ [])) (accepted (1 ∷ 0 ∷ M ∷ []))
    ∷ case (answer (drop 26 only_zero ++ drop 26 whole_line)) (answer (0x11 ∷ 0x10 ∷ 0x11 ∷ 0x10 ∷ []))
    ∷ case (write_set_call (1 ∷ 0 ∷ 0 ∷ []) (replicate 28 7) 0) (outcome (given (28 ∷ [])) (only_zero_new ∷ []))
    ∷ case (write_set_call (1 ∷ 0 ∷ M ∷ []) (replicate 28 7) 0) (outcome (given (28 ∷ [])) (whole_line_new ∷ []))
    ∷ case (answer (drop 26 only_zero_new ++ drop 26 whole_line_new)) (answer (0xD9 ∷ 0xED ∷ 0x7F ∷ 0x0C ∷ []))
    -- [Y4, Y7, Y10, C2, C6] the bytes of a map, old and new, read, and the new written
    ∷ case (read_map_call one_entry (7 ∷ 7 ∷ 7 ∷ 7 ∷ 7 ∷ [])) (accepted (1 ∷ 0 ∷ 9 ∷ 1 ∷ 0 ∷ []))
    ∷ case (read_map_call one_entry_new (7 ∷ 7 ∷ 7 ∷ 7 ∷ 7 ∷ [])) (accepted (1 ∷ 0 ∷ 9 ∷ 1 ∷ 0 ∷ []))
    ∷ case (write_map_call (1 ∷ 0 ∷ 9 ∷ 1 ∷ []) (replicate 36 7) 0) (outcome (given (36 ∷ [])) (one_entry_new ∷ []))
    -- [Y5, Y8, Y10, R15, C2, C6] the bytes of a bulletin, old and new, read, and the new written, also where there is one byte too few; a third
    -- record with the other mark
    ∷ case (read_bulletin_call one_each (7 ∷ 7 ∷ 7 ∷ []) (7 ∷ 7 ∷ 7 ∷ [])) (outcome (given []) ((1 ∷ 1 ∷ 4 ∷ []) ∷ (1 ∷ 9 ∷ 9 ∷ []) ∷ []))
    ∷ case (read_bulletin_call one_each_new (7 ∷ 7 ∷ 7 ∷ []) (7 ∷ 7 ∷ 7 ∷ [])) (outcome (given []) ((1 ∷ 1 ∷ 4 ∷ []) ∷ (1 ∷ 9 ∷ 9 ∷ []) ∷ []))
    ∷ case (read_bulletin_call (take 30 one_each_new ++ drop 30 one_each) (7 ∷ []) (7 ∷ [])) (outcome (refused 9 30) ((7 ∷ []) ∷ (7 ∷ []) ∷ []))
    ∷ case (write_bulletin_call (1 ∷ 1 ∷ 4 ∷ []) (1 ∷ 9 ∷ 9 ∷ []) (replicate 51 7) 0) (outcome (given (51 ∷ [])) (one_each_new ∷ []))
    ∷ case (write_bulletin_call (1 ∷ 1 ∷ 4 ∷ []) (1 ∷ 9 ∷ 9 ∷ []) (replicate 51 7) 1) (refusing 15 0 (replicate 51 7))
    -- [Y9, R10, Y12] kinds that there are not, and a map's bytes where a set is asked for: refused 10 at 0
    ∷ case (read_set_call (0xC5 ∷ 0x3A ∷ 0 ∷ drop 3 H) (7 ∷ [])) (refusing 10 0 (7 ∷ []))
    ∷ case (read_set_call (0xC5 ∷ 0x3A ∷ 5 ∷ drop 3 H) (7 ∷ [])) (refusing 10 0 (7 ∷ []))
    ∷ case (read_set_call (0xC5 ∷ 0x3A ∷ 0xFF ∷ drop 3 H) (7 ∷ [])) (refusing 10 0 (7 ∷ []))
    ∷ case (read_set_call one_entry (7 ∷ [])) (refusing 10 0 (7 ∷ []))
    -- [N-J] earlier releases 1..4; later releases 9..9 and withdraws 3..3
    ∷ case (fold_call (1 ∷ 1 ∷ 4 ∷ []) (0 ∷ []) (1 ∷ 9 ∷ 9 ∷ []) (1 ∷ 3 ∷ 3 ∷ []) (7 ∷ 7 ∷ 7 ∷ 7 ∷ 7 ∷ 7 ∷ 7 ∷ 7 ∷ []) (7 ∷ 7 ∷ 7 ∷ 7 ∷ []))
    (outcome (given []) ((3 ∷ 1 ∷ 2 ∷ 4 ∷ 4 ∷ 9 ∷ 9 ∷ 0 ∷ []) ∷ (1 ∷ 3 ∷ 3 ∷ 0 ∷ []) ∷ []))
    -- [U1, R14, R0] the later bulletin of J applied to 1..4; one that releases and withdraws 4; no room for what is withdrawn changes
    -- neither block
    ∷ case (apply_call (1 ∷ 1 ∷ 4 ∷ []) (1 ∷ 9 ∷ 9 ∷ []) (1 ∷ 3 ∷ 3 ∷ []) (7 ∷ 7 ∷ 7 ∷ 7 ∷ 7 ∷ 7 ∷ 7 ∷ [])) (accepted (3 ∷ 1 ∷ 2 ∷ 4 ∷ 4 ∷ 9 ∷ 9 ∷ []))
    ∷ case (apply_call (0 ∷ []) (1 ∷ 1 ∷ 4 ∷ []) (1 ∷ 4 ∷ 9 ∷ []) (7 ∷ 7 ∷ [])) (refusing 14 0 (7 ∷ 7 ∷ []))
    ∷ case (fold_call (1 ∷ 1 ∷ 4 ∷ []) (0 ∷ []) (1 ∷ 9 ∷ 9 ∷ []) (1 ∷ 3 ∷ 3 ∷ []) (7 ∷ 7 ∷ 7 ∷ 7 ∷ 7 ∷ 7 ∷ 7 ∷ []) (7 ∷ 7 ∷ []))
    (outcome (refused 5 5) ((7 ∷ 7 ∷ 7 ∷ 7 ∷ 7 ∷ 7 ∷ 7 ∷ []) ∷ (7 ∷ 7 ∷ []) ∷ []))
    -- [N-K, R0, R3] words 1, 9, 5
    ∷ case (member_call (1 ∷ 9 ∷ 5 ∷ []) 7) (outcome (refused 3 0) [])
    ∷ case (insert_call (1 ∷ 9 ∷ 5 ∷ []) 1 2) (refusing 3 0 (1 ∷ 9 ∷ 5 ∷ []))
    -- [B3, B4, R1, R2, R3] blocks that are not sound: no words; a count above the capacity of one word, of three, and M in every word; M
    -- as a high that is not last
    ∷ case (member_call [] 7) (outcome (refused 1 0) [])
    ∷ case (member_call (0 ∷ []) 7) (answer (0 ∷ 0 ∷ []))
    ∷ case (member_call (1 ∷ []) 7) (outcome (refused 2 0) [])
    ∷ case (member_call (2 ∷ 1 ∷ 2 ∷ []) 7) (outcome (refused 2 0) [])
    ∷ case (member_call (M ∷ M ∷ M ∷ []) 7) (outcome (refused 2 0) [])
    ∷ case (member_call (2 ∷ 0 ∷ M ∷ 5 ∷ 6 ∷ []) 7) (outcome (refused 3 0) [])
    -- [S13] at 0 and at M: insert 0..M into anything; remove M..M from {0..M}; complements of {0..0} and {M..M}; {0..5} and {6..M} are
    -- one range
    ∷ case (insert_call (2 ∷ 3 ∷ 4 ∷ 8 ∷ M ∷ []) 0 M) (accepted (1 ∷ 0 ∷ M ∷ 0 ∷ 0 ∷ []))
    ∷ case (remove_call (1 ∷ 0 ∷ M ∷ []) M M) (accepted (1 ∷ 0 ∷ less_m ∷ []))
    ∷ case (complement_call (1 ∷ 0 ∷ 0 ∷ []) (7 ∷ 7 ∷ 7 ∷ [])) (accepted (1 ∷ 1 ∷ M ∷ []))
    ∷ case (complement_call (1 ∷ M ∷ M ∷ []) (7 ∷ 7 ∷ 7 ∷ [])) (accepted (1 ∷ 0 ∷ less_m ∷ []))
    ∷ case (union_call (1 ∷ 0 ∷ 5 ∷ []) (1 ∷ 6 ∷ M ∷ []) (7 ∷ 7 ∷ 7 ∷ [])) (accepted (1 ∷ 0 ∷ M ∷ []))
    -- [N-L, R5, R19] three words holding {5..9}
    ∷ case (insert_call (1 ∷ 5 ∷ 9 ∷ []) 11 11) (refusing 5 0 (1 ∷ 5 ∷ 9 ∷ []))
    ∷ case (insert_call (1 ∷ 5 ∷ 9 ∷ []) 10 10) (accepted (1 ∷ 5 ∷ 10 ∷ []))
    -- [B4, B5, B6] touching ranges are no sound set; touching entries with other values are a sound map, with the same value not; the value 0 is
    -- a value, and a number in no entry has none
    ∷ case (member_call (2 ∷ 0 ∷ 4 ∷ 5 ∷ 9 ∷ []) 7) (outcome (refused 3 0) [])
    ∷ case (look_up_call (2 ∷ 0 ∷ 4 ∷ 0 ∷ 5 ∷ 9 ∷ 1 ∷ []) 5) (answer (1 ∷ []))
    ∷ case (look_up_call (2 ∷ 0 ∷ 4 ∷ 1 ∷ 5 ∷ 9 ∷ 1 ∷ []) 5) (outcome (refused 3 0) [])
    ∷ case (look_up_call (2 ∷ 0 ∷ 4 ∷ 0 ∷ 5 ∷ 9 ∷ 1 ∷ []) 4) (answer (0 ∷ []))
    ∷ case (look_up_call (2 ∷ 0 ∷ 4 ∷ 0 ∷ 5 ∷ 9 ∷ 1 ∷ []) 10) (answer [])
    -- [S1, W1, W3] where a number sits in {5..9, 20..29}: below the first range, at its ends, between the two, in the second, behind it; in the
    -- full set, at 0 and at M
    ∷ case (member_call W 4) (answer (0 ∷ 0 ∷ []))
    ∷ case (member_call W 5) (answer (1 ∷ 0 ∷ []))
    ∷ case (member_call W 9) (answer (1 ∷ 0 ∷ []))
    ∷ case (member_call W 12) (answer (0 ∷ 1 ∷ []))
    ∷ case (member_call W 20) (answer (1 ∷ 1 ∷ []))
    ∷ case (member_call W 30) (answer (0 ∷ 2 ∷ []))
    ∷ case (range_at_call W 0) (answer (5 ∷ 9 ∷ []))
    ∷ case (range_at_call W 1) (answer (20 ∷ 29 ∷ []))
    ∷ case (member_call (1 ∷ 0 ∷ M ∷ []) 0) (answer (1 ∷ 0 ∷ []))
    ∷ case (member_call (1 ∷ 0 ∷ M ∷ []) M) (answer (1 ∷ 0 ∷ []))
    -- [S8, R1, R18] make empty: of a block that is not sound, and of one with no words
    ∷ case (make_empty_call (9 ∷ 9 ∷ 9 ∷ [])) (accepted (0 ∷ 0 ∷ 0 ∷ []))
    ∷ case (make_empty_call []) (refusing 1 0 [])
    -- [S2, S4] the range at an index, and past the last; the least member at or above a number, and past the last
    ∷ case (range_at_call F 1) (answer (8 ∷ 9 ∷ []))
    ∷ case (range_at_call F 3) (answer [])
    ∷ case (least_member_call F 4) (answer (8 ∷ []))
    ∷ case (least_member_call (1 ∷ 5 ∷ 9 ∷ []) 10) (answer [])
    -- [S6, R20] a window as a part of its block, a window in a gap, and one that is backwards, with its companion
    ∷ case (outcome (part_says (set_window_call F 9 12)) []) (answer (3 ∷ 4 ∷ []))
    ∷ case (set_window_at_call F 9 12) (answer (3 ∷ 4 ∷ []))
    ∷ case (set_window_at_call F 10 11) (answer [])
    ∷ case (outcome (part_says (set_window_call F 5 4)) []) (answer [])
    ∷ case (set_window_at_call F 5 4) (outcome (refused 4 0) [])
    ∷ case (set_window_refusal_call F 5 4) (outcome (refused 4 0) [])
    ∷ case (set_window_refusal_call F 9 12) (answer [])
    -- [S7, R16] of two sets; the second is refused at 1
    ∷ case (equal_call (1 ∷ 5 ∷ 9 ∷ []) (1 ∷ 5 ∷ 9 ∷ 7 ∷ 7 ∷ [])) (answer (1 ∷ []))
    ∷ case (within_call (1 ∷ 5 ∷ 9 ∷ []) F) (answer (0 ∷ []))
    ∷ case (within_call (1 ∷ 8 ∷ 9 ∷ []) F) (answer (1 ∷ []))
    ∷ case (disjoint_call (1 ∷ 4 ∷ 7 ∷ []) F) (answer (1 ∷ []))
    ∷ case (disjoint_call (1 ∷ 4 ∷ 8 ∷ []) F) (answer (0 ∷ []))
    ∷ case (equal_call (0 ∷ []) (1 ∷ 9 ∷ 5 ∷ [])) (outcome (refused 3 1) [])
    -- [S11, S13, S14, R5] {0..5, 10..20} and {4..12}, with as many ranges as there can be; in too few words
    ∷ case (intersection_call (2 ∷ 0 ∷ 5 ∷ 10 ∷ 20 ∷ []) (1 ∷ 4 ∷ 12 ∷ []) (7 ∷ 7 ∷ 7 ∷ 7 ∷ 7 ∷ [])) (accepted (2 ∷ 4 ∷ 5 ∷ 10 ∷ 12 ∷ []))
    ∷ case (difference_call (2 ∷ 0 ∷ 5 ∷ 10 ∷ 20 ∷ []) (1 ∷ 4 ∷ 12 ∷ []) (7 ∷ 7 ∷ 7 ∷ 7 ∷ 7 ∷ [])) (accepted (2 ∷ 0 ∷ 3 ∷ 13 ∷ 20 ∷ []))
    ∷ case (symmetric_difference_call (2 ∷ 0 ∷ 5 ∷ 10 ∷ 20 ∷ []) (1 ∷ 4 ∷ 12 ∷ []) (7 ∷ 7 ∷ 7 ∷ 7 ∷ 7 ∷ 7 ∷ 7 ∷ [])) (accepted (3 ∷ 0 ∷ 3 ∷ 6 ∷ 9 ∷ 13 ∷ 20 ∷ []))
    ∷ case (symmetric_difference_call (2 ∷ 0 ∷ 5 ∷ 10 ∷ 20 ∷ []) (1 ∷ 4 ∷ 12 ∷ []) (7 ∷ 7 ∷ 7 ∷ 7 ∷ 7 ∷ [])) (refusing 5 2 (7 ∷ 7 ∷ 7 ∷ 7 ∷ 7 ∷ []))
    -- [S15] the same block as both inputs
    ∷ case (symmetric_difference_call (2 ∷ 0 ∷ 5 ∷ 10 ∷ 20 ∷ []) (2 ∷ 0 ∷ 5 ∷ 10 ∷ 20 ∷ []) (7 ∷ 7 ∷ [])) (accepted (0 ∷ 0 ∷ []))
    ∷ case (intersection_call (2 ∷ 0 ∷ 5 ∷ 10 ∷ 20 ∷ []) (2 ∷ 0 ∷ 5 ∷ 10 ∷ 20 ∷ []) (7 ∷ 7 ∷ 7 ∷ 7 ∷ 7 ∷ [])) (accepted (2 ∷ 0 ∷ 5 ∷ 10 ∷ 20 ∷ []))
    -- [R16, R17] an input that is not sound comes before an output of no words; that is refused at its own position
    ∷ case (union_call (0 ∷ []) (1 ∷ 9 ∷ 5 ∷ []) []) (refusing 3 1 [])
    ∷ case (union_call (0 ∷ []) (0 ∷ []) []) (refusing 1 2 [])
    -- [R4, R6] a range that is backwards; a run of no numbers
    ∷ case (insert_call (0 ∷ 0 ∷ 0 ∷ []) 5 4) (refusing 4 0 (0 ∷ 0 ∷ 0 ∷ []))
    ∷ case (first_fit_call (0 ∷ []) 4 5 0) (outcome (refused 6 0) [])
    -- [M3, M4, M5, M6] erase; overlay, with as many entries as there can be; restriction; the numbers that have a value
    ∷ case (erase_call (1 ∷ 0 ∷ 9 ∷ 1 ∷ 0 ∷ 0 ∷ 0 ∷ []) 3 5) (accepted (2 ∷ 0 ∷ 2 ∷ 1 ∷ 6 ∷ 9 ∷ 1 ∷ []))
    ∷ case (overlay_call (1 ∷ 3 ∷ 5 ∷ 2 ∷ []) (1 ∷ 0 ∷ 9 ∷ 1 ∷ []) (7 ∷ 7 ∷ 7 ∷ 7 ∷ 7 ∷ 7 ∷ 7 ∷ 7 ∷ 7 ∷ 7 ∷ []))
    (accepted (3 ∷ 0 ∷ 2 ∷ 1 ∷ 3 ∷ 5 ∷ 2 ∷ 6 ∷ 9 ∷ 1 ∷ []))
    ∷ case (restriction_call (1 ∷ 0 ∷ 9 ∷ 1 ∷ []) (1 ∷ 4 ∷ 20 ∷ []) (7 ∷ 7 ∷ 7 ∷ 7 ∷ [])) (accepted (1 ∷ 4 ∷ 9 ∷ 1 ∷ []))
    ∷ case (domain_call (2 ∷ 0 ∷ 4 ∷ 0 ∷ 5 ∷ 9 ∷ 1 ∷ []) (7 ∷ 7 ∷ 7 ∷ [])) (accepted (1 ∷ 0 ∷ 9 ∷ []))
    -- [M7, R20] a window of a map, and the companion of one whose block is refused
    ∷ case (outcome (part_says (map_window_call (2 ∷ 0 ∷ 4 ∷ 0 ∷ 5 ∷ 9 ∷ 1 ∷ []) 6 6)) []) (answer (4 ∷ 3 ∷ []))
    ∷ case (map_window_at_call (2 ∷ 0 ∷ 4 ∷ 0 ∷ 5 ∷ 9 ∷ 1 ∷ []) 6 6) (answer (4 ∷ 3 ∷ []))
    ∷ case (map_window_refusal_call (1 ∷ []) 1 2) (outcome (refused 2 0) [])
    -- [M8, R20] site over factory: the site map decides, the factory map does, neither; the factory map is refused at 1
    ∷ case (outcome (deciding_says (site_over_factory_call (1 ∷ 3 ∷ 5 ∷ 2 ∷ []) (2 ∷ 0 ∷ 4 ∷ 0 ∷ 5 ∷ 9 ∷ 1 ∷ []) 4)) []) (answer (1 ∷ 3 ∷ 0 ∷ []))
    ∷ case (outcome (deciding_says (site_over_factory_call (1 ∷ 3 ∷ 5 ∷ 2 ∷ []) (2 ∷ 0 ∷ 4 ∷ 0 ∷ 5 ∷ 9 ∷ 1 ∷ []) 7)) []) (answer (4 ∷ 3 ∷ 1 ∷ []))
    ∷ case (site_over_factory_at_call (1 ∷ 3 ∷ 5 ∷ 2 ∷ []) (2 ∷ 0 ∷ 4 ∷ 0 ∷ 5 ∷ 9 ∷ 1 ∷ []) 7) (answer (4 ∷ 3 ∷ 1 ∷ []))
    ∷ case (site_over_factory_at_call (1 ∷ 3 ∷ 5 ∷ 2 ∷ []) (2 ∷ 0 ∷ 4 ∷ 0 ∷ 5 ∷ 9 ∷ 1 ∷ []) 10) (answer [])
    ∷ case (outcome (deciding_says (site_over_factory_call (0 ∷ []) (1 ∷ []) 7)) []) (answer [])
    ∷ case (site_over_factory_at_call (0 ∷ []) (1 ∷ []) 7) (outcome (refused 2 1) [])
    ∷ case (site_refusal_call (0 ∷ []) (1 ∷ []) 7) (outcome (refused 2 1) [])
    ∷ case (site_refusal_call (1 ∷ 3 ∷ 5 ∷ 2 ∷ []) (2 ∷ 0 ∷ 4 ∷ 0 ∷ 5 ∷ 9 ∷ 1 ∷ []) 7) (answer [])
    -- [U4] bulletins neither of which releases what the other withdraws, folded in either order
    ∷ case (fold_call (1 ∷ 1 ∷ 2 ∷ []) (1 ∷ 5 ∷ 5 ∷ []) (1 ∷ 8 ∷ 9 ∷ []) (1 ∷ 12 ∷ 12 ∷ []) (7 ∷ 7 ∷ 7 ∷ 7 ∷ 7 ∷ []) (7 ∷ 7 ∷ 7 ∷ 7 ∷ 7 ∷ []))
    (outcome (given []) ((2 ∷ 1 ∷ 2 ∷ 8 ∷ 9 ∷ []) ∷ (2 ∷ 5 ∷ 5 ∷ 12 ∷ 12 ∷ []) ∷ []))
    ∷ case (fold_call (1 ∷ 8 ∷ 9 ∷ []) (1 ∷ 12 ∷ 12 ∷ []) (1 ∷ 1 ∷ 2 ∷ []) (1 ∷ 5 ∷ 5 ∷ []) (7 ∷ 7 ∷ 7 ∷ 7 ∷ 7 ∷ []) (7 ∷ 7 ∷ 7 ∷ 7 ∷ 7 ∷ []))
    (outcome (given []) ((2 ∷ 1 ∷ 2 ∷ 8 ∷ 9 ∷ []) ∷ (2 ∷ 5 ∷ 5 ∷ 12 ∷ 12 ∷ []) ∷ []))
    -- [K1, K2, K3] {-5..-1} insert 0..3 gives {-5..3}; every key, without -1; 4 is low above high as keys
    ∷ case (insert_call (1 ∷ 9223372036854775803 ∷ 9223372036854775807 ∷ []) (word_of (pos 0)) (word_of (pos 3))) (accepted K)
    ∷ case (remove_call (1 ∷ 0 ∷ M ∷ 0 ∷ 0 ∷ []) (word_of (less 1)) (word_of (less 1)))
    (accepted (2 ∷ 0 ∷ 9223372036854775806 ∷ 9223372036854775808 ∷ M ∷ []))
    ∷ case (insert_call K (word_of (pos 0)) (word_of (less 1))) (refusing 4 0 K)
    ∷ case (outcome (found_key_says (Ok (Some (less 5)))) []) (answer (9223372036854775803 ∷ []))
    ∷ case (outcome (ranged_keys_says (Ok (Some (less 5, pos 3)))) []) (range_at_call K 0)
    ∷ case (outcome (placed_key_says (Ok (pos 4))) []) (first_fit_call K (word_of (less 5)) (word_of most_key) 2)
    -- [K2] of {-5..3}: -1 and 0 are members, 4 is not; least members and non-members; the window -9..-5; fits, and their reservations
    ∷ case (member_call K (word_of (less 1))) (answer (1 ∷ 0 ∷ []))
    ∷ case (member_call K (word_of (pos 0))) (answer (1 ∷ 0 ∷ []))
    ∷ case (member_call K (word_of (pos 4))) (answer (0 ∷ 1 ∷ []))
    ∷ case (member_call K (word_of (less 6))) (answer (0 ∷ 0 ∷ []))
    ∷ case (least_member_call K (word_of least_key)) (answer (word_of (less 5) ∷ []))
    ∷ case (least_member_call K (word_of (pos 4))) (answer [])
    ∷ case (least_non_member_call K (word_of (less 1))) (answer (word_of (pos 4) ∷ []))
    ∷ case (outcome (part_says (set_window_call K (word_of (less 9)) (word_of (less 5)))) []) (answer (1 ∷ 2 ∷ []))
    ∷ case (set_window_at_call K (word_of (pos 4)) (word_of most_key)) (answer [])
    ∷ case (set_window_refusal_call K (word_of (pos 0)) (word_of (less 1))) (outcome (refused 4 0) [])
    ∷ case (best_fit_call K (word_of (less 7)) (word_of (pos 9)) 2) (answer (word_of (less 7) ∷ []))
    ∷ case (reserve_first_call K (word_of (less 1)) (word_of most_key) 2) (outcome (given (word_of (pos 4) ∷ [])) ((1 ∷ word_of (less 5) ∷ word_of (pos 5) ∷ []) ∷ []))
    ∷ case (reserve_best_call K (word_of (less 7)) (word_of (pos 9)) 2) (outcome (given (word_of (less 7) ∷ [])) ((1 ∷ word_of (less 7) ∷ word_of (pos 3) ∷ []) ∷ []))
    -- [K4] of the signed set {-5..3}: its size less one, its complement, what it has in common with {0..9}
    ∷ case (size_call K) (answer (8 ∷ []))
    ∷ case (complement_call K (7 ∷ 7 ∷ 7 ∷ 7 ∷ 7 ∷ [])) (accepted (2 ∷ word_of least_key ∷ word_of (less 6) ∷ word_of (pos 4) ∷ word_of most_key ∷ []))
    ∷ case (intersection_call K (1 ∷ word_of (pos 0) ∷ word_of (pos 9) ∷ []) (7 ∷ 7 ∷ 7 ∷ [])) (accepted (1 ∷ word_of (pos 0) ∷ word_of (pos 3) ∷ []))
    -- [K5] differences: 0 less the least key and the greatest less -1 are too far; -1 less the greatest is the least, and so is the least less 0
    ∷ case (outcome (apart_says (apart_of (pos 0) least_key)) []) (answer [])
    ∷ case (outcome (apart_says (apart_of most_key (less 1))) []) (answer [])
    ∷ case (outcome (apart_says (apart_of (less 1) most_key)) []) (answer (word_of least_key ∷ []))
    ∷ case (outcome (apart_says (apart_of least_key (pos 0))) []) (answer (word_of least_key ∷ []))
    ∷ case (outcome (apart_says (apart_of (pos 5) (less 3))) []) (answer (word_of (pos 8) ∷ []))
    -- [K1, K6] the key of a word, and turns between a word and its two's complement
    ∷ case (answer (word_of (key_of 7) ∷ turned 0 ∷ turned M ∷ turned (2 ^ 63) ∷ [])) (answer (7 ∷ word_of (pos 0) ∷ word_of (less 1) ∷ word_of least_key ∷ []))
    -- [K6] bytes of signed sets, read and written; order and touching are those of the keys
    ∷ case (read_signed_call key_bytes (7 ∷ 7 ∷ 7 ∷ 7 ∷ [])) (accepted (K ++ (0 ∷ [])))
    ∷ case (read_signed_call key_bytes_new (7 ∷ 7 ∷ 7 ∷ 7 ∷ [])) (accepted (K ++ (0 ∷ [])))
    ∷ case (write_signed_call K (replicate 30 7) 1) (outcome (given (28 ∷ [])) ((7 ∷ (key_bytes_new ++ (7 ∷ []))) ∷ []))
    ∷ case (read_signed_call all_but_one (7 ∷ 7 ∷ 7 ∷ 7 ∷ 7 ∷ [])) (accepted (2 ∷ 0 ∷ 9223372036854775806 ∷ 9223372036854775808 ∷ M ∷ []))
    ∷ case (write_signed_call (2 ∷ 0 ∷ 9223372036854775806 ∷ 9223372036854775808 ∷ M ∷ []) (replicate 49 7) 0) (outcome (given (49 ∷ [])) (all_but_one_new ∷ []))
    ∷ case (read_signed_call by_their_bytes (7 ∷ [])) (refusing 12 28 (7 ∷ []))
    ∷ case (read_signed_call touching_keys (7 ∷ [])) (refusing 12 28 (7 ∷ []))
    -- [K7] the bytes of a signed set are none of a plain set, a map or a bulletin, and theirs are none of a signed set
    ∷ case (read_set_call key_bytes (7 ∷ 7 ∷ 7 ∷ [])) (refusing 10 0 (7 ∷ 7 ∷ 7 ∷ []))
    ∷ case (read_map_call key_bytes (7 ∷ [])) (refusing 10 0 (7 ∷ []))
    ∷ case (read_bulletin_call key_bytes (7 ∷ []) (8 ∷ [])) (outcome (refused 10 0) ((7 ∷ []) ∷ (8 ∷ []) ∷ []))
    ∷ case (read_signed_call H (7 ∷ 7 ∷ 7 ∷ [])) (refusing 10 0 (7 ∷ 7 ∷ 7 ∷ []))
    ∷ case (read_signed_call (take 7 key_bytes ++ drop 7 H) (7 ∷ [])) (refusing 10 7 (7 ∷ []))
    ∷ case (read_set_call (take 7 H ++ drop 7 key_bytes) (7 ∷ [])) (refusing 10 7 (7 ∷ []))
    -- [P3, P1] prefix blocks: 0..M is the one pair (0, 64), and {5..9} is 5, 6..7 and 8..9; the empty set has none; ends at 0 and at M
    ∷ case (prefix_call (1 ∷ 0 ∷ M ∷ []) (7 ∷ 7 ∷ 7 ∷ [])) (accepted (1 ∷ 0 ∷ 64 ∷ []))
    ∷ case (prefix_call five_to_nine (replicate 7 9)) (accepted blocks_of_five)
    ∷ case (prefix_call (0 ∷ []) (7 ∷ [])) (accepted (0 ∷ []))
    ∷ case (prefix_call both_ends (replicate 9 7)) (accepted blocks_of_ends)
    -- [P3, P4] {1..M-1} has 126 blocks, the most that one range has: 252 words have no room for them, 253 have
    ∷ case (prefix_call (1 ∷ 1 ∷ less_m ∷ []) (replicate 252 7)) (refusing 5 1 (replicate 252 7))
    ∷ case (first_word (prefix_call (1 ∷ 1 ∷ less_m ∷ []) (replicate 253 7))) (answer (126 ∷ []))
    -- [P7] three blocks into 6 words are refused 5, into 8 leave the odd last word 0; the set is judged first, then the output
    ∷ case (prefix_call five_to_nine (replicate 6 7)) (refusing 5 1 (replicate 6 7))
    ∷ case (prefix_call five_to_nine (replicate 8 7)) (accepted (blocks_of_five ++ (0 ∷ [])))
    ∷ case (prefix_call (1 ∷ 9 ∷ 5 ∷ []) []) (refusing 3 0 [])
    ∷ case (prefix_call five_to_nine []) (refusing 1 1 [])
    -- [P5, P6] and by the plain method for audit the same
    ∷ case (audit_call (1 ∷ 0 ∷ M ∷ []) (7 ∷ 7 ∷ 7 ∷ [])) (accepted (1 ∷ 0 ∷ 64 ∷ []))
    ∷ case (audit_call five_to_nine (replicate 7 9)) (accepted blocks_of_five)
    ∷ case (audit_call (0 ∷ []) (7 ∷ [])) (accepted (0 ∷ []))
    ∷ case (audit_call both_ends (replicate 9 7)) (accepted blocks_of_ends)
    ∷ case (audit_call (1 ∷ 1 ∷ less_m ∷ []) (replicate 252 7)) (refusing 5 1 (replicate 252 7))
    ∷ case (first_word (audit_call (1 ∷ 1 ∷ less_m ∷ []) (replicate 253 7))) (answer (126 ∷ []))
    ∷ case (audit_call five_to_nine (replicate 6 7)) (refusing 5 1 (replicate 6 7))
    ∷ case (audit_call five_to_nine (replicate 8 7)) (accepted (blocks_of_five ++ (0 ∷ [])))
    ∷ case (audit_call (1 ∷ 9 ∷ 5 ∷ []) []) (refusing 3 0 [])
    ∷ case (audit_call five_to_nine []) (refusing 1 1 [])
    -- [G7] the refusal and the answer of a number, and the number of a reason
    ∷ case (outcome (refusal_says (refusal_of 11 7)) []) (outcome (refused 11 7) [])
    ∷ case (outcome (refusal_says (at_place Overlap 7)) []) (outcome (refused 14 7) [])
    ∷ case (outcome (judged_says (judged_of 5 2)) []) (outcome (refused 5 2) [])
    ∷ case (outcome (judged_says (judged_of 0 2)) []) (answer [])
    ∷ case (answer (number_of Overlap ∷ [])) (answer (14 ∷ []))
    -- [A3, A4] {0..3, 8..9, 12..M}, window 0..M: 2 from a multiple of 2, first fit 4, best fit 10; of 4, both 4; 3 from a multiple of 4, first fit 4
    ∷ case (first_fit_aligned_call F 0 M 2 1) (answer (4 ∷ []))
    ∷ case (best_fit_aligned_call F 0 M 2 1) (answer (10 ∷ []))
    ∷ case (first_fit_aligned_call F 0 M 2 2) (answer (4 ∷ []))
    ∷ case (best_fit_aligned_call F 0 M 2 2) (answer (4 ∷ []))
    ∷ case (first_fit_aligned_call F 0 M 3 2) (answer (4 ∷ []))
    -- [A3] 8 from a multiple of 8 between 0 and 17; a window whose low end is no multiple
    ∷ case (first_fit_aligned_call (2 ∷ 0 ∷ 0 ∷ 17 ∷ M ∷ []) 0 M 8 3) (answer (8 ∷ []))
    ∷ case (best_fit_aligned_call (2 ∷ 0 ∷ 0 ∷ 17 ∷ M ∷ []) 0 M 8 3) (answer (8 ∷ []))
    ∷ case (first_fit_aligned_call (0 ∷ []) 5 M 1 3) (answer (8 ∷ []))
    -- [A4] a gap of exactly 2 from 5 on is passed over for a longer one; of two gaps of 3 the lower holds no aligned run; a gap is as long as it
    -- is from its low end on, and not from the start on: 16..22 is shorter than 1..9, of which 8..9 would be left
    ∷ case (best_fit_aligned_call (3 ∷ 0 ∷ 4 ∷ 7 ∷ 7 ∷ 16 ∷ M ∷ []) 0 M 2 1) (answer (8 ∷ []))
    ∷ case (best_fit_aligned_call (3 ∷ 0 ∷ 4 ∷ 8 ∷ 9 ∷ 13 ∷ M ∷ []) 0 M 3 1) (answer (10 ∷ []))
    ∷ case (best_fit_aligned_call (3 ∷ 0 ∷ 0 ∷ 10 ∷ 15 ∷ 23 ∷ M ∷ []) 0 M 2 3) (answer (16 ∷ []))
    -- [A3, A5] the last multiple of 2^63, with all that is behind it; behind it there is none, and none of 2 from M on
    ∷ case (first_fit_aligned_call (0 ∷ []) 1 M (2 ^ 63) 63) (answer (2 ^ 63 ∷ []))
    ∷ case (first_fit_aligned_call (0 ∷ []) (suc (2 ^ 63)) M 1 63) (outcome (refused 7 0) [])
    ∷ case (best_fit_aligned_call (0 ∷ []) M M 1 1) (outcome (refused 7 0) [])
    -- [A2] 16: j is 64, or 2^32; it comes after 3, 4 and 6, and before 7
    ∷ case (first_fit_aligned_call (0 ∷ []) 0 M 1 64) (outcome (refused 16 0) [])
    ∷ case (best_fit_aligned_call (0 ∷ []) 0 M 1 (2 ^ 32)) (outcome (refused 16 0) [])
    ∷ case (first_fit_aligned_call (1 ∷ 9 ∷ 5 ∷ []) 0 M 1 64) (outcome (refused 3 0) [])
    ∷ case (first_fit_aligned_call (0 ∷ []) 5 4 1 64) (outcome (refused 4 0) [])
    ∷ case (first_fit_aligned_call (0 ∷ []) 0 M 0 64) (outcome (refused 6 0) [])
    ∷ case (reserve_first_aligned_call (1 ∷ 0 ∷ M ∷ []) 0 M 1 64) (refusing 16 0 (1 ∷ 0 ∷ M ∷ []))
    -- [A1, F4, F5] the reservation of the best fit; three words holding {5..9}: 12 is refused for want of room though 10, which is no multiple of 4,
    -- would join
    ∷ case (reserve_best_aligned_call F 0 M 2 1) (outcome (given (10 ∷ [])) ((2 ∷ 0 ∷ 3 ∷ 8 ∷ M ∷ 0 ∷ 0 ∷ []) ∷ []))
    ∷ case (reserve_first_aligned_call (1 ∷ 5 ∷ 9 ∷ []) 10 M 1 2) (refusing 5 0 (1 ∷ 5 ∷ 9 ∷ []))
    ∷ case (reserve_first_aligned_call (1 ∷ 5 ∷ 9 ∷ []) 10 M 1 1) (outcome (given (10 ∷ [])) ((1 ∷ 5 ∷ 10 ∷ []) ∷ []))
    -- [A6] j = 0
    ∷ case (best_fit_aligned_call F 0 M 3 0) (best_fit_call F 0 M 3)
    ∷ case (reserve_first_aligned_call F 5 M 2 0) (reserve_first_call F 5 M 2)
    -- [A2, G7] its number
    ∷ case (outcome (refusal_says (refusal_of 16 0)) []) (outcome (refused 16 0) [])
    ∷ []

pub worked : wrong 0 table ≡ []
unfolding edit_call verdict put block_of member_call size_call least_non_member_call union_call complement_call complement union intersection difference
    fit_call reserve_call place_in gaps shareb apply_call fold_call read_call write_call form_of form_refusals form_entries runs_of runs_in runs_refusals
    run_of run_refusals entries_in said saying record_verdict body_length mark_of check_of fletcher crc_from crc_byte crc_bit
    make_empty_call range_at_call least_member_call window_call window_at_call window_refusal_call equal_call within_call disjoint_call intersection_call
    difference_call symmetric_difference_call symmetric_difference look_up_call overlay_call overlay restriction_call restriction domain_call domain
    site_over_factory_call site_over_factory_at_call site_refusal_call
    prefix_call audit_call prefixes taken largest audit
    fit_aligned_call reserve_aligned_call aligned
worked = refl
