-- BYTES: reading accepts exactly the byte forms, of either mark; writing gives the new form of what was read, which is the bytes read where
-- they bear the new mark; the C host's question is reading and then membership.
use Rattle.std.specs.Prelude.{◌≡◌, false, ◌⊎◌, List, [], ◌∷◌, ◌++◌, ℕ, ◌+◌, ◌*◌, ◌≤◌, ◌<◌, ltb, ℤ, length, get_or, take, drop}
use Rattle.keys.specs.Keys.{IsKey, word_of, twos_of}
use Rattle.entries.specs.Entries.{Entry, entry, Each}
use Rattle.entries.specs.Build.{pick}
use Rattle.entries.specs.Sets.{M}
use Rattle.answers.specs.Answers.{given, outcome, refuse, Keeps, Clear}
use Rattle.blocks.specs.Blocks.{set_layout, map_layout, entries_of, Lent}
use Rattle.numbers.specs.Numbers.{Bytes, num2, be8, patch}
use Rattle.checks.specs.Check.{old_mark, new_mark}
use Rattle.records.specs.Records.{record_of, item_record, start_verdict}
use Rattle.runs.specs.Runs.{lengths, Fine}
use Rattle.verdicts.specs.declared.Form.{Form}
use Rattle.verdicts.specs.Forms.{of_set, of_map, of_bulletin, of_signed, mark_of, form_of, form_counts, sharing, start_size, out_refusals, Formed}
use Rattle.forms.specs.Calls.{stored_in, held_in, read_call, read_set_call, read_map_call, read_bulletin_call, read_signed_call, judge_set_call, member_of_form_call}
use Rattle.forms.specs.Calls.{write_call, write_set_call, write_map_call, write_bulletin_call, write_signed_call}
use Rattle.demands.specs.Plain.{Iff, SoundSet, SoundMap, In, ValueOf, leaves, Lacks}
use Rattle.demands.specs.Signed.{InKeys}

-- the form of a set, of a map, of a bulletin, of a signed set
pub data OfFour : Form → Type 0 where
  is_set : OfFour of_set
  is_map : OfFour of_map
  is_bulletin : OfFour of_bulletin
  is_signed : OfFour of_signed

-- what accepted reading has read: the bytes are the form of these runs (`Formed`: as many as the form has, each sound, within the limit, of
-- 64-bit words, a bulletin's two without a common number), every output has words and room, and each is left with the stored form of its run
pub record Read (f : Form) (b : List ℕ) (outs ws : List (List ℕ)) : Type 0 where
  pub runs : List (List Entry)
  pub form : Formed f b runs
  pub room : Clear (out_refusals f.layout (lengths outs) (lengths runs))
  pub left : ws ≡ stored_in outs runs

-- [D4, Y2, Y3, Y4, Y5, Y6, Y7, Y8, Y9, Y12, Y13, Y15, C3] READING is accepted exactly if the bytes are a byte form and the outputs have room
abbrev pub ReadExactly : Type 0
ReadExactly = (f : Form) → OfFour f → (b : List ℕ) → Bytes b → (outs ws : List (List ℕ)) → Iff (read_call f b outs ≡ outcome (given []) ws) (Read f b outs ws)

-- [C3, C6] OLD FORMS AND NEW: the form of fine runs under either mark is read, where the outputs have room, and as those runs
abbrev pub BothRead : Type 0
BothRead = (f : Form) → OfFour f → (mark : ℕ) → (mark ≡ old_mark) ⊎ (mark ≡ new_mark) → (runs : List (List Entry)) → length runs ≡ f.runs
    → Each (Fine f.layout.width f.layout.limit) runs → sharing runs ≡ false → (outs : List (List ℕ))
    → Clear (out_refusals f.layout (lengths outs) (lengths runs))
    → read_call f (form_of mark f runs) outs ≡ outcome (given []) (stored_in outs runs)

-- [Y14, D9] and of the whole form: the bytes are, from the first record to the last, the form under their mark of what the blocks then say
abbrev pub WholeForm : Type 0
WholeForm = (f : Form) → OfFour f → (b : List ℕ) → Bytes b → (outs ws : List (List ℕ)) → length outs ≡ f.runs
    → read_call f b outs ≡ outcome (given []) ws → b ≡ form_of (mark_of b) f (held_in f.layout ws)

-- [Y10, D9, K6] so no count and no length can be made up: there are 7+21n, 7+29n, 9+21(r+w) bytes, of word 0 of the blocks; 7+21n of a signed set
abbrev pub ReadSizes : Type 0
ReadSizes = (b : List ℕ) → Bytes b
    → ((out w : List ℕ) → read_set_call b out ≡ leaves w → length b ≡ 7 + 21 * get_or w 0 0)
    × ((out w : List ℕ) → read_map_call b out ≡ leaves w → length b ≡ 7 + 29 * get_or w 0 0)
    × ((out_r out_w r w : List ℕ) → read_bulletin_call b out_r out_w ≡ outcome (given []) (r ∷ w ∷ []) → length b ≡ 9 + 21 * (get_or r 0 0 + get_or w 0 0))
    × ((out w : List ℕ) → read_signed_call b out ≡ leaves w → length b ≡ 7 + 21 * get_or w 0 0)

-- the highest number with which reading a form refuses its bytes: 13, and 14 where there are two sets to share a number
abbrev pub last_of_bytes : Form → ℕ
last_of_bytes f = pick (ltb 1 f.runs) 14 13

-- the bytes are a form
pub record IsForm (f : Form) (b : List ℕ) : Type 0 where
  pub runs : List (List Entry)
  pub form : Formed f b runs

-- [R8, R9, R10, R11, R12, R13, R14, R17, Y15] READING'S REFUSALS: bytes that are no form are refused with 8 to 13, a bulletin's also with
-- 14; a form with 1 or 5, for its outputs
abbrev pub ReadRefusals : Type 0
ReadRefusals = (f : Form) → OfFour f → (b : List ℕ) → Bytes b → (outs after : List (List ℕ)) (n p : ℕ) → read_call f b outs ≡ refuse n p after
    → ((8 ≤ n) × (n ≤ last_of_bytes f) × (IsForm f b → ⊥)) ⊎ (((n ≡ 1) ⊎ (n ≡ 5)) × IsForm f b)

-- [R9, Y13, C3] THE MARK: bytes that begin with neither mark are refused with 9 at 0,
abbrev pub OtherMark : Type 0
OtherMark = (f : Form) → OfFour f → (b : List ℕ) (outs : List (List ℕ)) → 3 ≤ length b → (num2 b 0 ≡ old_mark → ⊥) → (num2 b 0 ≡ new_mark → ⊥)
    → read_call f b outs ≡ refuse 9 0 outs

-- [R9, Y13, C3] and a good start with an item behind it that does not bear the start's mark with 9 at that item
abbrev pub MixedMarks : Type 0
MixedMarks = (f : Form) → OfFour f → (b : List ℕ) (outs : List (List ℕ)) → start_verdict (mark_of b) f.start f.runs f.layout.limit b ≡ 0
    → 0 < get_or (form_counts f b) 0 0 → 3 ≤ length (drop (start_size f) b) → (num2 (drop (start_size f) b) 0 ≡ num2 b 0 → ⊥)
    → read_call f b outs ≡ refuse 9 (start_size f) outs

-- [R10, Y13, K7] THE KIND: bytes that begin with a start of another form are refused with 10 at 0,
abbrev pub OtherStart : Type 0
OtherStart = (f : Form) → OfFour f → (b : List ℕ) (outs : List (List ℕ)) → 3 ≤ length b → num2 b 0 ≡ mark_of b → (get_or b 2 0 ≡ f.start → ⊥)
    → read_call f b outs ≡ refuse 10 0 outs

-- [R10, Y13, K7] and a good start with an item of another kind behind it with 10 at that item
abbrev pub OtherItem : Type 0
OtherItem = (f : Form) → OfFour f → (b : List ℕ) (outs : List (List ℕ)) → start_verdict (mark_of b) f.start f.runs f.layout.limit b ≡ 0
    → 0 < get_or (form_counts f b) 0 0 → 3 ≤ length (drop (start_size f) b) → num2 (drop (start_size f) b) 0 ≡ mark_of b
    → (get_or (drop (start_size f) b) 2 0 ≡ f.first → ⊥) → read_call f b outs ≡ refuse 10 (start_size f) outs

-- [K6] THE BYTES OF KEYS: the record of a range of keys holds its two ends in two's complement, 8 bytes each
abbrev pub KeyRecord : Type 0
KeyRecord = (mark : ℕ) (low high : ℤ) → IsKey low → IsKey high
    → item_record mark 0x14 (entry (word_of low) (word_of high) []) ≡ record_of mark 0x14 (be8 (twos_of low) ++ (be8 (twos_of high) ++ []))

-- the bytes are a form, every output has words, and output i is the first without room for its run
pub record NoRoomFor (f : Form) (b : List ℕ) (outs : List (List ℕ)) (i : ℕ) : Type 0 where
  pub runs : List (List Entry)
  pub form : Formed f b runs
  pub words : Each (λ (out : List ℕ). 0 < length out) outs
  pub short : Lacks f.layout (lengths outs) (lengths runs) i

-- [R5, Y15] ROOM exactly: reading is refused with 5 for output i exactly there
abbrev pub ReadRoom : Type 0
ReadRoom = (f : Form) → OfFour f → (b : List ℕ) → Bytes b → (outs : List (List ℕ)) → length outs ≡ f.runs → (i : ℕ)
    → Iff (read_call f b outs ≡ refuse 5 i outs) (NoRoomFor f b outs i)

-- [C5] what was read, written into enough bytes, gives the new form of it, as long as the bytes read, whichever mark these bear
abbrev pub ReadWritten : Type 0
ReadWritten = (f : Form) → OfFour f → (b : List ℕ) (outs ws : List (List ℕ)) (bytes : List ℕ) (p : ℕ) → Bytes b → length outs ≡ f.runs
    → read_call f b outs ≡ outcome (given []) ws → p + length b ≤ length bytes
    → write_call f ws bytes p ≡ outcome (given (length b ∷ [])) (patch p (form_of new_mark f (held_in f.layout ws)) bytes ∷ [])

-- [D4, Y1, C5] GIVES BACK: where they bear the new mark, it is the bytes read
abbrev pub GivesBack : Type 0
GivesBack = (f : Form) → OfFour f → (b : List ℕ) (outs ws : List (List ℕ)) (bytes : List ℕ) (p : ℕ) → Bytes b → length outs ≡ f.runs
    → mark_of b ≡ new_mark → read_call f b outs ≡ outcome (given []) ws → p + length b ≤ length bytes
    → write_call f ws bytes p ≡ outcome (given (length b ∷ [])) (patch p b bytes ∷ [])

-- [D4, Y11] and reading what was written gives the same entries
abbrev pub WrittenRead : Type 0
WrittenRead = (f : Form) → OfFour f → (ws : List (List ℕ)) (bytes bytes' : List ℕ) (outs : List (List ℕ)) (p n : ℕ) → length ws ≡ f.runs
    → write_call f ws bytes p ≡ outcome (given (n ∷ [])) (bytes' ∷ []) → Clear (out_refusals f.layout (lengths outs) (lengths (held_in f.layout ws)))
    → read_call f (take n (drop p bytes')) outs ≡ outcome (given []) (stored_in outs (held_in f.layout ws))

-- [D3, C5] ONE BYTE FORM under one mark: bytes with the same mark that are read, into blocks of any lengths, as the same set are the same bytes
abbrev pub OneSetForm : Type 0
OneSetForm = (b b' out out' w w' : List ℕ) → Bytes b → Bytes b' → mark_of b ≡ mark_of b' → read_set_call b out ≡ leaves w → read_set_call b' out' ≡ leaves w'
    → ((x : ℕ) → x ≤ M → In w x ≡ In w' x) → b ≡ b'

-- [D3, C5] bytes with the same mark that are read as the same map are the same bytes
abbrev pub OneMapForm : Type 0
OneMapForm = (b b' out out' w w' : List ℕ) → Bytes b → Bytes b' → mark_of b ≡ mark_of b' → read_map_call b out ≡ leaves w → read_map_call b' out' ≡ leaves w'
    → ((x : ℕ) → x ≤ M → ValueOf w x ≡ ValueOf w' x) → b ≡ b'

-- [D3, C5] bytes with the same mark that are read as the same bulletin, by its released and its withdrawn set, are the same bytes
abbrev pub OneBulletinForm : Type 0
OneBulletinForm = (b b' out_r out_w outR' outW' r w r' w' : List ℕ) → Bytes b → Bytes b' → mark_of b ≡ mark_of b'
    → read_bulletin_call b out_r out_w ≡ outcome (given []) (r ∷ w ∷ []) → read_bulletin_call b' outR' outW' ≡ outcome (given []) (r' ∷ w' ∷ [])
    → ((x : ℕ) → x ≤ M → In r x ≡ In r' x) → ((x : ℕ) → x ≤ M → In w x ≡ In w' x) → b ≡ b'

-- [D3, K6, C5] bytes with the same mark that are read as the same signed set, by its keys, are the same bytes
abbrev pub OneSignedForm : Type 0
OneSignedForm = (b b' out out' w w' : List ℕ) → Bytes b → Bytes b' → mark_of b ≡ mark_of b' → read_signed_call b out ≡ leaves w → read_signed_call b' out' ≡ leaves w'
    → ((k : ℤ) → IsKey k → InKeys w k ≡ InKeys w' k) → b ≡ b'

-- [D3] and sound blocks, of any lengths and with any later words, that name the same set are written alike: the same bytes, or both refused
-- for want of space
abbrev pub OneSetWritten : Type 0
OneSetWritten = (w w' bytes : List ℕ) (p : ℕ) → SoundSet w → SoundSet w' → Lent w → Lent w' → ((x : ℕ) → x ≤ M → In w x ≡ In w' x)
    → write_set_call w bytes p ≡ write_set_call w' bytes p

-- [D3] sound blocks that name the same map are written alike
abbrev pub OneMapWritten : Type 0
OneMapWritten = (w w' bytes : List ℕ) (p : ℕ) → SoundMap w → SoundMap w' → Lent w → Lent w' → ((x : ℕ) → x ≤ M → ValueOf w x ≡ ValueOf w' x)
    → write_map_call w bytes p ≡ write_map_call w' bytes p

-- [D3, K6] sound blocks that name the same keys are written alike as signed sets
abbrev pub OneSignedWritten : Type 0
OneSignedWritten = (w w' bytes : List ℕ) (p : ℕ) → SoundSet w → SoundSet w' → Lent w → Lent w' → ((k : ℤ) → IsKey k → InKeys w k ≡ InKeys w' k)
    → write_signed_call w bytes p ≡ write_signed_call w' bytes p

-- [D3] sound blocks that name the same two sets are written alike as bulletins
abbrev pub OneBulletinWritten : Type 0
OneBulletinWritten = (r w r' w' bytes : List ℕ) (p : ℕ) → SoundSet r → SoundSet w → SoundSet r' → SoundSet w' → Lent r → Lent w → Lent r' → Lent w'
    → ((x : ℕ) → x ≤ M → In r x ≡ In r' x) → ((x : ℕ) → x ≤ M → In w x ≡ In w' x) → write_bulletin_call r w bytes p ≡ write_bulletin_call r' w' bytes p

-- [Y10, Y16, K6, C2] the length that writing answers is 7+21n, 7+29n, 9+21(r+w), 7+21n of word 0 of the blocks; every byte but those of the new form
-- stays
abbrev pub WriteSizes : Type 0
WriteSizes = (p n : ℕ) (bytes bytes' : List ℕ)
    → ((w : List ℕ) → write_set_call w bytes p ≡ outcome (given (n ∷ [])) (bytes' ∷ []) → (n ≡ 7 + 21 * get_or w 0 0)
    × (bytes' ≡ patch p (form_of new_mark of_set (entries_of set_layout.width w ∷ [])) bytes))
    × ((w : List ℕ) → write_map_call w bytes p ≡ outcome (given (n ∷ [])) (bytes' ∷ []) → (n ≡ 7 + 29 * get_or w 0 0)
    × (bytes' ≡ patch p (form_of new_mark of_map (entries_of map_layout.width w ∷ [])) bytes))
    × ((r w : List ℕ) → write_bulletin_call r w bytes p ≡ outcome (given (n ∷ [])) (bytes' ∷ []) → (n ≡ 9 + 21 * (get_or r 0 0 + get_or w 0 0))
    × (bytes' ≡ patch p (form_of new_mark of_bulletin (entries_of set_layout.width r ∷ entries_of set_layout.width w ∷ [])) bytes))
    × ((w : List ℕ) → write_signed_call w bytes p ≡ outcome (given (n ∷ [])) (bytes' ∷ []) → (n ≡ 7 + 21 * get_or w 0 0)
    × (bytes' ≡ patch p (form_of new_mark of_signed (entries_of set_layout.width w ∷ [])) bytes))

-- [R0] refused, no word and no byte is changed
abbrev pub BytesKeep : Type 0
BytesKeep = ((f : Form) (b : List ℕ) (outs : List (List ℕ)) → Keeps outs (read_call f b outs))
    × ((f : Form) (ws : List (List ℕ)) (bytes : List ℕ) (p : ℕ) → Keeps (bytes ∷ []) (write_call f ws bytes p))

-- [H1, H2] THE C HOST'S QUESTION: where reading the same bytes is accepted, 1 or 0 as the set that it leaves has the number; where reading
-- refuses the bytes, 16 plus that refusal's number
abbrev pub HostQuestion : Type 0
HostQuestion = (b : List ℕ) (x : ℕ) → Bytes b
    → ((out w : List ℕ) → read_set_call b out ≡ leaves w → member_of_form_call b x ≡ pick (In w x) 1 0)
    × ((n p : ℕ) → read_call of_set b [] ≡ refuse n p [] → member_of_form_call b x ≡ 16 + n)

-- [H1] and bytes that are no form of a set are answered by 16 plus a number from 8 to 13: never by 1 or 0
abbrev pub HostRefuses : Type 0
HostRefuses = (b : List ℕ) (x : ℕ) → Bytes b → (IsForm of_set b → ⊥) → (16 + 8 ≤ member_of_form_call b x) × (member_of_form_call b x ≤ 16 + 13)

-- [H1, C3] JUDGING A FORM ALONE: where reading the same bytes is accepted, the count that it leaves in word 0; where reading refuses the bytes,
-- that refusal, at its place
abbrev pub JudgeAsRead : Type 0
JudgeAsRead = (b : List ℕ) → Bytes b
    → ((out w : List ℕ) → read_set_call b out ≡ leaves w → judge_set_call b ≡ outcome (given (get_or w 0 0 ∷ [])) [])
    × ((n p : ℕ) → read_call of_set b [] ≡ refuse n p [] → judge_set_call b ≡ refuse n p [])
