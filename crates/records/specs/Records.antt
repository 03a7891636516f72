-- One record: how it is written, what it holds, and the verdict on reading it.
-- A verdict is 0, or the number of the refusal.
use Rattle.std.specs.Prelude.{ℕ, ◌+◌, Bool, true, List, [], ◌∷◌, ◌++◌, leb, ltb, eqb, length, get_or, take, drop}
use Rattle.std.proofs.Math.Option.{Option, none, some}
use Rattle.keys.specs.Keys.{turned}
use Rattle.entries.specs.Entries.{Entry, entry}
use Rattle.entries.specs.Build.{pick, andb}
use Rattle.blocks.specs.Blocks.{item_of, afterb}
use Rattle.numbers.specs.Numbers.{num2, be2, words_in, word_bytes, counts_in, count_bytes}
use Rattle.checks.specs.Check.{check_of}

-- [Y3, Y4, Y5, Y6, Y7, Y8, Y9, K6] «kind | body», the body's length; 0x00 and every other kind, from 0x05 to 0x0F and from 0x15 to 0xFF, is unknown
unfoldable pub body_length : ℕ → Option ℕ
body_length kind =
    pick (eqb kind 0x01) (some 2)
    (pick (eqb kind 0x02) (some 2)
    (pick (eqb kind 0x03) (some 4)
    (pick (eqb kind 0x04) (some 2)
    (pick (eqb kind 0x10) (some 16)
    (pick (eqb kind 0x11) (some 24)
    (pick (eqb kind 0x12) (some 16)
    (pick (eqb kind 0x13) (some 16)
    (pick (eqb kind 0x14) (some 16) none))))))))

-- [Y2] «A record is the mark .., one kind byte, a body, two check bytes.»
abbrev pub record_of : ℕ → ℕ → List ℕ → List ℕ
record_of mark kind body = be2 mark ++ ((kind ∷ body) ++ be2 (check_of mark (kind ∷ body)))

-- [Y3, Y4, Y5] «count, 2 bytes»; «released count, withdrawn count, 2 bytes each»
abbrev pub start_record : ℕ → ℕ → List ℕ → List ℕ
start_record mark kind counts = record_of mark kind (count_bytes counts)

-- [K6] an end of a range as it stands in a record of a kind, from the word that it has in a block, and back: a key in two's complement in
-- 0x14, and the word itself in every other kind
abbrev pub end_of : ℕ → ℕ → ℕ
end_of kind x = pick (eqb kind 0x14) (turned x) x

-- What a record of a kind says with an item's words, and the item whose words say an entry.
-- What the laws of the byte form need of the two is `Saying` in proofs/Said.
unfoldable pub said : ℕ → Entry → Entry
said kind item = entry (end_of kind item.low) (end_of kind item.high) item.value

unfoldable pub saying : ℕ → Entry → Entry
saying kind e = entry (end_of kind e.low) (end_of kind e.high) e.value

-- [Y6, Y7, Y8, K6] «low, high, 8 bytes each»; «low, high, value, 8 bytes each»
abbrev pub entry_words : Entry → List ℕ
entry_words e = e.low ∷ e.high ∷ e.value

abbrev pub item_record : ℕ → ℕ → Entry → List ℕ
item_record mark kind e = record_of mark kind (word_bytes (entry_words (saying kind e)))

-- [R8, R11, R12, Y13] «fewer bytes than its full length, 8; check, 11; content, 12»
abbrev pub body_verdict : ℕ → Option ℕ → Bool → List ℕ → ℕ
body_verdict mark none content b = 10
body_verdict mark (some n) content b =
    pick (ltb (length b) (n + 5)) 8
    (pick (eqb (check_of mark (take (n + 1) (drop 2 b))) (num2 b (n + 3))) (pick content 0 12) 11)

-- [R8, R9, R10, Y13, K7] what is left of the bytes begins with a whole record of the kind that is due, whose content is right or not: «fewer than 3 bytes
-- left, 8; mark, 9; kind, 10»
unfoldable pub record_verdict : ℕ → ℕ → Bool → List ℕ → ℕ
record_verdict mark due content b =
    pick (ltb (length b) 3) 8
    (pick (eqb (num2 b 0) mark)
    (pick (eqb (get_or b 2 0) due) (body_verdict mark (body_length due) content b) 10)
    9)

-- [R12] «12 Content: a count above the limit»: a start record with k counts
abbrev pub all_within : ℕ → List ℕ → Bool
all_within limit [] = true
all_within limit (n ∷ ns) = andb (leb n limit) (all_within limit ns)

abbrev pub start_verdict : ℕ → ℕ → ℕ → ℕ → List ℕ → ℕ
start_verdict mark due k limit b = record_verdict mark due (all_within limit (counts_in k b 3)) b

-- the entry that the item record says that the bytes begin with, s words an item
abbrev pub entry_in : ℕ → ℕ → List ℕ → Entry
entry_in kind s b = said kind (item_of s (words_in s b 3))

-- the item may stand after the one before it, where there is one
abbrev pub follows : Option Entry → Entry → Bool
follows none e = true
follows (some d) e = afterb d e

-- [R12] «12 Content: .. an item that breaks soundness»
abbrev pub in_order : Option Entry → Entry → Bool
in_order before e = andb (leb e.low e.high) (follows before e)

abbrev pub item_verdict : ℕ → ℕ → ℕ → Option Entry → List ℕ → ℕ
item_verdict mark due s before b = record_verdict mark due (in_order before (entry_in due s b)) b
