-- Blocks of words: the entries that they say, the words of entries, capacity, and the judge's verdict.
-- An item has s words: low, high, and s - 2 words of value. Sets have s = 2, maps s = 3.
use Rattle.std.specs.Prelude.{◌≡◌, Bool, true, not, List, [], ◌∷◌, ◌++◌, ℕ, zero, suc, ◌+◌, ◌-◌, ◌/◌, ◌≤◌, ◌<◌, min, leb, ltb, eqb, length, get_or, take, drop, replicate}
use Rattle.entries.specs.Entries.{Each, Entry, entry, Sound}
use Rattle.entries.specs.Sets.{past_m}
use Rattle.entries.specs.Build.{pick, andb, same_words}
use Rattle.blocks.specs.declared.Layout.{Layout}

-- how a block is laid out: the words an item takes, and the limit on the number of items
abbrev pub layout : ℕ → ℕ → Layout
layout s limit = record { width = s; limit = limit }

-- [B2, B3] a set: two words a range, at most 4,095 of them
abbrev pub set_layout : Layout
set_layout = layout 2 4095

-- [B2, B3] a map: three words an entry, at most 2,730 of them
abbrev pub map_layout : Layout
map_layout = layout 3 2730

-- [B3] the capacity of a block of L words, L at least 1: the lesser of floor((L-1)/2) and 4,095 for a set, of floor((L-1)/3) and 2,730
-- for a map
abbrev pub capacity : Layout → ℕ → ℕ
capacity l L = min ((L - 1) / l.width) l.limit

-- [B2] the item that begins a list of words: low, high, and the value's words
abbrev pub item_of : ℕ → List ℕ → Entry
item_of s ws = entry (get_or ws 0 0) (get_or ws 1 0) (take (s - 2) (drop 2 ws))

-- [B2] n items, one after another
abbrev pub items_of : ℕ → ℕ → List ℕ → List Entry
items_of s zero ws = []
items_of s (suc n) ws = item_of s ws ∷ items_of s n (drop s ws)

-- [B1, B7] The entries that a block says: word 0 is how many there are, and they begin behind it. Later words are not read.
abbrev pub entries_of : ℕ → List ℕ → List Entry
entries_of s w = items_of s (get_or w 0 0) (drop 1 w)

-- [B2] the words of entries
abbrev pub words_of : List Entry → List ℕ
words_of [] = []
words_of (e ∷ es) = e.low ∷ e.high ∷ (e.value ++ words_of es)

-- items of s words: every value has s - 2
abbrev pub Shaped : ℕ → List Entry → Type 0
Shaped s = Each (λ e. 2 + length e.value ≡ s)

-- [B7, B8] The block of L words that says es: the stored form is word 0 and the items, and every later word is 0.
unfoldable pub block_of : ℕ → List Entry → List ℕ
block_of L es = length es ∷ (words_of es ++ replicate (L - (1 + length (words_of es))) 0)

-- [B4, B5] `Sound` of entries/specs/Entries as a test (`sound_true`, `true_sound` in proofs/Judging): q may stand right after p,
abbrev pub afterb : Entry → Entry → Bool
afterb p q = andb (ltb p.high q.low) (not (andb (eqb q.low (suc p.high)) (same_words p.value q.value)))

-- the first of a list, if there is one, may stand right after p,
abbrev pub linkb : Entry → List Entry → Bool
linkb p [] = true
linkb p (q ∷ qs) = afterb p q

-- e has its low at most its high, and es may stand after it,
abbrev pub fine : Entry → List Entry → Bool
fine e es = andb (leb e.low e.high) (linkb e es)

-- and all of them
abbrev pub soundb : List Entry → Bool
soundb [] = true
soundb (e ∷ es) = andb (fine e es) (soundb es)

-- [R1, R2, R3] 1 for a block with no words, 2 where word 0 is above the capacity, 3 where it is otherwise not sound, in this order; 0 for
-- a sound block
unfoldable pub verdict : Layout → List ℕ → ℕ
verdict l w =
    pick (eqb (length w) 0) 1 (pick (ltb (capacity l (length w)) (get_or w 0 0)) 2 (pick (soundb (entries_of l.width w)) 0 3))

-- [B4, B5] a sound block: the same said of verdict 0 (`verdict_sound`, `sound_verdict` in proofs/Judging)
pub record SoundBlock (l : Layout) (w : List ℕ) : Type 0 where
  pub some : 0 < length w
  pub fits : get_or w 0 0 ≤ capacity l (length w)
  pub sound : Sound (entries_of l.width w)

-- what is lent as words: each is below 2^64
abbrev pub Lent : List ℕ → Type 0
Lent w = (j : ℕ) → get_or w j 0 < past_m
