-- What the steps of the code promise each other. No public promise names these.
use Rattle.std.specs.Prelude.{◌≡◌, Bool, List, [], ◌∷◌, ℕ, ◌+◌, ◌*◌, ◌^◌, ◌≤◌, ◌<◌, leb, ltb, length, get_or, set}
use Rattle.entries.specs.Entries.{Entry}
use Rattle.entries.specs.Build.{pick}
use Rattle.entries.specs.Sets.{past_m}
use Rattle.blocks.specs.Blocks.{set_layout, SoundBlock, Lent, entries_of}
use Rattle.searches.specs.Steps.{FirstFrom}
use Rattle.prefixes.specs.declared.Pairs.{Pairs}
use Rattle.tilings.specs.Prefixes.{Prefix, largest, whole, most}

-- r is the exponent of the largest block that fits at the low end p of left + 1 numbers
pub record Fits (p left r : ℕ) : Type 0 where
  pub is : r ≡ largest whole p (left + 1)
  pub small : r ≤ whole
  pub within : 2 ^ r ≤ left + 1

-- what a pass has so far: the blocks that it has counted, and the words of the output
pub record Tally : Type 0 where
  pub count : ℕ
  pub words : List ℕ

abbrev pub tally : ℕ → List ℕ → Tally
tally n w = record { count = n; words = w }

-- One block more: it is counted, up to the number of the output's words, which is more than there is room for; and its pair is stored, if
-- fewer than room stand before it.
abbrev pub noted : ℕ → Prefix → Tally → Tally
noted room p t =
    tally (pick (ltb t.count (length t.words)) (t.count + 1) t.count)
    (pick (ltb t.count room) (set (set t.words (2 * t.count + 1) p.start) (2 * t.count + 2) p.exponent) t.words)

-- all blocks of a list, one after another
abbrev pub all_noted : ℕ → List Prefix → Tally → Tally
all_noted room [] t = t
all_noted room (p ∷ ps) t = all_noted room ps (noted room p t)

-- a pass that has gone from p to q has noted the blocks ps: with the same room, in the same words
pub record Notes (ps : List Prefix) (p q : Pairs) : Type 0 where
  pub noted : tally q.count q.out.now ≡ all_noted p.room ps (tally p.count p.out.now)
  pub room : q.room ≡ p.room
  pub place : q.out.ghost_name ≡ p.out.ghost_name

-- an output with room for so many pairs
abbrev pub HasRoom : ℕ → List ℕ → Type 0
HasRoom room o = 1 + 2 * room ≤ length o

-- a method gives no more blocks than so many for each range of a sound set
abbrev pub MostBlocks : (List Entry → List Prefix) → Type 0
MostBlocks blocks = (w : List ℕ) → SoundBlock set_layout w → Lent w → length (blocks (entries_of 2 w)) ≤ most * get_or w 0 0

-- r says whether an output has room for so many of the blocks ps, and it stays as it was
pub record Fitting (ps : List Prefix) (room : ℕ) (o : List ℕ) (r : Bool) (o' : List ℕ) : Type 0 where
  pub fits : r ≡ leb (length ps) room
  pub same : o' ≡ o

-- A node of the audit: 2^e numbers of 0..M from start on, of which ones is one less; and place is that of the
-- first range that ends at or past start.
pub record Node (w : List ℕ) (start e ones place : ℕ) : Type 0 where
  pub block : SoundBlock set_layout w
  pub size : ones + 1 ≡ 2 ^ e
  pub in_line : start + ones < past_m
  pub first : FirstFrom w 2 2 (get_or w 0 0) start place

-- a place in a sound set from which the first range that ends at or past x is sought: every range before it ends below x
pub record Begins (w : List ℕ) (place x : ℕ) : Type 0 where
  pub block : SoundBlock set_layout w
  pub within : place ≤ get_or w 0 0
  pub before : (k : ℕ) → k < place → get_or w (2 * k + 2) 0 < x
