-- The plain terms in which the theorems are said: what words say, and what an outcome is.
use Rattle.std.specs.Prelude.{◌≡◌, Bool, List, [], ◌∷◌, ℕ, ◌+◌, ◌*◌, ◌≤◌, ◌<◌, leb, length, get_or, take, drop}
use Rattle.std.proofs.Math.Option.{Option}
use Rattle.entries.specs.Entries.{Value, value_at}
use Rattle.entries.specs.Build.{andb}
use Rattle.entries.specs.Sets.{member}
use Rattle.answers.specs.Answers.{given, refused, Outcome, outcome}
use Rattle.blocks.specs.declared.Layout.{Layout}
use Rattle.blocks.specs.Blocks.{set_layout, map_layout, capacity, entries_of, block_of, verdict}

-- each follows from the other
pub record Iff (P Q : Type 0) : Type 0 where
  pub to : P → Q
  pub from : Q → P

-- [B4] a set block that a call does not refuse as an input
abbrev pub SoundSet : List ℕ → Type 0
SoundSet w = verdict set_layout w ≡ 0

-- [B5] a map block that a call does not refuse as an input
abbrev pub SoundMap : List ℕ → Type 0
SoundMap w = verdict map_layout w ≡ 0

-- [B1, B2] x is in a range of the set block w: some i below word 0 with word 1+2i ≤ x ≤ word 2+2i
pub record InRange (w : List ℕ) (x : ℕ) : Type 0 where
  pub index : ℕ
  pub below : index < get_or w 0 0
  pub low : get_or w (1 + 2 * index) 0 ≤ x
  pub high : x ≤ get_or w (2 + 2 * index) 0

-- [B1, B2, B6] x is in an entry of the map block w, with the value v: some i below word 0 with word 1+3i ≤ x ≤ word 2+3i, word 3+3i = v
pub record InEntry (w : List ℕ) (x v : ℕ) : Type 0 where
  pub index : ℕ
  pub below : index < get_or w 0 0
  pub low : get_or w (1 + 3 * index) 0 ≤ x
  pub high : x ≤ get_or w (2 + 3 * index) 0
  pub value : get_or w (3 + 3 * index) 0 ≡ v

-- [D2] the plain set that a set block names (`InSet` of specs/Questions: exactly what its words say)
abbrev pub In : List ℕ → ℕ → Bool
In w x = member (entries_of set_layout.width w) x

-- [D2] the plain assignment that a map block names (`InMap`)
abbrev pub ValueOf : List ℕ → ℕ → Option Value
ValueOf w x = value_at (entries_of map_layout.width w) x

-- a question accepted, with its values: nothing is lent to be written
abbrev pub answers : List ℕ → Outcome
answers xs = outcome (given xs) []

-- the answer of a question that is true or not: 1
abbrev pub yes : Outcome
yes = answers (1 ∷ [])

-- and 0
abbrev pub no : Outcome
no = answers (0 ∷ [])

-- [W1] the answers of membership, with the count of the ranges that lie wholly below: yes
abbrev pub yes_with : ℕ → Outcome
yes_with below = answers (1 ∷ below ∷ [])

-- [W1] and no
abbrev pub no_with : ℕ → Outcome
no_with below = answers (0 ∷ below ∷ [])

-- [S1] what they say without the count: yes or no, or the refusal
abbrev pub truth_of : Outcome → Outcome
truth_of (outcome (given values) lent) = outcome (given (take 1 values)) lent
truth_of (outcome (refused number place) lent) = outcome (refused number place) lent

-- a change accepted with no value, and the words that it leaves in the one block that it writes
abbrev pub leaves : List ℕ → Outcome
leaves after = outcome (given []) (after ∷ [])

-- [B8, D2, S13] what an accepted call leaves in a block of L words, of any layout: a sound block, as long as it was, that gives exactly
-- the values of F, with zeros behind its stored form
pub record Left (l : Layout) (L : ℕ) (F : ℕ → Option Value) (after : List ℕ) : Type 0 where
  pub sound : verdict l after ≡ 0
  pub long : length after ≡ L
  pub names : (x : ℕ) → value_at (entries_of l.width after) x ≡ F x
  pub stored_form : after ≡ block_of L (entries_of l.width after)

-- and in a set block: one that has exactly the members that m accepts
pub record SetLeft (L : ℕ) (m : ℕ → Bool) (after : List ℕ) : Type 0 where
  pub sound : verdict set_layout after ≡ 0
  pub long : length after ≡ L
  pub members : (x : ℕ) → In after x ≡ m x
  pub stored_form : after ≡ block_of L (entries_of set_layout.width after)

-- x is one of a..b
abbrev pub between : ℕ → ℕ → ℕ → Bool
between a b x = andb (leb a x) (leb x b)

-- two blocks of one length with the same word 0 and the same words of the items that it counts
pub record SameForm (l : Layout) (w v : List ℕ) : Type 0 where
  pub long : length w ≡ length v
  pub count : get_or w 0 0 ≡ get_or v 0 0
  pub items : take (l.width * get_or w 0 0) (drop 1 w) ≡ take (l.width * get_or w 0 0) (drop 1 v)

-- [R5] of outputs with ls words each, which are to hold so many items each, output i is the first without room: those before it have it
pub record Lacks (l : Layout) (ls counts : List ℕ) (i : ℕ) : Type 0 where
  pub before : (k : ℕ) → k < i → get_or counts k 0 ≤ capacity l (get_or ls k 0)
  pub here : capacity l (get_or ls i 0) < get_or counts i 0
