-- A part of a lent block: where it lies, and what its words are.
use Rattle.std.specs.Prelude.{◌≡◌, List, [], ◌∷◌, ℕ, ◌+◌, ◌*◌, eqb, take, drop}
use Rattle.std.specs.Borrow.{Bor}
use Rattle.entries.specs.Build.{pick}
use Rattle.answers.specs.Answers.{Answer, given}
use Rattle.answers.specs.declared.Part.{Part}

-- the part of so many words that begins at a word of its block, counted from 0
abbrev pub part : ℕ → ℕ → Part
part place words = record { place = place; length = words }

-- the words of a part of w
abbrev pub words_at : List ℕ → Part → List ℕ
words_at w p = take p.length (drop p.place w)

-- [S6, M7, M8] r is that part of the caller's own block w: it lies in that block, behind as many words of eight bytes, and it has those words
pub record IsPart (w r : Bor (List ℕ)) (p : Part) : Type 0 where
  pub block : r.ref_ptr.0 ≡ w.ref_ptr.0
  pub offset : r.ref_ptr.1 ≡ p.place * 8 + w.ref_ptr.1
  pub words : r.now ≡ words_at w.now p

-- [R20] what is handed back where the call is refused: no words, at the block's front
abbrev pub no_part : Part
no_part = part 0 0

-- a part as an answer: its place and its length, or no values where it is empty
abbrev pub part_says : Part → Answer
part_says p = pick (eqb p.length 0) (given []) (given (p.place ∷ p.length ∷ []))
