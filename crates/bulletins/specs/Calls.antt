-- What applying a bulletin and folding two answer and leave, from the words lent alone.
-- A bulletin is two set blocks with no number in common, released and withdrawn, in that order.
use Rattle.std.specs.Prelude.{List, [], ◌∷◌, ℕ, length}
use Rattle.entries.specs.Entries.{Entry}
use Rattle.entries.specs.Bulletins.{amended}
use Rattle.answers.specs.Answers.{Outcome, outcome, given, in_turn}
use Rattle.blocks.specs.Blocks.{set_layout, entries_of, block_of}
use Rattle.blocks.specs.Calls.{input, output, room, holding}
use Rattle.searches.specs.Calls.{overlap}
use Rattle.answers.specs.Answers.{Finding}

-- [U2, U3] what a list block, or one half of a bulletin, becomes: without the numbers of `withdrawn`, then joined with those of `released`
abbrev pub amended_with : List ℕ → List ℕ → List ℕ → List Entry
amended_with list released withdrawn = amended (entries_of 2 list) (entries_of 2 released) (entries_of 2 withdrawn)

-- [R16, R17] the refusals of an application in their order; blocks: list, released, withdrawn, output
abbrev pub apply_refusals : List ℕ → List ℕ → List ℕ → ℕ → List Finding
apply_refusals list released withdrawn words =
    input 0 set_layout list
    ∷ input 1 set_layout released
    ∷ input 2 set_layout withdrawn
    ∷ output 3 words
    ∷ overlap released withdrawn
    ∷ room 3 set_layout words (amended_with list released withdrawn)
    ∷ []

-- [U2] applied to a list it gives the list without what is withdrawn, then joined with what is released
unfoldable pub apply_call : List ℕ → List ℕ → List ℕ → List ℕ → Outcome
apply_call list released withdrawn out =
    in_turn (apply_refusals list released withdrawn (length out)) (out ∷ [])
    (holding out (amended_with list released withdrawn))

-- [R16, R17] the refusals of a fold in their order, 14 of the earlier bulletin first; blocks: released and withdrawn of the earlier, of
-- the later, and the two outputs
abbrev pub fold_refusals : List ℕ → List ℕ → List ℕ → List ℕ → ℕ → ℕ → List Finding
fold_refusals released₁ withdrawn₁ released₂ withdrawn₂ words₄ words₅ =
    input 0 set_layout released₁
    ∷ input 1 set_layout withdrawn₁
    ∷ input 2 set_layout released₂
    ∷ input 3 set_layout withdrawn₂
    ∷ output 4 words₄
    ∷ output 5 words₅
    ∷ overlap released₁ withdrawn₁
    ∷ overlap released₂ withdrawn₂
    ∷ room 4 set_layout words₄ (amended_with released₁ released₂ withdrawn₂)
    ∷ room 5 set_layout words₅ (amended_with withdrawn₁ withdrawn₂ released₂)
    ∷ []

-- [U3, R0] The fold of an earlier and a later bulletin: R1 without W2, joined with R2, and W1 without R2, joined with W2. Refused, neither
-- output is changed. [U4]: when the order does not matter, by a law (`amended_swap` in entries/proofs/Bulletins).
unfoldable pub fold_call : List ℕ → List ℕ → List ℕ → List ℕ → List ℕ → List ℕ → Outcome
fold_call released₁ withdrawn₁ released₂ withdrawn₂ out_r out_w =
    in_turn (fold_refusals released₁ withdrawn₁ released₂ withdrawn₂ (length out_r) (length out_w)) (out_r ∷ out_w ∷ [])
    (outcome (given [])
    (block_of (length out_r) (amended_with released₁ released₂ withdrawn₂)
    ∷ block_of (length out_w) (amended_with withdrawn₁ withdrawn₂ released₂)
    ∷ []))
