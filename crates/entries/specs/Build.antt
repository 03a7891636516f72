-- The sound list of a function that is constant on ranges, computed from its cut points: the numbers at which it may change.
-- What a reader has to know of it is one law: `built` (proofs/Building), it is sound and names exactly the function; with
-- `canonical` (proofs/Canon) it is the only such list.
use Rattle.std.specs.Prelude.{Bool, true, false, List, [], ◌∷◌, ◌++◌, ℕ, suc, ◌-◌, ltb, leb, eqb}
use Rattle.std.proofs.Math.Option.{Option, none, some}
use Rattle.entries.specs.Entries.{Value, Entry, entry, value_at}

-- the first of two where a test holds, else the second
abbrev pub pick : {A : Type 0} → Bool → A → A → A
pick true a b = a
pick false a b = b

-- both hold
abbrev pub andb : Bool → Bool → Bool
andb true b = b
andb false b = false

-- two values are the same words
abbrev pub same_words : List ℕ → List ℕ → Bool
same_words [] [] = true
same_words [] (y ∷ ys) = false
same_words (x ∷ xs) [] = false
same_words (x ∷ xs) (y ∷ ys) = andb (eqb x y) (same_words xs ys)

-- numbers in rising order, each once
abbrev pub insert : ℕ → List ℕ → List ℕ
insert c [] = c ∷ []
insert c (d ∷ ds) = pick (ltb c d) (c ∷ d ∷ ds) (pick (eqb c d) (d ∷ ds) (d ∷ insert c ds))

-- the same for all of a list
abbrev pub sort : List ℕ → List ℕ
sort [] = []
sort (c ∷ cs) = insert c (sort cs)

-- the segment x..h of value v put before a list that begins past h, joined with its first entry or not
abbrev pub join : Bool → ℕ → ℕ → Value → Entry → List Entry → List Entry
join true x h v e es = entry x e.high v ∷ es
join false x h v e es = entry x h v ∷ e ∷ es

-- the same where the segment has a value; where it has none it is left out
abbrev pub glue : ℕ → ℕ → Option Value → List Entry → List Entry
glue x h none es = es
glue x h (some v) [] = entry x h v ∷ []
glue x h (some v) (e ∷ es) = join (andb (eqb (suc h) e.low) (same_words v e.value)) x h v e es

-- the segments between cut points, joined where they touch with the same value
abbrev pub walk : (ℕ → Option Value) → List ℕ → List Entry
walk F [] = []
walk F (c ∷ []) = []
walk F (c ∷ d ∷ ds) = glue c (d - 1) (F c) (walk F (d ∷ ds))

-- the list of F, which may change its value only at 0 and at the numbers cs
abbrev pub build : (ℕ → Option Value) → List ℕ → List Entry
build F cs = walk F (sort (0 ∷ cs))

-- the numbers at which a list may change its value
abbrev pub cuts_of : List Entry → List ℕ
cuts_of [] = []
cuts_of (e ∷ es) = e.low ∷ suc e.high ∷ cuts_of es

-- an operation on two lists: the list of a function of the two values
abbrev pub combine : (Option Value → Option Value → Option Value) → List Entry → List Entry → List Entry
combine f es fs = build (λ x. f (value_at es x) (value_at fs x)) (cuts_of es ++ cuts_of fs)

-- o on a..b, and elsewhere what es names
abbrev pub with : List Entry → ℕ → ℕ → Option Value → ℕ → Option Value
with es a b o x = pick (andb (leb a x) (leb x b)) o (value_at es x)

-- [S9, S10, M2, M3] Every edit in place: the list of es with o on a..b. Insert and assign put a value, remove and erase put none.
unfoldable pub put : List Entry → ℕ → ℕ → Option Value → List Entry
put es a b o = build (with es a b o) (a ∷ suc b ∷ cuts_of es)
