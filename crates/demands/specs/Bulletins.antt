-- BULLETINS: what applying and folding leave, and the laws of folding, said of accepted calls and their words.
use Rattle.std.specs.Prelude.{◌≡◌, Bool, List, [], ◌∷◌, ℕ, ◌≤◌, ◌<◌, length}
use Rattle.entries.specs.Sets.{M}
use Rattle.entries.specs.Bulletins.{amend, Apart}
use Rattle.answers.specs.Answers.{Outcome, outcome, given, refuse, Keeps}
use Rattle.blocks.specs.Blocks.{set_layout, capacity, entries_of, Lent}
use Rattle.bulletins.specs.Calls.{amended_with, apply_call, fold_call}
use Rattle.demands.specs.Plain.{Iff, SoundSet, In, leaves, SetLeft}

-- an accepted fold, with the words of its two outputs
abbrev pub folds : List ℕ → List ℕ → Outcome
folds released withdrawn = outcome (given []) (released ∷ withdrawn ∷ [])

-- no number is in both
abbrev pub NoCommon : List ℕ → List ℕ → Type 0
NoCommon w v = Apart (entries_of set_layout.width w) (entries_of set_layout.width v)

-- [U1] a bulletin: two sound set blocks with no number in common, released and withdrawn
pub record Bulletin (released withdrawn : List ℕ) : Type 0 where
  pub released_sound : SoundSet released
  pub withdrawn_sound : SoundSet withdrawn
  pub apart : NoCommon released withdrawn

-- [U2, D2] APPLY: a number is listed afterwards if it was listed and is not withdrawn, or if it is released
abbrev pub Apply : Type 0
Apply = (list released withdrawn out after : List ℕ) → apply_call list released withdrawn out ≡ leaves after
    → SetLeft (length out) (λ x. amend (In list x) (In released x) (In withdrawn x)) after

-- [U3, D2] FOLD, in the same words
abbrev pub Fold : Type 0
Fold = (r₁ w₁ r₂ w₂ out_r out_w R W : List ℕ) → fold_call r₁ w₁ r₂ w₂ out_r out_w ≡ folds R W
    → SetLeft (length out_r) (λ x. amend (In r₁ x) (In r₂ x) (In w₂ x)) R × SetLeft (length out_w) (λ x. amend (In w₁ x) (In w₂ x) (In r₂ x)) W

-- [U1] and the fold of two bulletins is one
abbrev pub FoldIsOne : Type 0
FoldIsOne = (r₁ w₁ r₂ w₂ out_r out_w R W : List ℕ) → fold_call r₁ w₁ r₂ w₂ out_r out_w ≡ folds R W → Bulletin R W

-- [D5] FOLDING, THEN APPLYING: where two bulletins are folded, and applied one after the other, applying the fold to the same list, into a
-- block as long as the last, is accepted and leaves the same words
abbrev pub FoldApplies : Type 0
FoldApplies = (list r₁ w₁ r₂ w₂ out_r out_w R W out₁ T out₂ U out : List ℕ) → fold_call r₁ w₁ r₂ w₂ out_r out_w ≡ folds R W
    → apply_call list r₁ w₁ out₁ ≡ leaves T → apply_call T r₂ w₂ out₂ ≡ leaves U → length out ≡ length out₂ → apply_call list R W out ≡ leaves U

-- any number of bulletins, one after the other: applied to a list, each into a block of its own, they left T in a block of L words; folded,
-- each into what the ones before it had folded to, they are the one bulletin R, W
pub data Chain (list : List ℕ) : List ℕ → List ℕ → List ℕ → ℕ → Type 0 where
  one : (r w out T : List ℕ) → apply_call list r w out ≡ leaves T → Chain list r w T (length out)
  more : (R W T : List ℕ) (L : ℕ) → Chain list R W T L → (r w out_r out_w R' W' out T' : List ℕ)
      → fold_call R W r w out_r out_w ≡ folds R' W' → apply_call T r w out ≡ leaves T' → Chain list R' W' T' (length out)

-- [D5] TWENTY AT ONCE: a cart that is sent the one folded bulletin, and applies it to the same list into a block as long as the last of its
-- neighbour's, accepts it and holds the same words as the neighbour that took them one by one
abbrev pub ChainApplies : Type 0
ChainApplies = (list R W T : List ℕ) (L : ℕ) → Chain list R W T L → (out : List ℕ) → length out ≡ L → apply_call list R W out ≡ leaves T

-- [D6] GROUPING: three bulletins fold to the same words under either grouping, wherever both are accepted into blocks of equal length
abbrev pub FoldGroups : Type 0
FoldGroups = (r₁ w₁ r₂ w₂ r₃ w₃ : List ℕ) (o₁ o₂ o₃ o₄ o₅ o₆ o₇ o₈ : List ℕ) (R₁₂ W₁₂ R W R₂₃ W₂₃ R' W' : List ℕ)
    → fold_call r₁ w₁ r₂ w₂ o₁ o₂ ≡ folds R₁₂ W₁₂ → fold_call R₁₂ W₁₂ r₃ w₃ o₃ o₄ ≡ folds R W
    → fold_call r₂ w₂ r₃ w₃ o₅ o₆ ≡ folds R₂₃ W₂₃ → fold_call r₁ w₁ R₂₃ W₂₃ o₇ o₈ ≡ folds R' W'
    → length o₇ ≡ length o₃ → length o₈ ≡ length o₄ → (R ≡ R') × (W ≡ W')

-- [U4] EITHER ORDER: two bulletins neither of which releases a number that the other withdraws
abbrev pub EitherOrder : Type 0
EitherOrder = (r₁ w₁ r₂ w₂ out_r out_w outR' outW' R W R' W' : List ℕ) → NoCommon r₁ w₂ → NoCommon r₂ w₁
    → fold_call r₁ w₁ r₂ w₂ out_r out_w ≡ folds R W → fold_call r₂ w₂ r₁ w₁ outR' outW' ≡ folds R' W'
    → length outR' ≡ length out_r → length outW' ≡ length out_w → (R ≡ R') × (W ≡ W')

-- what a bulletin does to one serial that was listed (true) or not (false)
abbrev pub Effect : List ℕ → List ℕ → Bool → ℕ → Bool
Effect released withdrawn listed x = amend listed (In released x) (In withdrawn x)

-- two bulletins hold the same ranges
abbrev pub SameRanges : List ℕ → List ℕ → List ℕ → List ℕ → Type 0
SameRanges r w r' w' = (entries_of set_layout.width r ≡ entries_of set_layout.width r') × (entries_of set_layout.width w ≡ entries_of set_layout.width w')

-- [D7] THE SAME EFFECT: bulletins that do the same to every serial, listed before or not, hold the same ranges
abbrev pub SameEffect : Type 0
SameEffect = (r w r' w' : List ℕ) → Bulletin r w → Bulletin r' w' → Lent r → Lent w → Lent r' → Lent w'
    → ((listed : Bool) (x : ℕ) → x ≤ M → Effect r w listed x ≡ Effect r' w' listed x) → SameRanges r w r' w'

-- [D7] and so do bulletins that no application tells apart: on every list, into every output, both are accepted with the same words or
-- refused alike. (Refusals belong to it: where the first releases 4,095 ranges, whether it withdraws a serial that stands alone is seen
-- only by refusal 5.)
abbrev pub SameApplied : Type 0
SameApplied = (r w r' w' : List ℕ) → Bulletin r w → Bulletin r' w' → Lent r → Lent w → Lent r' → Lent w'
    → ((list out : List ℕ) → Lent list → Lent out → apply_call list r w out ≡ apply_call list r' w' out) → SameRanges r w r' w'

-- [R0] REFUSED, neither changes anything lent: the one output of apply, or the two of fold
abbrev pub BulletinsKeep : Type 0
BulletinsKeep = ((list released withdrawn out : List ℕ) → Keeps (out ∷ []) (apply_call list released withdrawn out))
    × ((r₁ w₁ r₂ w₂ out_r out_w : List ℕ) → Keeps (out_r ∷ out_w ∷ []) (fold_call r₁ w₁ r₂ w₂ out_r out_w))

-- [R5, R17] ROOM exactly: nothing earlier applies, and the list that results does not fit the output
abbrev pub ApplyRoom : Type 0
ApplyRoom = (list released withdrawn out : List ℕ)
    → Iff (apply_call list released withdrawn out ≡ refuse 5 3 (out ∷ []))
    (SoundSet list × Bulletin released withdrawn × (0 < length out) × (capacity set_layout (length out) < length (amended_with list released withdrawn)))

-- two bulletins, and outputs that have words
pub record Foldable (r₁ w₁ r₂ w₂ out_r out_w : List ℕ) : Type 0 where
  pub earlier : Bulletin r₁ w₁
  pub later : Bulletin r₂ w₂
  pub words : (0 < length out_r) × (0 < length out_w)

-- [R5, R17] ROOM exactly: nothing earlier applies, and the released set that results does not fit its output; or it does, and the withdrawn
-- set does not
abbrev pub FoldRoom : Type 0
FoldRoom = (r₁ w₁ r₂ w₂ out_r out_w : List ℕ)
    → Iff (fold_call r₁ w₁ r₂ w₂ out_r out_w ≡ refuse 5 4 (out_r ∷ out_w ∷ []))
    (Foldable r₁ w₁ r₂ w₂ out_r out_w × (capacity set_layout (length out_r) < length (amended_with r₁ r₂ w₂)))
    × Iff (fold_call r₁ w₁ r₂ w₂ out_r out_w ≡ refuse 5 5 (out_r ∷ out_w ∷ []))
    (Foldable r₁ w₁ r₂ w₂ out_r out_w × (length (amended_with r₁ r₂ w₂) ≤ capacity set_layout (length out_r))
    × (capacity set_layout (length out_w) < length (amended_with w₁ w₂ r₂)))
