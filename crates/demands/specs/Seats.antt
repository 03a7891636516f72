-- WHERE A NUMBER SITS: the count that comes with yes or no where membership is asked. Each is said of a sound block; on any other block the
-- call is refused by R1, R2, R3.
use Rattle.std.specs.Prelude.{◌≡◌, ◌⊎◌, true, false, List, [], ◌∷◌, ℕ, suc, ◌+◌, ◌*◌, ◌≤◌, ◌<◌, length, get_or, ℤ}
use Rattle.std.specs.Int.Signed.{lt_z}
use Rattle.keys.specs.Keys.{IsKey, word_of, key_of}
use Rattle.entries.specs.Questions.{bit, wholly_below}
use Rattle.blocks.specs.Blocks.{set_layout, entries_of}
use Rattle.sets.specs.Calls.{member_call, range_at_call}
use Rattle.demands.specs.Plain.{Iff, SoundSet, InRange, In, answers, yes_with, no_with}
use Rattle.demands.specs.Signed.{InKeyRange}

-- [S1, W1, D2] what is answered: 1 or 0, and the number of ranges that lie wholly below x
abbrev pub MemberIs : Type 0
MemberIs = (w : List ℕ) (x : ℕ) → SoundSet w → member_call w x ≡ answers (bit (In w x) ∷ length (wholly_below x (entries_of set_layout.width w)) ∷ [])

-- [W1] i ranges of the set block w lie wholly below x: those before index i end below it, and the one at index i, if there is one, does not
pub record CountBelow (w : List ℕ) (x i : ℕ) : Type 0 where
  pub within : i ≤ get_or w 0 0
  pub before : (k : ℕ) → k < i → get_or w (2 + 2 * k) 0 < x
  pub from : i < get_or w 0 0 → x ≤ get_or w (2 + 2 * i) 0

-- [W1, D2] THE COUNT IS EXACT, with yes and with no: it is i exactly if so many ranges lie wholly below x
abbrev pub MemberCount : Type 0
MemberCount = (w : List ℕ) (x i : ℕ) → SoundSet w → Iff ((member_call w x ≡ yes_with i) ⊎ (member_call w x ≡ no_with i)) (CountBelow w x i)

-- [W1, W3] the range at index i holds x: x is in a range, and that is its index
pub record Holds (w : List ℕ) (x i : ℕ) : Type 0 where
  pub range : InRange w x
  pub at : range.index ≡ i

-- [W1, W3, D2] A MEMBER: yes with i exactly if the range at index i holds x
abbrev pub HeldAt : Type 0
HeldAt = (w : List ℕ) (x i : ℕ) → SoundSet w → Iff (member_call w x ≡ yes_with i) (Holds w x i)

-- [W1, W3] x lies between the range at index i - 1, which ends below it, and the one at index i, which begins past it, where there are such
pub record Beside (w : List ℕ) (x i : ℕ) : Type 0 where
  pub within : i ≤ get_or w 0 0
  pub below : (k : ℕ) → suc k ≡ i → get_or w (2 + 2 * k) 0 < x
  pub above : i < get_or w 0 0 → x < get_or w (1 + 2 * i) 0

-- [W1, W3, D2] NO MEMBER: no with i exactly if x lies there
abbrev pub NextTo : Type 0
NextTo = (w : List ℕ) (x i : ℕ) → SoundSet w → Iff (member_call w x ≡ no_with i) (Beside w x i)

-- [W3, S2] the range at index i, as the call answers it, holds x
pub record Holder (w : List ℕ) (x i : ℕ) : Type 0 where
  pub low : ℕ
  pub high : ℕ
  pub is : range_at_call w i ≡ answers (low ∷ high ∷ [])
  pub from : low ≤ x
  pub upto : x ≤ high

-- [W3, S2, D2] BY THE CALLS ALONE, as a host shows where a pack sits: the range at the index that came with yes does
abbrev pub MemberHolder : Type 0
MemberHolder = (w : List ℕ) (x i : ℕ) → SoundSet w → member_call w x ≡ yes_with i → Holder w x i

-- [W3, S2] the ranges at index i - 1 and i, as the call answers them, are the neighbours of x: no member lies between them and x, and where one
-- is not there, no member lies on that side at all
pub record Neighbours (w : List ℕ) (x i : ℕ) : Type 0 where
  pub below : (k low high : ℕ) → suc k ≡ i → range_at_call w k ≡ answers (low ∷ high ∷ []) → (high < x) × ((z : ℕ) → high < z → z ≤ x → In w z ≡ false)
  pub above : (low high : ℕ) → range_at_call w i ≡ answers (low ∷ high ∷ []) → (x < low) × ((z : ℕ) → x ≤ z → z < low → In w z ≡ false)
  pub none_below : i ≡ 0 → (z : ℕ) → z ≤ x → In w z ≡ false
  pub none_above : range_at_call w i ≡ answers [] → (z : ℕ) → x ≤ z → In w z ≡ false

-- [W3, S2, D2] and those at the index that came with no, and before it, are
abbrev pub MemberNeighbours : Type 0
MemberNeighbours = (w : List ℕ) (x i : ℕ) → SoundSet w → member_call w x ≡ no_with i → Neighbours w x i

-- [K2, W1, W3] of a signed set: the range at index i holds the key
pub record HoldsKey (w : List ℕ) (k : ℤ) (i : ℕ) : Type 0 where
  pub range : InKeyRange w k
  pub at : range.index ≡ i

-- [K2, W1, W3] the key lies between the ranges at index i - 1 and i, where there are such
pub record BesideKey (w : List ℕ) (k : ℤ) (i : ℕ) : Type 0 where
  pub within : i ≤ get_or w 0 0
  pub below : (j : ℕ) → suc j ≡ i → lt_z (key_of (get_or w (2 + 2 * j) 0)) k ≡ true
  pub above : i < get_or w 0 0 → lt_z k (key_of (get_or w (1 + 2 * i) 0)) ≡ true

-- [K2, W1, W3] yes with i exactly if the one, no with i exactly if the other
abbrev pub SeatKey : Type 0
SeatKey = (w : List ℕ) (k : ℤ) (i : ℕ) → SoundSet w → IsKey k
    → Iff (member_call w (word_of k) ≡ yes_with i) (HoldsKey w k i) × Iff (member_call w (word_of k) ≡ no_with i) (BesideKey w k i)
