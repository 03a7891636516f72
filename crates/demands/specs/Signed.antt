-- SIGNED SETS: a set of keys, from -2^63 to 2^63 - 1, is held in a set block by the words of its keys. What the calls answer and leave,
-- said of the keys; each statement follows from the one on numbers and from the shift.
use Rattle.std.specs.Prelude.{◌≡◌, Bool, true, false, not, List, [], ◌∷◌, ℕ, suc, ◌+◌, ◌*◌, ◌-◌, ◌≤◌, ◌<◌, leb}
use Rattle.std.specs.Prelude.{ℤ, pos, ◌+ℤ◌, ◌-ℤ◌, length, get_or, Some, None}
use Rattle.std.proofs.Math.Option.{Option}
use Rattle.std.specs.Int.Signed.{lt_z, le_z}
use Rattle.keys.specs.Keys.{IsKey, word_of, key_of, apart_of}
use Rattle.entries.specs.Entries.{Entry}
use Rattle.entries.specs.Build.{pick, andb}
use Rattle.entries.specs.Sets.{M, past_m, orb, lessb, xorb}
use Rattle.entries.specs.Questions.{filter, count}
use Rattle.answers.specs.Answers.{given, outcome, refuse, at, applies}
use Rattle.blocks.specs.Blocks.{set_layout, entries_of, words_of, block_of, verdict, Lent}
use Rattle.blocks.specs.Calls.{backwards}
use Rattle.searches.specs.Parts.{words_at}
use Rattle.sets.specs.Calls.{member_call, range_at_call, size_call, least_member_call, least_non_member_call, set_window_call, equal_call, within_call, disjoint_call}
use Rattle.sets.specs.Calls.{insert_call, remove_call, union_call, intersection_call, difference_call, symmetric_difference_call, complement_call}
use Rattle.fits.specs.Calls.{first_fit_call, best_fit_call, fit_call, reserve_call}
use Rattle.fits.specs.Meaning.{FreeRun}
use Rattle.demands.specs.Plain.{Iff, SoundSet, In, truth_of, answers, leaves}
use Rattle.demands.specs.Questions.{Answers}

-- [K1] THE SHIFT: each number of 0 to M is the word of exactly one key,
abbrev pub OneKey : Type 0
OneKey = (x : ℕ) → x ≤ M → IsKey (key_of x) × (word_of (key_of x) ≡ x) × ((k : ℤ) → IsKey k → word_of k ≡ x → k ≡ key_of x)

-- [K1] so any statement of all numbers of 0 to M is one of all keys,
abbrev pub AllKeys : Type 1
AllKeys = (P : ℕ → Type 0) → Iff ((x : ℕ) → x ≤ M → P x) ((k : ℤ) → IsKey k → P (word_of k))

-- [K1] the words are in the order of their keys,
abbrev pub KeyOrder : Type 0
KeyOrder = (k l : ℤ) → IsKey k → IsKey l → le_z k l ≡ leb (word_of k) (word_of l)

-- [K1] and the next key has the next word
abbrev pub NextKey : Type 0
NextKey = (k : ℤ) → IsKey k → word_of (k +ℤ pos 1) ≡ word_of k + 1

-- [K5] THE DIFFERENCE of two keys: d exactly if it is the first less the second and a key, too far exactly if that is no key
abbrev pub KeyDifference : Type 0
KeyDifference = (a b : ℤ) → ((d : ℤ) → Iff (apart_of a b ≡ Some d) ((d ≡ a -ℤ b) × IsKey d)) × Iff (apart_of a b ≡ None) (IsKey (a -ℤ b) → ⊥)

-- [K1] the plain set of keys that a block names: those whose word is a member
abbrev pub InKeys : List ℕ → ℤ → Bool
InKeys w k = In w (word_of k)

-- k is one of the keys a..b
abbrev pub between_keys : ℤ → ℤ → ℤ → Bool
between_keys a b k = andb (le_z a k) (le_z k b)

-- [K2] the key is in a range of the block: at or above the key of its low word, at or below that of its high word
pub record InKeyRange (w : List ℕ) (k : ℤ) : Type 0 where
  pub index : ℕ
  pub below : index < get_or w 0 0
  pub low : le_z (key_of (get_or w (1 + 2 * index) 0)) k ≡ true
  pub high : le_z k (key_of (get_or w (2 + 2 * index) 0)) ≡ true

-- [K2] MEMBER: yes exactly if some range holds the key (`SeatKey` of specs/Seats: with which count)
abbrev pub MemberKey : Type 0
MemberKey = (w : List ℕ) (k : ℤ) → SoundSet w → IsKey k → Answers (truth_of (member_call w (word_of k))) (InKeyRange w k)

-- [K2, K3] the least member at or above x as a key, or there is none
abbrev pub LeastKey : Type 0
LeastKey = (w : List ℕ) (x : ℤ) → SoundSet w → Lent w → IsKey x
    → ((y : ℤ) → IsKey y → least_member_call w (word_of x) ≡ answers (word_of y ∷ [])
    → (le_z x y ≡ true) × (InKeys w y ≡ true) × ((z : ℤ) → IsKey z → le_z x z ≡ true → lt_z z y ≡ true → InKeys w z ≡ false))
    × Iff (least_member_call w (word_of x) ≡ answers []) ((z : ℤ) → IsKey z → le_z x z ≡ true → InKeys w z ≡ false)

-- [K2, K3] the least non-member at or above x as a key, or there is none
abbrev pub LeastFreeKey : Type 0
LeastFreeKey = (w : List ℕ) (x : ℤ) → SoundSet w → IsKey x
    → ((y : ℤ) → IsKey y → least_non_member_call w (word_of x) ≡ answers (word_of y ∷ [])
    → (le_z x y ≡ true) × (InKeys w y ≡ false) × ((z : ℤ) → IsKey z → le_z x z ≡ true → lt_z z y ≡ true → InKeys w z ≡ true))
    × Iff (least_non_member_call w (word_of x) ≡ answers []) ((z : ℤ) → IsKey z → le_z x z ≡ true → InKeys w z ≡ true)

-- [K4] size: empty exactly if no key is a member; else n, where n + 1 of all the keys from -2^63 on, each once, are members
abbrev pub SizeKeys : Type 0
SizeKeys = (w : List ℕ) → SoundSet w → Lent w
    → Iff (size_call w ≡ answers []) ((k : ℤ) → IsKey k → InKeys w k ≡ false)
    × ((n : ℕ) → Iff (size_call w ≡ answers (n ∷ [])) (suc n ≡ count (λ x. InKeys w (key_of x)) past_m))

-- [K2, K3] a range shares a key with a..b
abbrev pub shares_key : ℤ → ℤ → Entry → Bool
shares_key a b e = andb (le_z (key_of e.low) b) (le_z a (key_of e.high))

-- [K2, K3] A WINDOW'S words: those of all ranges that share a key with a..b, in rising order
abbrev pub WindowKeys : Type 0
WindowKeys = (w : List ℕ) (a b : ℤ) → SoundSet w → IsKey a → IsKey b → le_z a b ≡ true
    → words_at w (set_window_call w (word_of a) (word_of b)) ≡ words_of (filter (shares_key a b) (entries_of set_layout.width w))

-- [K4] OF TWO SETS: equal, yes exactly if they have the same keys;
abbrev pub EqualKeys : Type 0
EqualKeys = (w v : List ℕ) → SoundSet w → SoundSet v → Lent w → Lent v → Answers (equal_call w v) ((k : ℤ) → IsKey k → InKeys w k ≡ InKeys v k)

-- [K4] the first within the second, yes exactly if every key of the first is one of the second;
abbrev pub WithinKeys : Type 0
WithinKeys = (w v : List ℕ) → SoundSet w → SoundSet v → Lent w
    → Answers (within_call w v) ((k : ℤ) → IsKey k → InKeys w k ≡ true → InKeys v k ≡ true)

-- [K4] no common key, yes exactly if none is a member of both
abbrev pub DisjointKeys : Type 0
DisjointKeys = (w v : List ℕ) → SoundSet w → SoundSet v → Lent w
    → Answers (disjoint_call w v) ((k : ℤ) → IsKey k → InKeys w k ≡ true → InKeys v k ≡ true → ⊥)

-- [K2, K4] what an accepted call leaves in a block of L words: a sound block, as long as it was, that has exactly the keys that m accepts,
-- with zeros behind its stored form
pub record KeysLeft (L : ℕ) (m : ℤ → Bool) (after : List ℕ) : Type 0 where
  pub sound : verdict set_layout after ≡ 0
  pub long : length after ≡ L
  pub members : (k : ℤ) → IsKey k → InKeys after k ≡ m k
  pub stored_form : after ≡ block_of L (entries_of set_layout.width after)

-- [K2, K3] INSERT: the keys from a to b in, every other key as it was
abbrev pub InsertKeys : Type 0
InsertKeys = (w : List ℕ) (a b : ℤ) (after : List ℕ) → IsKey a → IsKey b → insert_call w (word_of a) (word_of b) ≡ leaves after
    → KeysLeft (length w) (λ k. pick (between_keys a b k) true (InKeys w k)) after

-- [K2, K3] REMOVE: the keys from a to b out, every other key as it was
abbrev pub RemoveKeys : Type 0
RemoveKeys = (w : List ℕ) (a b : ℤ) (after : List ℕ) → IsKey a → IsKey b → remove_call w (word_of a) (word_of b) ≡ leaves after
    → KeysLeft (length w) (λ k. pick (between_keys a b k) false (InKeys w k)) after

-- [K3] 4, of every call that names a..b: low above high, as keys
abbrev pub BackwardsKeys : Type 0
BackwardsKeys = (a b : ℤ) → IsKey a → IsKey b → backwards (word_of a) (word_of b) ≡ at 0 (applies (lt_z b a) 4)

-- [K4] UNION: the keys of either set
abbrev pub UnionKeys : Type 0
UnionKeys = (w v o after : List ℕ) → union_call w v o ≡ leaves after → KeysLeft (length o) (λ k. orb (InKeys w k) (InKeys v k)) after

-- [K4] intersection: the keys of both
abbrev pub IntersectionKeys : Type 0
IntersectionKeys = (w v o after : List ℕ) → intersection_call w v o ≡ leaves after → KeysLeft (length o) (λ k. andb (InKeys w k) (InKeys v k)) after

-- [K4] difference: the keys of the first alone
abbrev pub DifferenceKeys : Type 0
DifferenceKeys = (w v o after : List ℕ) → difference_call w v o ≡ leaves after → KeysLeft (length o) (λ k. lessb (InKeys w k) (InKeys v k)) after

-- [K4] symmetric difference: the keys of just one
abbrev pub SymmetricDifferenceKeys : Type 0
SymmetricDifferenceKeys = (w v o after : List ℕ) → symmetric_difference_call w v o ≡ leaves after
    → KeysLeft (length o) (λ k. xorb (InKeys w k) (InKeys v k)) after

-- [K4] complement: the keys from -2^63 to 2^63 - 1 that are not in the set
abbrev pub ComplementKeys : Type 0
ComplementKeys = (w o after : List ℕ) → complement_call w o ≡ leaves after → KeysLeft (length o) (λ k. not (InKeys w k)) after

-- [K2] a run of non-members in the window a..b: the keys l to h
pub record FreeKeys (a b : ℤ) (w : List ℕ) (l h : ℤ) : Type 0 where
  pub some : le_z l h ≡ true
  pub from : le_z a l ≡ true
  pub upto : le_z h b ≡ true
  pub free : (k : ℤ) → IsKey k → le_z l k ≡ true → le_z k h ≡ true → InKeys w k ≡ false

-- [K2] FITS: a run of free keys is the run of their words, so gaps, their lengths and their order are those of the words;
abbrev pub FreeRuns : Type 0
FreeRuns = (a b : ℤ) (w : List ℕ) (l h : ℤ) → IsKey a → IsKey b → IsKey l → IsKey h
    → Iff (FreeRun (word_of a) (word_of b) (entries_of set_layout.width w) (word_of l) (word_of h)) (FreeKeys a b w l h)

-- [K2, K3] first fit: s is the least key such that the n keys from s on lie in the window and are non-members
abbrev pub FirstFitKeys : Type 0
FirstFitKeys = (w : List ℕ) (a b s : ℤ) (n : ℕ) → IsKey a → IsKey b → IsKey s → first_fit_call w (word_of a) (word_of b) n ≡ answers (word_of s ∷ [])
    → FreeKeys a b w s (s +ℤ pos (n - 1)) × ((t : ℤ) → IsKey t → FreeKeys a b w t (t +ℤ pos (n - 1)) → le_z s t ≡ true)

-- [K2] a gap of keys: a run of free keys that cannot be made longer in the window
pub record KeyGap (a b : ℤ) (w : List ℕ) (l h : ℤ) : Type 0 where
  pub run : FreeKeys a b w l h
  pub longest : (i j : ℤ) → IsKey i → IsKey j → FreeKeys a b w i j → le_z i l ≡ true → le_z h j ≡ true → (i ≡ l) × (j ≡ h)

-- [K2] how many keys there are from l to h
abbrev pub keys_in : ℤ → ℤ → ℕ
keys_in l h = suc (word_of h) - word_of l

-- [K2] s is the low end of the shortest gap of at least n keys, the lowest such gap on a tie
pub record BestKey (a b : ℤ) (w : List ℕ) (n : ℕ) (s : ℤ) : Type 0 where
  pub high : ℤ
  pub is_key : IsKey high
  pub gap : KeyGap a b w s high
  pub enough : n ≤ keys_in s high
  pub shortest : (l h : ℤ) → IsKey l → IsKey h → KeyGap a b w l h → n ≤ keys_in l h → keys_in s high ≤ keys_in l h
  pub lowest : (l h : ℤ) → IsKey l → IsKey h → KeyGap a b w l h → n ≤ keys_in l h → keys_in l h ≡ keys_in s high → le_z s l ≡ true

-- [K2, K3] best fit: s is the low end of the shortest gap of at least n keys in the window, the lowest such gap on a tie
abbrev pub BestFitKeys : Type 0
BestFitKeys = (w : List ℕ) (a b s : ℤ) (n : ℕ) → IsKey a → IsKey b → IsKey s → best_fit_call w (word_of a) (word_of b) n ≡ answers (word_of s ∷ [])
    → BestKey a b w n s

-- [K2] no n free keys in a row lie in the window
abbrev pub NoFreeKeys : ℤ → ℤ → List ℕ → ℕ → Type 0
NoFreeKeys a b w n = (t : ℤ) → IsKey t → FreeKeys a b w t (t +ℤ pos (n - 1)) → ⊥

-- [K2, K3] 7, of both fits: asked of a sound block for one key or more in a window in order, exactly if no n free keys in a row lie in the window
abbrev pub NoFitKeys : Type 0
NoFitKeys = (w : List ℕ) (a b : ℤ) (n : ℕ) → SoundSet w → IsKey a → IsKey b → le_z a b ≡ true → 0 < n
    → Iff (first_fit_call w (word_of a) (word_of b) n ≡ refuse 7 0 []) (NoFreeKeys a b w n)
    × Iff (best_fit_call w (word_of a) (word_of b) n ≡ refuse 7 0 []) (NoFreeKeys a b w n)

-- [K2, K3] a reservation, whatever the fit: accepted, it answers the key that the question answers, and inserts exactly the n keys from it on
abbrev pub ReserveKeys : Type 0
ReserveKeys = (fit : ℕ → ℕ → ℕ → List Entry → Option ℕ) (w : List ℕ) (a b s : ℤ) (n : ℕ) (after : List ℕ) → IsKey a → IsKey b → IsKey s
    → reserve_call fit w (word_of a) (word_of b) n ≡ outcome (given (word_of s ∷ [])) (after ∷ [])
    → (fit_call fit w (word_of a) (word_of b) n ≡ answers (word_of s ∷ []))
    × KeysLeft (length w) (λ k. pick (between_keys s (s +ℤ pos (n - 1)) k) true (InKeys w k)) after

-- [K2, K3] RANGE AT INDEX: the words of the keys of the range's two ends; none if the index is at least the number of ranges
abbrev pub RangeAtKeys : Type 0
RangeAtKeys = (w : List ℕ) (i : ℕ) → SoundSet w
    → (i < get_or w 0 0 → range_at_call w i ≡ answers (word_of (key_of (get_or w (1 + 2 * i) 0)) ∷ word_of (key_of (get_or w (2 + 2 * i) 0)) ∷ []))
    × (get_or w 0 0 ≤ i → range_at_call w i ≡ answers [])
