-- WHAT IS ASKED OF A LIST, by its meaning. Each call is said to answer, of a sound block; on any other block it is refused by R1, R2, R3.
use Rattle.std.specs.Prelude.{◌≡◌, true, false, List, [], ◌∷◌, ℕ, suc, ◌+◌, ◌*◌, ◌≤◌, ◌<◌, get_or}
use Rattle.std.proofs.Math.Option.{none, some}
use Rattle.entries.specs.Entries.{or_else}
use Rattle.entries.specs.Sets.{M, past_m}
use Rattle.entries.specs.Questions.{meeting, count}
use Rattle.blocks.specs.Blocks.{set_layout, map_layout, entries_of, words_of, Lent}
use Rattle.answers.specs.Answers.{Outcome}
use Rattle.entries.specs.Build.{pick}
use Rattle.entries.specs.Sets.{has}
use Rattle.maps.specs.Calls.{look_up_call, map_window_call, site_over_factory_call, words_of_two}
use Rattle.sets.specs.Calls.{member_call, range_at_call, size_call, least_member_call, least_non_member_call, set_window_call, equal_call, within_call, disjoint_call}
use Rattle.searches.specs.Parts.{words_at}
use Rattle.demands.specs.Plain.{Iff, SoundSet, SoundMap, InRange, InEntry, In, ValueOf, answers, yes, no, truth_of}

-- [B1, B2] the plain set is exactly what the words say
abbrev pub InSet : Type 0
InSet = (w : List ℕ) (x : ℕ) → SoundSet w → Iff (In w x ≡ true) (InRange w x)

-- [B1, B2, B6] and the plain assignment
abbrev pub InMap : Type 0
InMap = (w : List ℕ) (x v : ℕ) → SoundMap w → Iff (ValueOf w x ≡ some (v ∷ [])) (InEntry w x v)

-- yes exactly if P holds, and no exactly if it does not
abbrev pub Answers : Outcome → Type 0 → Type 0
Answers call P = Iff (call ≡ yes) P × Iff (call ≡ no) (P → ⊥)

-- [S1, D2] member: yes exactly if some range holds x (`MemberIs`, `HeldAt`, `NextTo` of specs/Seats: with which count)
abbrev pub Member : Type 0
Member = (w : List ℕ) (x : ℕ) → SoundSet w → Answers (truth_of (member_call w x)) (InRange w x)

-- [S2] the range at index i, or none if i is at least n
abbrev pub RangeAt : Type 0
RangeAt = (w : List ℕ) (i : ℕ) → SoundSet w
    → (i < get_or w 0 0 → range_at_call w i ≡ answers (get_or w (1 + 2 * i) 0 ∷ get_or w (2 + 2 * i) 0 ∷ [])) × (get_or w 0 0 ≤ i → range_at_call w i ≡ answers [])

-- [S3] size: empty exactly if nothing is a member; else k, where k + 1 numbers are members
abbrev pub Size : Type 0
Size = (w : List ℕ) → SoundSet w → Lent w
    → Iff (size_call w ≡ answers []) ((x : ℕ) → In w x ≡ false) × ((k : ℕ) → Iff (size_call w ≡ answers (k ∷ [])) (suc k ≡ count (In w) past_m))

-- [S4] y is the least member at or above x; or there is none
abbrev pub LeastMember : Type 0
LeastMember = (w : List ℕ) (x : ℕ) → SoundSet w
    → ((y : ℕ) → least_member_call w x ≡ answers (y ∷ []) → (x ≤ y) × (In w y ≡ true) × ((z : ℕ) → x ≤ z → z < y → In w z ≡ false))
    × Iff (least_member_call w x ≡ answers []) ((z : ℕ) → x ≤ z → In w z ≡ false)

-- [S5] y is the least non-member at or above x; none exactly if every number from x to M is a member
abbrev pub LeastNonMember : Type 0
LeastNonMember = (w : List ℕ) (x : ℕ) → SoundSet w
    → ((y : ℕ) → least_non_member_call w x ≡ answers (y ∷ []) → (x ≤ y) × (y ≤ M) × (In w y ≡ false) × ((z : ℕ) → x ≤ z → z < y → In w z ≡ true))
    × Iff (least_non_member_call w x ≡ answers []) ((z : ℕ) → x ≤ z → z ≤ M → In w z ≡ true)

-- [S7, D2] of two sets, looked at in 0 to M alone: equal, yes exactly if they have the same members;
abbrev pub Equal : Type 0
Equal = (w v : List ℕ) → SoundSet w → SoundSet v → Lent w → Lent v → Answers (equal_call w v) ((x : ℕ) → x ≤ M → In w x ≡ In v x)

-- [S7, D2] the first within the second, yes exactly if every member of the first is one of the second;
abbrev pub Within : Type 0
Within = (w v : List ℕ) → SoundSet w → SoundSet v → Lent w → Answers (within_call w v) ((x : ℕ) → x ≤ M → In w x ≡ true → In v x ≡ true)

-- [S7, D2] no common number, yes exactly if nothing is a member of both
abbrev pub Disjoint : Type 0
Disjoint = (w v : List ℕ) → SoundSet w → SoundSet v → Lent w → Answers (disjoint_call w v) ((x : ℕ) → x ≤ M → In w x ≡ true → In v x ≡ true → ⊥)

-- [M1, D2] look up: v exactly if x stands in an entry with the value v; no value exactly if it stands in none
abbrev pub LookUp : Type 0
LookUp = (w : List ℕ) (x : ℕ) → SoundMap w
    → ((v : ℕ) → Iff (look_up_call w x ≡ answers (v ∷ [])) (InEntry w x v)) × Iff (look_up_call w x ≡ answers []) ((v : ℕ) → InEntry w x v → ⊥)

-- [S6, G2] a window's words: those of all ranges that share a number with a..b, in order
abbrev pub SetWindow : Type 0
SetWindow = (w : List ℕ) (a b : ℕ) → SoundSet w → a ≤ b → words_at w (set_window_call w a b) ≡ words_of (meeting a b (entries_of set_layout.width w))

-- [M7] and of a map: those of all entries that share a number with a..b, in order
abbrev pub MapWindow : Type 0
MapWindow = (w : List ℕ) (a b : ℕ) → SoundMap w → a ≤ b → words_at w (map_window_call w a b) ≡ words_of (meeting a b (entries_of map_layout.width w))

-- [M8, G1] site over factory: the words of the window x..x of the site map if x has a value there, else of that of the factory map
abbrev pub SiteOverFactory : Type 0
SiteOverFactory = (site factory : List ℕ) (x : ℕ) → SoundMap site → SoundMap factory
    → words_of_two site factory (site_over_factory_call site factory x)
    ≡ pick (has (ValueOf site x)) (words_at site (map_window_call site x x)) (words_at factory (map_window_call factory x x))

-- [M8, D2] the words of the deciding entry: an entry's low, high and value, x among its numbers
pub record EntryWords (x v : ℕ) (words : List ℕ) : Type 0 where
  pub low : ℕ
  pub high : ℕ
  pub three : words ≡ low ∷ high ∷ v ∷ []
  pub from : low ≤ x
  pub upto : x ≤ high

-- [M8, D2] where the site map gives x the value v, or gives it none and the factory map gives it v, they are those of an entry with that
-- value; where neither gives it one, there are none
abbrev pub DecidingEntry : Type 0
DecidingEntry = (site factory : List ℕ) (x : ℕ) → SoundMap site → SoundMap factory
    → ((v : ℕ) → or_else (ValueOf site x) (ValueOf factory x) ≡ some (v ∷ []) → EntryWords x v (words_of_two site factory (site_over_factory_call site factory x)))
    × (or_else (ValueOf site x) (ValueOf factory x) ≡ none → words_of_two site factory (site_over_factory_call site factory x) ≡ [])

-- [M8] these words lie in the site map exactly if x has a value there, and there are none exactly if x stands in no entry of either map
abbrev pub WhichMap : Type 0
WhichMap = (site factory : List ℕ) (x : ℕ) → SoundMap site → SoundMap factory
    → ((site_over_factory_call site factory x).position ≡ pick (has (ValueOf site x)) 0 1)
    × Iff ((site_over_factory_call site factory x).length ≡ 0) ((v : ℕ) → (InEntry site x v → ⊥) × (InEntry factory x v → ⊥))
