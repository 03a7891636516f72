-- WHAT A CHANGE LEAVES, by its meaning, and how many items at most; when there is no room; that later words are not read.
use Rattle.std.specs.Prelude.{◌≡◌, true, false, List, [], ◌∷◌, ℕ, ◌+◌, ◌*◌, ◌-◌, ◌≤◌, ◌<◌, leb, length, get_or}
use Rattle.std.proofs.Math.Option.{Option, none, some}
use Rattle.entries.specs.Entries.{Value, Entry, or_else}
use Rattle.entries.specs.Build.{pick, andb}
use Rattle.entries.specs.Sets.{M, has, orb, lessb, xorb}
use Rattle.answers.specs.Answers.{refuse, Keeps}
use Rattle.blocks.specs.declared.Layout.{Layout}
use Rattle.blocks.specs.Blocks.{map_layout, capacity, entries_of, verdict}
use Rattle.edits.specs.Calls.{edited, edit_call}
use Rattle.operations.specs.Calls.{from_two, from_one}
use Rattle.sets.specs.Calls.{make_empty_call, insert_call, remove_call, union_call, intersection_call, difference_call, symmetric_difference_call, complement_call}
use Rattle.sets.specs.Calls.{member_call}
use Rattle.maps.specs.Calls.{look_up_call, assign_call, erase_call, overlay_call, restriction_call, domain_call}
use Rattle.demands.specs.Plain.{Iff, In, ValueOf, yes, no, truth_of, answers, leaves, Left, SetLeft, between}

-- [S8] make empty: no number is a member
abbrev pub MakeEmpty : Type 0
MakeEmpty = (w after : List ℕ) → make_empty_call w ≡ leaves after → SetLeft (length w) (λ x. false) after

-- [S9, S14, D2] insert: a..b in, every other number as it was; at most n+1 ranges
abbrev pub Insert : Type 0
Insert = (w : List ℕ) (a b : ℕ) (after : List ℕ) → insert_call w a b ≡ leaves after
    → SetLeft (length w) (λ x. pick (between a b x) true (In w x)) after × (get_or after 0 0 ≤ get_or w 0 0 + 1)

-- [S10, S14, D2] remove: a..b out, every other number as it was; at most n+1 ranges
abbrev pub Remove : Type 0
Remove = (w : List ℕ) (a b : ℕ) (after : List ℕ) → remove_call w a b ≡ leaves after
    → SetLeft (length w) (λ x. pick (between a b x) false (In w x)) after × (get_or after 0 0 ≤ get_or w 0 0 + 1)

-- [S11, S13, S14, D2] union: the numbers of either set; at most n+m ranges
abbrev pub Union : Type 0
Union = (w v o after : List ℕ) → union_call w v o ≡ leaves after
    → SetLeft (length o) (λ x. orb (In w x) (In v x)) after × (get_or after 0 0 ≤ get_or w 0 0 + get_or v 0 0)

-- [S11, S13, S14, D2] intersection: the numbers of both; at most n+m-1 ranges, and none if n or m is 0
abbrev pub Intersection : Type 0
Intersection = (w v o after : List ℕ) → intersection_call w v o ≡ leaves after
    → SetLeft (length o) (λ x. andb (In w x) (In v x)) after × (get_or after 0 0 ≤ get_or w 0 0 + get_or v 0 0 - 1)
    × (get_or w 0 0 ≡ 0 → get_or after 0 0 ≡ 0) × (get_or v 0 0 ≡ 0 → get_or after 0 0 ≡ 0)

-- [S11, S13, S14, D2] difference: the numbers of the first alone; at most n+m ranges
abbrev pub Difference : Type 0
Difference = (w v o after : List ℕ) → difference_call w v o ≡ leaves after
    → SetLeft (length o) (λ x. lessb (In w x) (In v x)) after × (get_or after 0 0 ≤ get_or w 0 0 + get_or v 0 0)

-- [S11, S13, S14, D2] symmetric difference: the numbers of just one; at most n+m ranges
abbrev pub SymmetricDifference : Type 0
SymmetricDifference = (w v o after : List ℕ) → symmetric_difference_call w v o ≡ leaves after
    → SetLeft (length o) (λ x. xorb (In w x) (In v x)) after × (get_or after 0 0 ≤ get_or w 0 0 + get_or v 0 0)

-- [S12, S13, S14, D2] the numbers of 0..M that are not in the set; at most n+1 ranges
abbrev pub Complement : Type 0
Complement = (w o after : List ℕ) → complement_call w o ≡ leaves after
    → SetLeft (length o) (λ x. lessb (leb x M) (In w x)) after × (get_or after 0 0 ≤ get_or w 0 0 + 1)

-- [M2, D2] assign: v on a..b, every other number as it was; at most n+2 entries
abbrev pub Assign : Type 0
Assign = (w : List ℕ) (a b v : ℕ) (after : List ℕ) → assign_call w a b v ≡ leaves after
    → Left map_layout (length w) (λ x. pick (between a b x) (some (v ∷ [])) (ValueOf w x)) after × (get_or after 0 0 ≤ get_or w 0 0 + 2)

-- [M3, D2] erase: no value on a..b, every other number as it was; at most n+1 entries
abbrev pub Erase : Type 0
Erase = (w : List ℕ) (a b : ℕ) (after : List ℕ) → erase_call w a b ≡ leaves after
    → Left map_layout (length w) (λ x. pick (between a b x) none (ValueOf w x)) after × (get_or after 0 0 ≤ get_or w 0 0 + 1)

-- [M4, D2] overlay: the upper's value where it has one, else the lower's; at most twice the upper's count plus the lower's
abbrev pub Overlay : Type 0
Overlay = (upper lower o after : List ℕ) → overlay_call upper lower o ≡ leaves after
    → Left map_layout (length o) (λ x. or_else (ValueOf upper x) (ValueOf lower x)) after × (get_or after 0 0 ≤ 2 * get_or upper 0 0 + get_or lower 0 0)

-- [M5, D2] restriction: the map's value where the set has the number
abbrev pub Restriction : Type 0
Restriction = (map set o after : List ℕ) → restriction_call map set o ≡ leaves after
    → Left map_layout (length o) (λ x. pick (In set x) (ValueOf map x) none) after

-- [M6, D2] domain: a number is a member exactly where it has a value
abbrev pub Domain : Type 0
Domain = (map o after : List ℕ) → domain_call map o ≡ leaves after → SetLeft (length o) (λ x. has (ValueOf map x)) after

-- [R5, R17, R19] ROOM exactly: nothing earlier applies, and the result has more items than the capacity of the block to be written.
-- Of a change in place,
abbrev pub EditRoom : Type 0
EditRoom = (l : Layout) (w : List ℕ) (a b : ℕ) (o : Option Value)
    → Iff (edit_call l w a b o ≡ refuse 5 0 (w ∷ [])) ((verdict l w ≡ 0) × (a ≤ b) × (capacity l (length w) < length (edited l w a b o)))

-- [R5, R17] of a result from two blocks,
abbrev pub TwoRoom : Type 0
TwoRoom = (first second out : Layout) (make : List Entry → List Entry → List Entry) (w v o : List ℕ)
    → Iff (from_two first second out make w v o ≡ refuse 5 2 (o ∷ []))
    ((verdict first w ≡ 0) × (verdict second v ≡ 0) × (0 < length o)
    × (capacity out (length o) < length (make (entries_of first.width w) (entries_of second.width v))))

-- [R5, R17] and of a result from one
abbrev pub OneRoom : Type 0
OneRoom = (first out : Layout) (make : List Entry → List Entry) (w o : List ℕ)
    → Iff (from_one first out make w o ≡ refuse 5 1 (o ∷ []))
    ((verdict first w ≡ 0) × (0 < length o) × (capacity out (length o) < length (make (entries_of first.width w))))

-- [R0] REFUSED, nothing lent is changed
abbrev pub ChangesKeep : Type 0
ChangesKeep = ((l : Layout) (w : List ℕ) (a b : ℕ) (o : Option Value) → Keeps (w ∷ []) (edit_call l w a b o))
    × ((first second out : Layout) (make : List Entry → List Entry → List Entry) (w v o : List ℕ) → Keeps (o ∷ []) (from_two first second out make w v o))
    × ((first out : Layout) (make : List Entry → List Entry) (w o : List ℕ) → Keeps (o ∷ []) (from_one first out make w o))
    × ((w : List ℕ) → Keeps (w ∷ []) (make_empty_call w))

-- [S9, S1, D2] FROM A CHANGE TO THE NEXT QUESTION, as a user's proof cites it: a number that was inserted is a member,
abbrev pub InsertedMember : Type 0
InsertedMember = (w : List ℕ) (a b : ℕ) (after : List ℕ) → insert_call w a b ≡ leaves after → (x : ℕ) → a ≤ x → x ≤ b → truth_of (member_call after x) ≡ yes

-- [S10, S1, D2] one that was removed is not,
abbrev pub RemovedMember : Type 0
RemovedMember = (w : List ℕ) (a b : ℕ) (after : List ℕ) → remove_call w a b ≡ leaves after → (x : ℕ) → a ≤ x → x ≤ b → truth_of (member_call after x) ≡ no

-- [S9, S10, S1, D2] and of every other number the answer is what it was: yes or no, since more or fewer ranges may now lie below it.
abbrev pub OtherMember : Type 0
OtherMember = (w : List ℕ) (a b : ℕ) (after : List ℕ) → (x : ℕ) → between a b x ≡ false
    → (insert_call w a b ≡ leaves after → truth_of (member_call after x) ≡ truth_of (member_call w x))
    × (remove_call w a b ≡ leaves after → truth_of (member_call after x) ≡ truth_of (member_call w x))

-- [M2, M1, D2] A number that was assigned v has the value v,
abbrev pub AssignedValue : Type 0
AssignedValue = (w : List ℕ) (a b v : ℕ) (after : List ℕ) → assign_call w a b v ≡ leaves after → (x : ℕ) → a ≤ x → x ≤ b → look_up_call after x ≡ answers (v ∷ [])

-- [M3, M1, D2] one that was erased has none,
abbrev pub ErasedValue : Type 0
ErasedValue = (w : List ℕ) (a b : ℕ) (after : List ℕ) → erase_call w a b ≡ leaves after → (x : ℕ) → a ≤ x → x ≤ b → look_up_call after x ≡ answers []

-- [M2, M3, M1, D2] and of every other number the answer is what it was
abbrev pub OtherValue : Type 0
OtherValue = (w : List ℕ) (a b : ℕ) (after : List ℕ) → (x : ℕ) → between a b x ≡ false
    → ((v : ℕ) → assign_call w a b v ≡ leaves after → look_up_call after x ≡ look_up_call w x)
    × (erase_call w a b ≡ leaves after → look_up_call after x ≡ look_up_call w x)
