-- The table's number, and the values, of each kind of answer.
use Rattle.std.specs.Prelude.{◌≡◌, List, [], ◌∷◌, ℕ, zero, suc, eqb, Bool, true, false, ℤ, Option, Some, None, Result, Ok, Err, MatchResult}
use Rattle.keys.specs.Keys.{IsKey, word_of}
use Rattle.entries.specs.Build.{pick}
use Rattle.answers.specs.declared.Reason.{Reason}
use Rattle.answers.specs.declared.Reason.TheVariants.{NoBlock, Count, Order, Backwards, Room, ZeroRun, NoGap, Short, Mark, Kind, Check}
use Rattle.answers.specs.declared.Reason.TheVariants.{Content, Trailing, Overlap, NoSpace, Align}
use Rattle.answers.specs.declared.Refusal.{Refusal}
use Rattle.answers.specs.declared.UnknownNumber.{UnknownNumber}
use Rattle.answers.specs.declared.Seated.{Seated}
use Rattle.answers.specs.declared.Seated.TheVariants.{Yes, No}
use Rattle.answers.specs.declared.Part.{Part}
use Rattle.answers.specs.declared.Deciding.{Deciding}
use Rattle.answers.specs.Answers.{Answer, given, refused}

-- [G7] the table's number of each reason
abbrev pub number_of : Reason → ℕ
number_of NoBlock = 1
number_of Count = 2
number_of Order = 3
number_of Backwards = 4
number_of Room = 5
number_of ZeroRun = 6
number_of NoGap = 7
number_of Short = 8
number_of Mark = 9
number_of Kind = 10
number_of Check = 11
number_of Content = 12
number_of Trailing = 13
number_of Overlap = 14
number_of NoSpace = 15
number_of Align = 16

-- the refusal with a reason, at a place
abbrev pub at_place : Reason → ℕ → Refusal
at_place reason place = record { reason = reason; place = place }

-- [R0, G7] a refusal: its number and its place
abbrev pub refusal_says : Refusal → Answer
refusal_says f = refused (number_of f.reason) f.place

-- [R0, G7] what a call says: the values of what it gives, or its refusal
abbrev pub says : {A : Type 0} → (A → List ℕ) → Result A Refusal → Answer
says values (Ok a) = given (values a)
says values (Err f) = refusal_says f

-- the values of what was found, or none
abbrev pub if_any : {A : Type 0} → (A → List ℕ) → Option A → List ℕ
if_any values (Some a) = values a
if_any values None = []

-- accepted, and nothing more
abbrev pub no_values : Unit {0} → List ℕ
no_values u = []

-- yes is 1, no is 0
abbrev pub truth_value : Bool → List ℕ
truth_value true = 1 ∷ []
truth_value false = 0 ∷ []

-- [W1] yes is 1, no is 0; then how many ranges lie wholly below
abbrev pub seat_values : Seated → List ℕ
seat_values (Yes below) = 1 ∷ below ∷ []
seat_values (No below) = 0 ∷ below ∷ []

-- a number
abbrev pub one_value : ℕ → List ℕ
one_value n = n ∷ []

-- two numbers, as a low and a high, or a value and its expiry
abbrev pub two_values : ℕ × ℕ → List ℕ
two_values p = p.0 ∷ p.1 ∷ []

-- a part of a block: its place and its length
abbrev pub part_values : Part → List ℕ
part_values p = p.place ∷ p.length ∷ []

-- the deciding entry: its place and its length, and the position of its block
abbrev pub deciding_values : Deciding → List ℕ
deciding_values d = d.place ∷ d.length ∷ d.position ∷ []

-- Keys say their words, so that a call on keys and the call on their words have one outcome.
-- [K3] a key
abbrev pub key_value : ℤ → List ℕ
key_value k = word_of k ∷ []

-- [K3] two keys
abbrev pub key_values : ℤ × ℤ → List ℕ
key_values p = word_of p.0 ∷ word_of p.1 ∷ []

-- [G7] accepted, with no value; or refused
abbrev pub judged_says : Result (Unit {0}) Refusal → Answer
judged_says = says no_values

-- [G7] yes is 1, no is 0
abbrev pub truth_says : Result Bool Refusal → Answer
truth_says = says truth_value

-- [W1, G7] yes is 1, no is 0; then how many ranges lie wholly below
abbrev pub seated_says : Result Seated Refusal → Answer
seated_says = says seat_values

-- [G7] the number, or no value
abbrev pub found_says : Result (Option ℕ) Refusal → Answer
found_says = says (if_any one_value)

-- [G7] low and high, or no value
abbrev pub ranged_says : Result (Option (ℕ × ℕ)) Refusal → Answer
ranged_says = says (if_any two_values)

-- [G7] value and expiry, or no value
abbrev pub valued_says : Result (Option (ℕ × ℕ)) Refusal → Answer
valued_says = says (if_any two_values)

-- [S3, G7] no value of the empty set, else the size less one
abbrev pub sized_says : Result (Option ℕ) Refusal → Answer
sized_says = says (if_any one_value)

-- [G7] a part of a block: its place and its length; no value where there is none
abbrev pub parted_says : Result (Option Part) Refusal → Answer
parted_says = says (if_any part_values)

-- [G7] the deciding entry: its place and its length, and the position of its block; no value where there is none
abbrev pub decided_says : Result (Option Deciding) Refusal → Answer
decided_says = says (if_any deciding_values)

-- [F4, G7] the place of a fit, which a reservation returns too
abbrev pub placed_says : Result ℕ Refusal → Answer
placed_says = says one_value

-- [G7] the length of the form that was written
abbrev pub written_says : Result ℕ Refusal → Answer
written_says = says one_value

-- [K3, G7] the word of the key, or no value
abbrev pub found_key_says : Result (Option ℤ) Refusal → Answer
found_key_says = says (if_any key_value)

-- [K3, G7] the words of the low and the high key, or no value
abbrev pub ranged_keys_says : Result (Option (ℤ × ℤ)) Refusal → Answer
ranged_keys_says = says (if_any key_values)

-- [K3, G7] the word of the key that a fit chose
abbrev pub placed_key_says : Result ℤ Refusal → Answer
placed_key_says = says key_value

-- [K5, G7] the word of the difference of two keys; no value where they are too far apart
abbrev pub apart_says : Option ℤ → Answer
apart_says d = given (if_any key_value d)

-- What an answer holds are keys, as they are wherever code made it, since an i64 is a key: then no second answer says the same
-- (proofs/UniqueKeys).
-- what is said of a value where a call gives one
abbrev pub Holds : {A : Type 0} → (A → Type 0) → Result A Refusal → Type 0
Holds P (Ok a) = P a
Holds P (Err f) = Unit {0}

-- what is said of a value where one was found
abbrev pub HoldsIfAny : {A : Type 0} → (A → Type 0) → Option A → Type 0
HoldsIfAny P (Some a) = P a
HoldsIfAny P None = Unit {0}

-- [K1] the key that was found
abbrev pub FoundKeyHolds : Result (Option ℤ) Refusal → Type 0
FoundKeyHolds = Holds (HoldsIfAny IsKey)

-- [K1] the two ends of the range that was found
abbrev pub RangedKeysHold : Result (Option (ℤ × ℤ)) Refusal → Type 0
RangedKeysHold = Holds (HoldsIfAny (λ p. IsKey p.0 × IsKey p.1))

-- [K1] the key that a fit chose
abbrev pub PlacedKeyHolds : Result ℤ Refusal → Type 0
PlacedKeyHolds = Holds IsKey

-- The other way, for code that has a number: the reason of a number of the table; of any other number, the table's last.
abbrev pub reason_of : ℕ → Reason
reason_of number =
    pick (eqb number 1) NoBlock
    (pick (eqb number 2) Count
    (pick (eqb number 3) Order
    (pick (eqb number 4) Backwards
    (pick (eqb number 5) Room
    (pick (eqb number 6) ZeroRun
    (pick (eqb number 7) NoGap
    (pick (eqb number 8) Short
    (pick (eqb number 9) Mark
    (pick (eqb number 10) Kind
    (pick (eqb number 11) Check
    (pick (eqb number 12) Content
    (pick (eqb number 13) Trailing
    (pick (eqb number 14) Overlap
    (pick (eqb number 15) NoSpace
    Align))))))))))))))

-- a number read as a reason: the one that has it, or none has
abbrev pub Decodes : ℕ → Result Reason UnknownNumber → Type 0
Decodes number r = MatchResult r (λ reason. number_of reason ≡ number) (λ e. (e.0 ≡ number) × ((reason : Reason) → number_of reason ≡ number → ⊥))

-- the refusal of a number at a place
abbrev pub refusal_of : ℕ → ℕ → Refusal
refusal_of number place = at_place (reason_of number) place

-- accepted for 0, else the refusal of that number
abbrev pub judged_of : ℕ → ℕ → Result (Unit {0}) Refusal
judged_of zero place = Ok tt
judged_of (suc v) place = Err (refusal_of (suc v) place)
