-- No second outcome: an outcome has one answer of each kind that says it, and one content of everything lent.
-- Every contract has the form `outcome (says r) lent ≡ due`, where `due` is made from the inputs alone; so this is one law.
use mathlib.Core.Path.{◌≡◌, refl, sym, ◌∙◌, ap}
use mathlib.Core.Bool.{Bool, true, false}
use mathlib.Core.List.{List, [], ◌∷◌}
use Prim.Native.Nat.{ℕ, zero, suc}
use Rattle.std.specs.Prelude.{Option, Some, None, Result, Ok, Err}
use Rattle.answers.specs.declared.Reason.{Reason}
use Rattle.answers.specs.declared.Refusal.{Refusal}
use Rattle.answers.specs.declared.Seated.{Seated}
use Rattle.answers.specs.declared.Seated.TheVariants.{Yes, No}
use Rattle.answers.specs.declared.Part.{Part}
use Rattle.answers.specs.declared.Deciding.{Deciding}
use Rattle.answers.specs.Answers.{Answer, given, refused, Outcome, outcome}
use Rattle.answers.specs.Says.{number_of, refusal_of, says, if_any, no_values, truth_value, seat_values, one_value, two_values, part_values, deciding_values}
use Rattle.answers.specs.Says.{judged_says, truth_says, seated_says, found_says, ranged_says, valued_says, sized_says, parted_says, decided_says}
use Rattle.answers.specs.Says.{placed_says, written_says}
use Rattle.answers.proofs.Numbers.{number_reason}

abbrev answer_of : Outcome → Answer
answer_of (outcome a lent) = a

abbrev lent_of : Outcome → List (List ℕ)
lent_of (outcome a lent) = lent

-- [D8] two answers that can each be told back from what they say, and
pub only_two : {A : Type 0} (says : A → Answer) (back : Answer → A) (due : Outcome) (r s : A) (k l : List (List ℕ)) → back (says r) ≡ r → back (says s) ≡ s
    → outcome (says r) k ≡ due → outcome (says s) l ≡ due → (r ≡ s) × (k ≡ l)
only_two says back due r s k l undo undo' p q =
    (sym undo ∙ ap (λ (o : Outcome). back (answer_of o)) (p ∙ sym q) ∙ undo', ap lent_of (p ∙ sym q))

-- [D8] any kind of answer whose cases can be told apart by what they say
pub only : {A : Type 0} (says : A → Answer) (back : Answer → A) → ((r : A) → back (says r) ≡ r) → (due : Outcome) (r s : A) (k l : List (List ℕ))
    → outcome (says r) k ≡ due → outcome (says s) l ≡ due → (r ≡ s) × (k ≡ l)
only says back undo due r s k l p q = only_two says back due r s k l (undo r) (undo s) p q

-- a refusal is told by its number and its place
pub refusal_back : (f : Refusal) → refusal_of (number_of f.reason) f.place ≡ f
refusal_back f = ap (λ (x : Reason). record { reason = x; place = f.place }) (number_reason f.reason)

-- an answer is told back from what it says where what it gives is
abbrev pub says_back : {A : Type 0} → (List ℕ → A) → Answer → Result A Refusal
says_back back (given xs) = Ok (back xs)
says_back back (refused n p) = Err (refusal_of n p)

pub says_undo : {A : Type 0} (values : A → List ℕ) (back : List ℕ → A) → (r : Result A Refusal) → ((a : A) → r ≡ Ok a → back (values a) ≡ a)
    → says_back back (says values r) ≡ r
says_undo values back (Ok a) undo = ap Ok (undo a refl)
says_undo values back (Err f) undo = ap Err (refusal_back f)

-- [D8] one law of all kinds: two answers with the same outcome are the same, and leave the same
pub says_only : {A : Type 0} (values : A → List ℕ) (back : List ℕ → A) → ((a : A) → back (values a) ≡ a)
    → (due : Outcome) (r s : Result A Refusal) (k l : List (List ℕ))
    → outcome (says values r) k ≡ due → outcome (says values s) l ≡ due → (r ≡ s) × (k ≡ l)
says_only values back undo = only (says values) (says_back back) (λ r. says_undo values back r (λ a e. undo a))

-- the number at the front; 0 where there is none
abbrev pub front : List ℕ → ℕ
front [] = 0
front (n ∷ xs) = n

abbrev pub rest : List ℕ → List ℕ
rest [] = []
rest (n ∷ xs) = xs

-- what was found, told back from its values, of which there is at least one
abbrev pub any_back : {A : Type 0} → (List ℕ → A) → List ℕ → Option A
any_back back [] = None
any_back back (n ∷ xs) = Some (back (n ∷ xs))

pub judged_only : (due : Outcome) (r s : Result (Unit {0}) Refusal) (k l : List (List ℕ))
    → outcome (judged_says r) k ≡ due → outcome (judged_says s) l ≡ due → (r ≡ s) × (k ≡ l)
judged_only = says_only no_values (λ xs. tt) (λ u. refl)

abbrev truth_back : List ℕ → Bool
truth_back [] = false
truth_back (zero ∷ xs) = false
truth_back (suc n ∷ xs) = true

truth_undo : (b : Bool) → truth_back (truth_value b) ≡ b
truth_undo true = refl
truth_undo false = refl

pub truth_only : (due : Outcome) (r s : Result Bool Refusal) (k l : List (List ℕ))
    → outcome (truth_says r) k ≡ due → outcome (truth_says s) l ≡ due → (r ≡ s) × (k ≡ l)
truth_only = says_only truth_value truth_back truth_undo

abbrev seated_back : List ℕ → Seated
seated_back [] = No 0
seated_back (zero ∷ xs) = No (front xs)
seated_back (suc n ∷ xs) = Yes (front xs)

seated_undo : (s : Seated) → seated_back (seat_values s) ≡ s
seated_undo (Yes below) = refl
seated_undo (No below) = refl

pub seated_only : (due : Outcome) (r s : Result Seated Refusal) (k l : List (List ℕ))
    → outcome (seated_says r) k ≡ due → outcome (seated_says s) l ≡ due → (r ≡ s) × (k ≡ l)
seated_only = says_only seat_values seated_back seated_undo

-- a number, or none
number_undo : (o : Option ℕ) → any_back front (if_any one_value o) ≡ o
number_undo (Some n) = refl
number_undo None = refl

pub found_only : (due : Outcome) (r s : Result (Option ℕ) Refusal) (k l : List (List ℕ))
    → outcome (found_says r) k ≡ due → outcome (found_says s) l ≡ due → (r ≡ s) × (k ≡ l)
found_only = says_only (if_any one_value) (any_back front) number_undo

pub sized_only : (due : Outcome) (r s : Result (Option ℕ) Refusal) (k l : List (List ℕ))
    → outcome (sized_says r) k ≡ due → outcome (sized_says s) l ≡ due → (r ≡ s) × (k ≡ l)
sized_only = found_only

-- two numbers, or none
abbrev pair_back : List ℕ → ℕ × ℕ
pair_back xs = (front xs, front (rest xs))

pair_undo : (o : Option (ℕ × ℕ)) → any_back pair_back (if_any two_values o) ≡ o
pair_undo (Some (l, h)) = refl
pair_undo None = refl

pub ranged_only : (due : Outcome) (r s : Result (Option (ℕ × ℕ)) Refusal) (k l : List (List ℕ))
    → outcome (ranged_says r) k ≡ due → outcome (ranged_says s) l ≡ due → (r ≡ s) × (k ≡ l)
ranged_only = says_only (if_any two_values) (any_back pair_back) pair_undo

pub valued_only : (due : Outcome) (r s : Result (Option (ℕ × ℕ)) Refusal) (k l : List (List ℕ))
    → outcome (valued_says r) k ≡ due → outcome (valued_says s) l ≡ due → (r ≡ s) × (k ≡ l)
valued_only = ranged_only

abbrev part_back : List ℕ → Part
part_back xs = record { place = front xs; length = front (rest xs) }

part_undo : (o : Option Part) → any_back part_back (if_any part_values o) ≡ o
part_undo (Some p) = refl
part_undo None = refl

pub parted_only : (due : Outcome) (r s : Result (Option Part) Refusal) (k l : List (List ℕ))
    → outcome (parted_says r) k ≡ due → outcome (parted_says s) l ≡ due → (r ≡ s) × (k ≡ l)
parted_only = says_only (if_any part_values) (any_back part_back) part_undo

abbrev deciding_back : List ℕ → Deciding
deciding_back xs = record { position = front (rest (rest xs)); place = front xs; length = front (rest xs) }

deciding_undo : (o : Option Deciding) → any_back deciding_back (if_any deciding_values o) ≡ o
deciding_undo (Some d) = refl
deciding_undo None = refl

pub decided_only : (due : Outcome) (r s : Result (Option Deciding) Refusal) (k l : List (List ℕ))
    → outcome (decided_says r) k ≡ due → outcome (decided_says s) l ≡ due → (r ≡ s) × (k ≡ l)
decided_only = says_only (if_any deciding_values) (any_back deciding_back) deciding_undo

pub placed_only : (due : Outcome) (r s : Result ℕ Refusal) (k l : List (List ℕ))
    → outcome (placed_says r) k ≡ due → outcome (placed_says s) l ≡ due → (r ≡ s) × (k ≡ l)
placed_only = says_only one_value front (λ n. refl)

pub written_only : (due : Outcome) (r s : Result ℕ Refusal) (k l : List (List ℕ))
    → outcome (written_says r) k ≡ due → outcome (written_says s) l ≡ due → (r ≡ s) × (k ≡ l)
written_only = placed_only
