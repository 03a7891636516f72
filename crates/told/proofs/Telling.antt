-- What is told in C: no second reply satisfies a contract, and nothing of an answer is lost.
use mathlib.Core.Path.{◌≡◌, refl, sym, ◌∙◌, ap, ap₂}
use mathlib.Core.List.{List, [], ◌∷◌, map}
use Prim.Native.Nat.{ℕ, ◌≤◌}
use native.Mathlib.Omega.{arith}
use lib.IntN.{ℤ}
use lib.ListN.{length, get_or}
use mir.Syntax.{w64}
use mir.Val.{to_z, of_z}
use Rattle.keys.specs.Keys.{IsKey, word_of, turned}
use Rattle.keys.proofs.Shift.{turned_twice}
use Rattle.keys.proofs.Machine.{read_word}
use Rattle.answers.specs.Answers.{Answer, given, refused, Outcome, outcome}
use Rattle.std.specs.Prelude.{Option, Some, None, Result, Ok, Err}
use Rattle.answers.specs.declared.Refusal.{Refusal}
use Rattle.answers.specs.Says.{says, if_any}
use Rattle.told.specs.declared.Told.{Told}
use Rattle.told.specs.Told.{told, Reply, reply, in_c, Tells, in_twos, in_keys, TellsKeys}

abbrev told_in : Reply → Told
told_in (reply t lent) = t

abbrev lent_in : Reply → List (List ℕ)
lent_in (reply t lent) = lent

-- a key that the code read, in two's complement
pub as_twos : (k : ℤ) → IsKey k → (x : ℕ) → x ≡ turned (word_of (to_z w64 (of_z w64 k))) → x ≡ turned (word_of k)
as_twos k h x e = e ∙ ap turned (read_word k h)

-- an export's promise is one equation
pub tells_reply : {r : Told} {lent : List (List ℕ)} {call : Outcome} → Tells r lent call → reply r lent ≡ in_c call
tells_reply {r} {lent} {call} t = ap (λ (s : Told). reply s lent) t.as_told ∙ ap in_c t.as_called

pub reply_tells : (r : Told) (lent : List (List ℕ)) (call : Outcome) → reply r lent ≡ in_c call → Tells r lent call
reply_tells r lent (outcome a kept) e = record { answer = a; as_told = ap told_in e; as_called = ap (outcome a) (ap lent_in e) }

-- [K3] so is that of an export that answers keys
pub tells_keys : {r : Told} {lent : List (List ℕ)} {call : Outcome} → TellsKeys r lent call → Tells r lent (in_keys call)
tells_keys t = record { answer = in_twos t.answer; as_told = t.as_told; as_called = ap in_keys t.as_called }

-- [K3] nothing of a key is lost by its two's complement
pub twos_told : (a b : Answer) → in_twos a ≡ in_twos b → a ≡ b
twos_told a b e = sym (twice a) ∙ ap in_twos e ∙ twice b
  where
    words : (xs : List ℕ) → map turned (map turned xs) ≡ xs
    words [] = refl
    words (x ∷ xs) = ap₂ (λ (y : ℕ) (ys : List ℕ). y ∷ ys) (turned_twice x) (words xs)

    twice : (a : Answer) → in_twos (in_twos a) ≡ a
    twice (given xs) = ap given (words xs)
    twice (refused n p) = refl

-- [K3] keys found are told in two's complement, each where it stands,
pub found_in_twos : {A : Type 0} (values : A → List ℕ) {r : Told} (a : Result (Option A) Refusal)
    → r ≡ told (says (if_any (λ x. map turned (values x))) a) → r ≡ told (in_twos (says (if_any values) a))
found_in_twos values (Ok (Some x)) e = e
found_in_twos values (Ok None) e = e
found_in_twos values (Err f) e = e

-- [K3] and so is a key that a call gives
pub given_in_twos : {A : Type 0} (values : A → List ℕ) {r : Told} (a : Result A Refusal)
    → r ≡ told (says (λ x. map turned (values x)) a) → r ≡ told (in_twos (says values a))
given_in_twos values (Ok x) e = e
given_in_twos values (Err f) e = e

-- no second reply satisfies a contract
pub told_only : (call : Outcome) (t u : Told) (lent kept : List (List ℕ)) → Tells t lent call → Tells u kept call → (t ≡ u) × (lent ≡ kept)
told_only call t u lent kept e f = let d = tells_reply e ∙ sym (tells_reply f) in (ap told_in d, ap lent_in d)

-- a refusal is told by its number and its place
pub refusal_told : (n p m q : ℕ) → told (refused n p) ≡ told (refused m q) → (n ≡ m) × (p ≡ q)
refusal_told n p m q e = (let k = ap (λ (t : Told). t.status) e in omega arith, ap (λ (t : Told). t.place) e)

-- what is accepted is not told as a refusal
pub given_told : (xs : List ℕ) (n p : ℕ) → told (given xs) ≡ told (refused n p) → ⊥
given_told xs n p e = let k = ap (λ (t : Told). t.status) e in omega arith

-- up to three values are told in full
pub values_told : (xs ys : List ℕ) → length xs ≤ 3 → told (given xs) ≡ told (given ys) → xs ≡ ys
values_told xs ys h e =
    same xs ys h (ap (λ (t : Told). t.count) e) (ap (λ (t : Told). t.first) e) (ap (λ (t : Told). t.second) e) (ap (λ (t : Told). t.third) e)
  where
    same : (xs ys : List ℕ) → length xs ≤ 3 → length xs ≡ length ys → get_or xs 0 0 ≡ get_or ys 0 0 → get_or xs 1 0 ≡ get_or ys 1 0 → get_or xs 2 0 ≡ get_or ys 2 0 → xs
        ≡ ys
    same [] [] h n i j k = refl
    same [] (b ∷ ys) h n i j k = absurd (omega arith)
    same (a ∷ xs) [] h n i j k = absurd (omega arith)
    same (a ∷ []) (b ∷ []) h n i j k = ap (λ (x : ℕ). x ∷ []) i
    same (a ∷ []) (b ∷ c ∷ ys) h n i j k = absurd (omega arith)
    same (a ∷ c ∷ xs) (b ∷ []) h n i j k = absurd (omega arith)
    same (a ∷ c ∷ []) (b ∷ d ∷ []) h n i j k = ap₂ (λ (x y : ℕ). x ∷ y ∷ []) i j
    same (a ∷ c ∷ []) (b ∷ d ∷ f ∷ ys) h n i j k = absurd (omega arith)
    same (a ∷ c ∷ e ∷ xs) (b ∷ d ∷ []) h n i j k = absurd (omega arith)
    same (a ∷ c ∷ e ∷ []) (b ∷ d ∷ f ∷ []) h n i j k = ap₂ (λ (x : ℕ) (l : List ℕ). x ∷ l) i (ap₂ (λ (x y : ℕ). x ∷ y ∷ []) j k)
    same (a ∷ c ∷ e ∷ []) (b ∷ d ∷ f ∷ g ∷ ys) h n i j k = absurd (omega arith)
    same (a ∷ c ∷ e ∷ l ∷ xs) (b ∷ d ∷ f ∷ ys) h n i j k = absurd (omega arith)
