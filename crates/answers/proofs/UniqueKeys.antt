-- No second outcome, of the answers with keys: what an answer says is the word of a key, and a key is told by its word.
use mathlib.Core.Path.{◌≡◌, refl, ap, ap₂, subst}
use mathlib.Core.List.{List}
use Prim.Native.Nat.{ℕ}
use native.Mathlib.Omega.{arith}
use lib.IntN.{ℤ}
use Rattle.std.specs.Prelude.{Option, Some, None, Result, Ok, Err}
use Rattle.keys.specs.Keys.{IsKey, key_of}
use Rattle.keys.proofs.Shift.{key_back}
use Rattle.answers.specs.declared.Refusal.{Refusal}
use Rattle.answers.specs.Answers.{Outcome, outcome}
use Rattle.answers.specs.Says.{says, if_any, key_value, key_values, Holds, HoldsIfAny, found_key_says, ranged_keys_says, placed_key_says}
use Rattle.answers.specs.Says.{FoundKeyHolds, RangedKeysHold, PlacedKeyHolds}
use Rattle.answers.proofs.Unique.{only_two, says_back, says_undo, any_back, front, rest}

-- [D8] one law of all kinds: two answers of which P holds, with the same outcome, are the same, and leave the same
says_only_where : {A : Type 0} (P : A → Type 0) (values : A → List ℕ) (back : List ℕ → A) → ((a : A) → P a → back (values a) ≡ a)
    → (due : Outcome) (r s : Result A Refusal) (k l : List (List ℕ)) → Holds P r → Holds P s
    → outcome (says values r) k ≡ due → outcome (says values s) l ≡ due → (r ≡ s) × (k ≡ l)
says_only_where {A} P values back undo due r s k l h g =
    only_two (says values) (says_back back) due r s k l (says_undo values back r (held r h)) (says_undo values back s (held s g))
  where
    held : (r : Result A Refusal) → Holds P r → (a : A) → r ≡ Ok a → back (values a) ≡ a
    held (Ok b) h a e = let q : b ≡ a = cc in undo a (subst P q h)
    held (Err f) h a e = let z : ◌≡◌ {A = ℕ} 0 1 = cc in absurd (omega arith)

abbrev key_front : List ℕ → ℤ
key_front xs = key_of (front xs)

abbrev keys_back : List ℕ → ℤ × ℤ
keys_back xs = (key_of (front xs), key_of (front (rest xs)))

key_undo : (o : Option ℤ) → HoldsIfAny IsKey o → any_back key_front (if_any key_value o) ≡ o
key_undo (Some k) h = ap Some (key_back k h)
key_undo None h = refl

keys_undo : (o : Option (ℤ × ℤ)) → HoldsIfAny (λ p. IsKey p.0 × IsKey p.1) o → any_back keys_back (if_any key_values o) ≡ o
keys_undo (Some (low, high)) h = ap₂ (λ (x y : ℤ). Some (x, y)) (key_back low h.0) (key_back high h.1)
keys_undo None h = refl

pub found_key_only : (due : Outcome) (r s : Result (Option ℤ) Refusal) (k l : List (List ℕ)) → FoundKeyHolds r → FoundKeyHolds s
    → outcome (found_key_says r) k ≡ due → outcome (found_key_says s) l ≡ due → (r ≡ s) × (k ≡ l)
found_key_only = says_only_where (HoldsIfAny IsKey) (if_any key_value) (any_back key_front) key_undo

pub ranged_keys_only : (due : Outcome) (r s : Result (Option (ℤ × ℤ)) Refusal) (k l : List (List ℕ)) → RangedKeysHold r → RangedKeysHold s
    → outcome (ranged_keys_says r) k ≡ due → outcome (ranged_keys_says s) l ≡ due → (r ≡ s) × (k ≡ l)
ranged_keys_only = says_only_where (HoldsIfAny (λ p. IsKey p.0 × IsKey p.1)) (if_any key_values) (any_back keys_back) keys_undo

pub placed_key_only : (due : Outcome) (r s : Result ℤ Refusal) (k l : List (List ℕ)) → PlacedKeyHolds r → PlacedKeyHolds s
    → outcome (placed_key_says r) k ≡ due → outcome (placed_key_says s) l ≡ due → (r ≡ s) × (k ≡ l)
placed_key_only = says_only_where IsKey key_value key_front (λ k h. key_back k h)
