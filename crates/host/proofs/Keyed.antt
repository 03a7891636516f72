-- An export that hands on keys: what the machine reads of a key that C passes is that key.
use mathlib.Core.Path.{◌≡◌, ap, ap₂, ◌∙◌}
use mathlib.Core.List.{List}
use Prim.Native.Nat.{ℕ}
use lib.IntN.{ℤ}
use mir.Syntax.{w64}
use mir.Val.{to_z, of_z}
use Rattle.keys.specs.Keys.{IsKey}
use Rattle.keys.proofs.Machine.{read_key}
use Rattle.answers.specs.Answers.{Answer, Outcome, outcome}
use Rattle.told.specs.declared.Told.{Told}
use Rattle.told.specs.Told.{told, in_twos, Tells, TellsKeys}

pub one_key : {A : Type 0} {o : A} (call : ℤ → A) (k : ℤ) → IsKey k → o ≡ call (to_z w64 (of_z w64 k)) → o ≡ call k
one_key call k h e = e ∙ ap call (read_key k h)

pub two_keys : {A : Type 0} {o : A} (call : ℤ → ℤ → A) (k l : ℤ) → IsKey k → IsKey l → o ≡ call (to_z w64 (of_z w64 k)) (to_z w64 (of_z w64 l)) → o ≡ call k l
two_keys call k l h g e = e ∙ ap₂ call (read_key k h) (read_key l g)

-- the promise of an export with one key, or with two, from what it was told and what it called
module _ {r : Told} {lent : List (List ℕ)} {x : Answer} where
  pub at_one : (call : ℤ → Outcome) (k : ℤ) → IsKey k → r ≡ told x → outcome x lent ≡ call (to_z w64 (of_z w64 k)) → Tells r lent (call k)
  at_one call k h t e = record { answer = x; as_told = t; as_called = one_key call k h e }

  pub key_at_one : (call : ℤ → Outcome) (k : ℤ) → IsKey k → r ≡ told (in_twos x) → outcome x lent ≡ call (to_z w64 (of_z w64 k)) → TellsKeys r lent (call k)
  key_at_one call k h t e = record { answer = x; as_told = t; as_called = one_key call k h e }

  pub at_two : (call : ℤ → ℤ → Outcome) (k l : ℤ) → IsKey k → IsKey l → r ≡ told x
      → outcome x lent ≡ call (to_z w64 (of_z w64 k)) (to_z w64 (of_z w64 l)) → Tells r lent (call k l)
  at_two call k l h g t e = record { answer = x; as_told = t; as_called = two_keys call k l h g e }

  pub key_at_two : (call : ℤ → ℤ → Outcome) (k l : ℤ) → IsKey k → IsKey l → r ≡ told (in_twos x)
      → outcome x lent ≡ call (to_z w64 (of_z w64 k)) (to_z w64 (of_z w64 l)) → TellsKeys r lent (call k l)
  key_at_two call k l h g t e = record { answer = x; as_told = t; as_called = two_keys call k l h g e }
