-- Make empty, by the tests of the code.
use mathlib.Core.Path.{◌≡◌, ap}
use mathlib.Core.List.{List, [], ◌∷◌}
use Prim.Native.Nat.{ℕ}
use lib.ListN.{length}
use borrow.Author.Tests.{eq-eqb}
use Rattle.std.specs.Prelude.{Result, Ok, Err}
use Rattle.answers.specs.declared.Refusal.{Refusal}
use Rattle.answers.specs.Answers.{outcome, given}
use Rattle.answers.specs.Says.{refusal_says, judged_says, judged_of}
use Rattle.answers.specs.Steps.{FirstOf}
use Rattle.answers.proofs.Turns.{refused_by, given_by}
use Rattle.blocks.specs.Calls.{output, holding}
use Rattle.blocks.specs.Steps.{Cleared}
use Rattle.blocks.proofs.Moves.{cleared_block}
use Rattle.blocks.proofs.Refusing.{some_words}
use Rattle.sets.specs.Calls.{make_empty_call}

-- [S8, R18] refused for want of words only, and else done, whatever the words were
pub empty_refused : (w : List ℕ) (r : Result (Unit {0}) Refusal) → r ≡ judged_of 1 0 → length w ≡ 0
    → outcome (judged_says r) (w ∷ []) ≡ make_empty_call w
unfolding make_empty_call
empty_refused w r e h =
    rw (eq-eqb (length w) 0 h) (ap (λ (x : Result (Unit {0}) Refusal). outcome (judged_says x) (w ∷ [])) e)

-- [S8, R18] the same of what the judge of outputs finds
pub empty_stopped : {w : List ℕ} {e : Refusal} → FirstOf (output 0 (length w) ∷ []) (Err e) → outcome (refusal_says e) (w ∷ []) ≡ make_empty_call w
unfolding make_empty_call
empty_stopped {w} f = refused_by f (w ∷ []) (holding w [])

pub empty_done : {w : List ℕ} {u : Unit {0}} → FirstOf (output 0 (length w) ∷ []) (Ok u) → (w' : List ℕ) → Cleared w 0 w'
    → outcome (given []) (w' ∷ []) ≡ make_empty_call w
unfolding make_empty_call
empty_done {w} f w' c =
    given_by f (w ∷ []) (outcome (given []) (w' ∷ [])) (holding w [])
    (ap (λ (l : List ℕ). outcome (given []) (l ∷ [])) (cleared_block w w' (some_words (length w) f.clear.0) c))
