-- No second answer of `judge_set`: two answers that say the same are one. (The kinds of answer that crates share have theirs in
-- answers/proofs/Unique.)
use mathlib.Core.Path.{◌≡◌, refl, sym, ◌∙◌, ap}
use Prim.Native.Nat.{ℕ}
use Rattle.std.specs.Prelude.{Result}
use Rattle.answers.specs.Says.{one_value}
use Rattle.answers.specs.declared.Refusal.{Refusal}
use Rattle.answers.proofs.Unique.{says_back, says_undo, front}
use Rattle.forms.specs.Calls.{form_says}

-- the answer, from what it says: a count, or a refusal's number and place; and it is the answer that said it
form_undo : (r : Result ℕ Refusal) → says_back front (form_says r) ≡ r
form_undo r = says_undo one_value front r (λ n e. refl)

-- [D8] so no second answer says the same
pub form_read_only : (r r' : Result ℕ Refusal) → form_says r ≡ form_says r' → r ≡ r'
form_read_only r r' e = sym (form_undo r) ∙ ap (says_back front) e ∙ form_undo r'
