-- What reading answers, by its verdict, and the verdict by what it answers.
use Prim.Native.Nat.{ℕ, zero, suc, ◌≤◌}
use mathlib.Core.Path.{◌≡◌, refl, sym, ap, ◌∙◌}
use native.Mathlib.Omega.{arith}
use Rattle.std.specs.Prelude.{Result, Ok, Err, IsErrAnd}
use Rattle.answers.specs.Answers.{last_number}
use Rattle.answers.specs.declared.Reason.{Reason}
use Rattle.answers.specs.Says.{number_of, reason_of}
use Rattle.answers.proofs.Numbers.{number_reason, reason_number, reason_small}
use Rattle.records.specs.Reads.{read_as}

pub read_ok : {A : Type 0} (v : ℕ) (x y : A) → 0 ≡ v → x ≡ y → Ok x ≡ read_as v y
unfolding read_as
read_ok v x y q p = rw (← q, p)

pub read_err : {A : Type 0} (e : Reason) (v : ℕ) (y : A) → number_of e ≡ v → Err e ≡ read_as v y
unfolding read_as
read_err e zero y q = absurd (omega (arith, reason_small e))
read_err e (suc v) y q = ap Err (sym (number_reason e) ∙ ap reason_of q)

-- a refusal that is handed on
pub read_failed : {A : Type 0} (r : Result A Reason) (e : Reason) (v : ℕ) (y : A) → IsErrAnd r (λ d. d ≡ e) → number_of e ≡ v → r ≡ read_as v y
read_failed (Ok x) e v y h q = absurd h
read_failed (Err d) e v y h q = ap Err h ∙ read_err e v y q

-- and back
pub was_ok : {A : Type 0} (v : ℕ) (x y : A) → Ok x ≡ read_as v y → (v ≡ 0) × (x ≡ y)
unfolding read_as
was_ok zero x y q = (refl, cc)
was_ok (suc v) x y q = absurd cc

pub was_err : {A : Type 0} (v : ℕ) (e : Reason) (y : A) → v ≤ last_number → Err e ≡ read_as v y → number_of e ≡ v
unfolding read_as
was_err zero e y l q = absurd cc
was_err (suc v) e y l q = let k : e ≡ reason_of (suc v) = cc in ap number_of k ∙ reason_number (suc v) (omega arith) l
