-- Every operation on two lists is one: the sound list of a function of the two values.
use mathlib.Core.Path.{◌≡◌, refl, sym, ◌∙◌, ap₂}
use mathlib.Core.Logic.{◌≢◌}
use mathlib.Core.Option.{Option, none}
use mathlib.Core.List.{List, [], ◌∷◌, ◌++◌}
use Prim.Native.Nat.{ℕ, suc, ◌≤◌, max}
use native.Mathlib.Omega.{arith}
use Rattle.entries.specs.Entries.{Value, Entry, or_else, at, value_at, ListOf}
use Rattle.entries.proofs.Sides.{Side, under, inside, past, side, at_under, at_in, at_past}
use Rattle.entries.proofs.Cuts.{notin_append, Changes}
use Rattle.entries.specs.Build.{combine, cuts_of}
use Rattle.entries.proofs.Building.{built}

abbrev pub end_of : List Entry → ℕ
end_of [] = 0
end_of (e ∷ es) = max (suc e.high) (end_of es)

pub at_same : (e : Entry) (y : ℕ) → suc y ≢ e.low → suc y ≢ suc e.high → at e (suc y) ≡ at e y
at_same e y p q = go (side e y)
  where
    go : Side e y → at e (suc y) ≡ at e y
    go (under h) = at_under e (suc y) (omega arith) ∙ sym (at_under e y h)
    go (inside h k) = at_in e (suc y) (omega arith) (omega arith) ∙ sym (at_in e y h k)
    go (past h) = at_past e (suc y) (omega arith) ∙ sym (at_past e y h)

pub value_changes : (es : List Entry) → Changes (value_at es) (cuts_of es)
value_changes [] y n = refl
value_changes (e ∷ es) y n = ap₂ or_else (at_same e y n.0 n.1.0) (value_changes es y n.1.1)

pub value_ends : (es : List Entry) (y : ℕ) → end_of es ≤ y → value_at es y ≡ none
value_ends [] y h = refl
value_ends (e ∷ es) y h = rw (at_past e y (omega arith)) (value_ends es y (omega arith))

-- [M4, M5] the law of `combine`
pub combined : (f : Option Value → Option Value → Option Value) → f none none ≡ none → (a b : List Entry)
    → ListOf (λ x. f (value_at a x) (value_at b x)) (combine f a b)
combined f z a b = built (λ x. f (value_at a x) (value_at b x)) (max (end_of a) (end_of b)) (cuts_of a ++ cuts_of b)
    (λ y h. ap₂ f (value_ends a y (omega arith)) (value_ends b y (omega arith)) ∙ z)
    (λ y n. let m = notin_append (suc y) (cuts_of a) (cuts_of b) n in ap₂ f (value_changes a y m.0) (value_changes b y m.1))
