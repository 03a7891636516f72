-- Equations between Booleans, by trying every value.
use mathlib.Core.Path.{◌≡◌, refl}
use mathlib.Core.Bool.{Bool, true, false}
use lib.Dec.{T}
use Rattle.entries.specs.Build.{andb}

abbrev pub agree : Bool → Bool → Bool
agree true true = true
agree true false = false
agree false true = false
agree false false = true

agreed : (a b : Bool) → T (agree a b) → a ≡ b
agreed true true t = refl
agreed true false t = absurd t
agreed false true t = absurd t
agreed false false t = refl

and_l : (a b : Bool) → T (andb a b) → T a
and_l true b t = tt
and_l false b t = t

and_r : (a b : Bool) → T (andb a b) → T b
and_r true b t = t
and_r false b t = absurd t

abbrev pub every : (Bool → Bool) → Bool
every f = andb (f true) (f false)

pub each : (f : Bool → Bool) → T (every f) → (b : Bool) → T (f b)
each f t true = and_l (f true) (f false) t
each f t false = and_r (f true) (f false) t

pub taut2 : (f g : Bool → Bool → Bool) → T (every λ a. every λ b. agree (f a b) (g a b)) → (a b : Bool) → f a b ≡ g a b
taut2 f g t a b = agreed _ _ (each (λ b. agree (f a b) (g a b)) (each (λ a. every λ b. agree (f a b) (g a b)) t a) b)

pub taut4 : (f g : Bool → Bool → Bool → Bool → Bool) → T (every λ a. every λ b. every λ c. every λ d. agree (f a b c d) (g a b c d))
    → (a b c d : Bool) → f a b c d ≡ g a b c d
taut4 f g t a b =
    taut2 (f a b) (g a b)
    (each (λ b. every λ c. every λ d. agree (f a b c d) (g a b c d)) (each (λ a. every λ b. every λ c. every λ d. agree (f a b c d) (g a b c d)) t a) b)

pub taut5 : (f g : Bool → Bool → Bool → Bool → Bool → Bool) → T (every λ a. every λ b. every λ c. every λ d. every λ e. agree (f a b c d e) (g a b c d e))
    → (a b c d e : Bool) → f a b c d e ≡ g a b c d e
taut5 f g t a = taut4 (f a) (g a) (each (λ a. every λ b. every λ c. every λ d. every λ e. agree (f a b c d e) (g a b c d e)) t a)
