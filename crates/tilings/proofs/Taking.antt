-- The blocks of one range: the largest that fits comes first, and then those of what is left.
use mathlib.Core.Path.{◌≡◌, refl, ap}
use mathlib.Core.List.{List, [], ◌∷◌}
use Prim.Native.Nat.{ℕ, zero, suc, ◌+◌, ◌-◌, ◌^◌, ◌≤◌, ◌<◌}
use native.Mathlib.Omega.{arith}
use lib.Pow.{pow_pos}
use Rattle.tilings.specs.Prefixes.{Prefix, prefix, whole, largest, taken, taken_all}

-- any number of steps from n on gives the same
pub enough_steps : (k j p n : ℕ) → n ≤ k → n ≤ j → taken k p n ≡ taken j p n
unfolding taken
enough_steps zero zero p n h l = refl
enough_steps zero (suc j) p zero h l = refl
enough_steps zero (suc j) p (suc n) h l = absurd (omega arith)
enough_steps (suc k) zero p zero h l = refl
enough_steps (suc k) zero p (suc n) h l = absurd (omega arith)
enough_steps (suc k) (suc j) p zero h l = refl
enough_steps (suc k) (suc j) p (suc n) h l =
    let e = largest whole p (suc n) in
    ap (λ (ps : List Prefix). prefix p e ∷ ps)
    (enough_steps k j (p + 2 ^ e) (suc n - 2 ^ e) (omega (arith, pow_pos e)) (omega (arith, pow_pos e)))

-- [P3] the largest block that fits, and those of what is left behind it
pub taken_one : (p n : ℕ) → 0 < n
    → taken_all p n ≡ prefix p (largest whole p n) ∷ taken_all (p + 2 ^ largest whole p n) (n - 2 ^ largest whole p n)
unfolding taken
taken_one p zero h = absurd (omega arith)
taken_one p (suc n) h =
    let e = largest whole p (suc n) in
    ap (λ (ps : List Prefix). prefix p e ∷ ps)
    (enough_steps n (suc n - 2 ^ e) (p + 2 ^ e) (suc n - 2 ^ e) (omega (arith, pow_pos e)) (omega arith))

-- [P3] of no numbers there is no block
pub taken_none : (p : ℕ) → taken_all p 0 ≡ []
unfolding taken
taken_none p = refl
