-- A record written: mark and kind, then the body, then the check.
use Prim.Native.Nat.{ℕ, ◌+◌, ◌-◌}
use mathlib.Core.List.{List, [], ◌∷◌, ◌++◌}
use mathlib.Core.Path.{◌≡◌, refl, ap, ◌∙◌}
use native.Mathlib.Omega.{arith}
use lib.ListN.{length, take, drop}
use borrow.Rule.Slice.PartMut.{put_mid}
use Rattle.numbers.specs.Numbers.{be2, over}
use Rattle.checks.specs.Check.{check_of}
use Rattle.records.specs.Records.{record_of}
use Rattle.numbers.proofs.Patch.{mid_over}

-- mark and kind stand there, then the body comes behind, and the check
pub record_written : (mark kind p sum : ℕ) (body b b1 x y : List ℕ) → length body + 3 ≡ p → b1 ≡ over (be2 mark ++ (kind ∷ [])) b
    → x ≡ over body (take (length b1 - 3) (drop 3 b1)) → sum ≡ check_of mark (kind ∷ body)
    → (let b2 = put_mid 3 (length b1 - 3) b1 x in
    y ≡ over (be2 sum) (take (length b2 - p) (drop p b2)) → put_mid p (length b2 - p) b2 y ≡ over (record_of mark kind body) b)
record_written mark kind p sum body b b1 x y l e q s w =
    let b2 = put_mid 3 (length b1 - 3) b1 x in
    mid_over (be2 mark ++ (kind ∷ body)) (be2 sum) b b2 y p (omega arith) (mid_over (be2 mark ++ (kind ∷ [])) body b b1 x 3 refl e q) w
    ∙ ap (λ (c : ℕ). over (be2 mark ++ ((kind ∷ body) ++ be2 c)) b) s
