-- The table of kinds.
use Prim.Native.Nat.{ℕ, ◌+◌, ◌≤◌}
use mathlib.Core.Path.{◌≡◌, refl, ap, ◌∙◌}
use mathlib.Core.Bool.{Bool, true, false}
use mathlib.Core.Option.{Option, none, some}
use native.Mathlib.Omega.{arith}
use lib.Dec.{eqb, lit≤}
use borrow.Author.Tests.{eqb-true, eqb-false, ne_eqb}
use Rattle.entries.specs.Build.{pick}
use Rattle.records.specs.Records.{body_length}
use Rattle.records.specs.Reads.{body_read}
use Rattle.std.specs.Prelude as code

pair_or : (k m : ℕ) → m ≤ k → k ≤ m + 1 → body_length (m + 1) ≡ body_length m → body_length k ≡ body_length m
pair_or k m l h e = go (eqb k m) refl
  where
    go : (t : Bool) → eqb k m ≡ t → body_length k ≡ body_length m
    go true q = ap body_length (eqb-true k m q)
    go false q = let n = eqb-false k m q in ap body_length (lemma n) ∙ e
      where
        lemma : (k ≡ m → ⊥) → k ≡ m + 1
        lemma n = omega arith

pub kind_1_2 : (k : ℕ) → 1 ≤ k → k ≤ 2 → body_length k ≡ some 2
unfolding body_length
kind_1_2 k l h = pair_or k 1 l h refl

kind_18_19 : (k : ℕ) → 18 ≤ k → k ≤ 19 → body_length k ≡ some 16
unfolding body_length
kind_18_19 k l h = pair_or k 18 l h refl

pub kind_18_20 : (k : ℕ) → 18 ≤ k → k ≤ 20 → body_length k ≡ some 16
unfolding body_length
kind_18_20 k l h = go (eqb k 20) refl
  where
    go : (t : Bool) → eqb k 20 ≡ t → body_length k ≡ some 16
    go true q = ap body_length (eqb-true k 20 q)
    go false q = let n = eqb-false k 20 q in kind_18_19 k l (omega arith)

abbrev pub Outside : ℕ → Type 0
Outside k =
    (k ≡ 1 → ⊥) × (k ≡ 2 → ⊥) × (k ≡ 3 → ⊥) × (k ≡ 4 → ⊥) × (k ≡ 16 → ⊥) × (k ≡ 17 → ⊥) × (k ≡ 18 → ⊥) × (k ≡ 19 → ⊥) × (k ≡ 20 → ⊥)

pub kind_none : (k : ℕ) → Outside k → body_length k ≡ none
unfolding body_length
kind_none k o =
    simp (
      ne_eqb _ _ o.0,
      ne_eqb _ _ o.1,
      ne_eqb _ _ o.2,
      ne_eqb _ _ o.3,
      ne_eqb _ _ o.4,
      ne_eqb _ _ o.5,
      ne_eqb _ _ o.6,
      ne_eqb _ _ o.7,
      ne_eqb _ _ o.8,
    )

-- a body has at most 32 bytes
data Small : Option ℕ → Type 0 where
  known : {n : ℕ} → n ≤ 32 → Small (some n)
  unknown : Small none

small_pick : (b : Bool) {x y : Option ℕ} → Small x → Small y → Small (pick b x y)
small_pick true p q = p
small_pick false p q = q

small_inv : {n : ℕ} → Small (some n) → n ≤ 32
small_inv (known h) = h

small : (k : ℕ) → Small (body_length k)
unfolding body_length
small k =
    small_pick (eqb k 1) (known (lit≤ tt))
    (small_pick (eqb k 2) (known (lit≤ tt))
    (small_pick (eqb k 3) (known (lit≤ tt))
    (small_pick (eqb k 4) (known (lit≤ tt))
    (small_pick (eqb k 16) (known (lit≤ tt))
    (small_pick (eqb k 17) (known (lit≤ tt)) (small_pick (eqb k 18) (known (lit≤ tt)) (small_pick (eqb k 19) (known (lit≤ tt))
    (small_pick (eqb k 20) (known (lit≤ tt)) unknown))))))))

pub body_small : (k n : ℕ) → body_length k ≡ some n → n ≤ 32
body_small k n e = small_inv (rw e at (small k))

-- what the code's answer tells of the table
pub told_known : (o : Option ℕ) (r : code.Option ℕ) (n : ℕ) → r ≡ body_read o → r ≡ code.Some n → o ≡ some n
told_known none r n e q = absurd cc
told_known (some m) r n e q = let k : m ≡ n = cc in ap some k

pub told_unknown : (o : Option ℕ) (r : code.Option ℕ) → r ≡ body_read o → r ≡ code.None → o ≡ none
told_unknown none r e q = refl
told_unknown (some m) r e q = absurd cc

pub fits_known : (o : Option ℕ) (n m l : ℕ) → o ≡ some n → o ≡ some m → n + 5 ≤ l → m + 5 ≤ l
fits_known o n m l p q h = let k : n ≡ m = cc in omega arith
