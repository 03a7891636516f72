-- What each operation on sets names: the membership of its result, its soundness, and that it carries no value.
use mathlib.Core.Path.{◌≡◌, refl, sym, ◌∙◌, ap, ap₂}
use mathlib.Core.Logic.{◌≢◌}
use mathlib.Core.Bool.{Bool, true, false}
use mathlib.Core.Option.{none}
use mathlib.Core.List.{List, ◌∷◌}
use Prim.Native.Nat.{ℕ, suc, ◌≤◌, ◌<◌}
use native.Mathlib.Omega.{arith}
use native.Mathlib.Decide.{dec_lt}
use lib.Dec.{leb}
use borrow.Author.Tests.{lt-leb, le-leb}
use Rattle.entries.specs.Entries.{Entry, Sound, ListOf}
use Rattle.entries.specs.Build.{andb, cuts_of}
use Rattle.entries.specs.Sets.{M, Plain, has, mark, member, orb, lessb, xorb, set_op, union, intersection, difference, symmetric_difference, complement}
use Rattle.entries.proofs.Cuts.{Changes}
use Rattle.entries.proofs.Building.{built}
use Rattle.entries.proofs.Operations.{combined, value_changes}
use Rattle.entries.proofs.Plain.{mark_empty, listed_plain, set_canonical}

pub has_mark : (b : Bool) → has (mark b) ≡ b
has_mark true = refl
has_mark false = refl

-- a list that is a set: sound, with these members and no value
pub record SetOf (m : ℕ → Bool) (es : List Entry) : Type 0 where
  pub sound : Sound es
  pub plain : Plain es
  pub members : (x : ℕ) → member es x ≡ m x

pub set_of : (m : ℕ → Bool) (es : List Entry) → ListOf (λ x. mark (m x)) es → SetOf m es
set_of m es l = record {
  sound = l.sound;
  plain = listed_plain (λ x. mark (m x)) es l (λ x v q. mark_empty (m x) v q);
  members = λ x. ap has (l.names x) ∙ has_mark (m x);
}

-- there is one such list
pub set_unique : (m : ℕ → Bool) (es fs : List Entry) → SetOf m es → SetOf m fs → es ≡ fs
set_unique m es fs s t = set_canonical es fs s.sound t.sound s.plain t.plain (λ x. s.members x ∙ sym (t.members x))

-- [S13, S15] for any two lists, the same one too
pub set_op_is : (g : Bool → Bool → Bool) → g false false ≡ false → (a b : List Entry) → SetOf (λ x. g (member a x) (member b x)) (set_op g a b)
set_op_is g z a b = set_of (λ x. g (member a x) (member b x)) (set_op g a b) (combined (λ o p. mark (g (has o) (has p))) (ap mark z) a b)

-- [S11] union: in at least one
pub union_is : (a b : List Entry) → SetOf (λ x. orb (member a x) (member b x)) (union a b)
unfolding union
union_is = set_op_is orb refl

-- [S11] intersection: in both
pub intersection_is : (a b : List Entry) → SetOf (λ x. andb (member a x) (member b x)) (intersection a b)
unfolding intersection
intersection_is = set_op_is andb refl

-- [S11] difference: in the first and not in the second
pub difference_is : (a b : List Entry) → SetOf (λ x. lessb (member a x) (member b x)) (difference a b)
unfolding difference
difference_is = set_op_is lessb refl

-- [S11] symmetric difference: in exactly one
pub symmetric_is : (a b : List Entry) → SetOf (λ x. xorb (member a x) (member b x)) (symmetric_difference a b)
unfolding symmetric_difference
symmetric_is = set_op_is xorb refl

pub complement_lists : (a : List Entry) → ListOf (λ x. mark (lessb (leb x M) (member a x))) (complement a)
unfolding complement
complement_lists a = built (λ x. mark (lessb (leb x M) (member a x))) (suc M) (suc M ∷ cuts_of a) ends changes
  where
    ends : (y : ℕ) → suc M ≤ y → mark (lessb (leb y M) (member a y)) ≡ none
    ends y h = rw (lt-leb y M h)

    same : (y : ℕ) → suc y ≢ suc M → Dec (y < M) → leb (suc y) M ≡ leb y M
    same y n (yes p) = le-leb (suc y) M p ∙ sym (le-leb y M (omega arith))
    same y n (no p) = lt-leb (suc y) M (omega arith) ∙ sym (lt-leb y M (omega arith))

    changes : Changes (λ x. mark (lessb (leb x M) (member a x))) (suc M ∷ cuts_of a)
    changes y n = ap₂ (λ (t u : Bool). mark (lessb t u)) (same y n.0 (dec_lt y M)) (ap has (value_changes a y n.1))

-- [S12] complement: at most M and not in the set
pub complement_is : (a : List Entry) → SetOf (λ x. lessb (leb x M) (member a x)) (complement a)
complement_is a = set_of (λ x. lessb (leb x M) (member a x)) (complement a) (complement_lists a)
