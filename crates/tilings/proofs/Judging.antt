-- The plain method's two tests: a block is wholly out exactly if it has no member, wholly in exactly if it has nothing else; and what the
-- method makes of it.
use mathlib.Core.Path.{◌≡◌, refl, sym, ◌∙◌, ap}
use mathlib.Core.Bool.{Bool, true, false, not}
use mathlib.Core.Option.{Option, none, some}
use mathlib.Core.List.{List, [], ◌∷◌, ◌++◌}
use Prim.Native.Nat.{ℕ, zero, suc, ◌+◌, ◌^◌, ◌≤◌, ◌<◌}
use native.Mathlib.Omega.{arith}
use borrow.Author.Tests.{leb-true, leb-false, not-false}
use Rattle.entries.specs.Entries.{Entry, Sound}
use Rattle.entries.specs.Sets.{past_m, member, complement}
use Rattle.entries.specs.Questions.{least_member}
use Rattle.entries.proofs.Values.{true≢false}
use Rattle.entries.proofs.Sets.{complement_is}
use Rattle.entries.proofs.Questions.{LeastOf, least_member_lem, non_member_lem}
use Rattle.tilings.specs.Prefixes.{prefix, none_below, wholly_out, wholly_in, audit}

-- every number of the block of 2^e numbers from s on is in S
abbrev pub Full : (ℕ → Bool) → ℕ → ℕ → Type 0
Full S s e = (y : ℕ) → s ≤ y → y < s + 2 ^ e → S y ≡ true

-- no number from x up to y, without y, is in S
abbrev pub Free : (ℕ → Bool) → ℕ → ℕ → Type 0
Free S x y = (z : ℕ) → x ≤ z → z < y → S z ≡ false

-- the least number at or above x that S holds, if there is one, is not below t: exactly if S has none from x up to t
module _ (S : ℕ → Bool) (x t : ℕ) where
  none_free : (o : Option ℕ) → LeastOf S x o → none_below t o ≡ true → Free S x t
  none_free none l h z a b = l z a
  none_free (some y) l h z a b = l.least z a (omega (arith, leb-true t y h))

  some_not_free : (o : Option ℕ) → LeastOf S x o → none_below t o ≡ false → Free S x t → ⊥
  some_not_free none l h f = true≢false h
  some_not_free (some y) l h f = true≢false (sym l.is ∙ f y l.from (leb-false t y h))

-- a test that is not false
decided : (t : Bool) → (t ≡ false → ⊥) → t ≡ true
decided true h = refl
decided false h = absurd (h refl)

-- a test that is not true
refuted : (t : Bool) → (t ≡ true → ⊥) → t ≡ false
refuted true h = absurd (h refl)
refuted false h = refl

module _ (es : List Entry) (so : Sound es) where
  -- [P5] wholly out: no number of the block is a member
  pub out_free : (e s : ℕ) → wholly_out es e s ≡ true → Free (member es) s (s + 2 ^ e)
  out_free e s = none_free (member es) s (s + 2 ^ e) (least_member es s) (least_member_lem es s so)

  pub free_out : (e s : ℕ) → Free (member es) s (s + 2 ^ e) → wholly_out es e s ≡ true
  free_out e s f = decided (wholly_out es e s) (λ h. some_not_free (member es) s (s + 2 ^ e) (least_member es s) (least_member_lem es s so) h f)

  -- a block with a member is not wholly out
  pub out_not : (e s y : ℕ) → s ≤ y → y < s + 2 ^ e → member es y ≡ true → wholly_out es e s ≡ false
  out_not e s y a b m = refuted (wholly_out es e s) (λ h. true≢false (sym m ∙ out_free e s h y a b))

module _ (es : List Entry) (so : Sound es) (e s : ℕ) (in_line : s + 2 ^ e ≤ past_m) where
  -- [P5] wholly in: each number of the block is a member
  pub in_full : wholly_in es e s ≡ true → Full (member es) s e
  in_full h y a b =
      not-false (member es y) (sym (non_member_lem es s y (omega arith)) ∙ out_free (complement es) (complement_is es).sound e s h y a b)

  pub full_in : Full (member es) s e → wholly_in es e s ≡ true
  full_in u = free_out (complement es) (complement_is es).sound e s (λ y a b. non_member_lem es s y (omega arith) ∙ ap not (u y a b))

-- a block with a number that is no member is not wholly in
pub in_not : (es : List Entry) → Sound es → (e s y : ℕ) → s + 2 ^ e ≤ past_m → s ≤ y → y < s + 2 ^ e → member es y ≡ false → wholly_in es e s ≡ false
in_not es so e s y in_line a b m = refuted (wholly_in es e s) (λ h. true≢false (sym (in_full es so e s in_line h y a b) ∙ m))

-- [P5] a block wholly out is dropped
pub audit_dropped : (es : List Entry) (e s : ℕ) → wholly_out es e s ≡ true → audit es e s ≡ []
unfolding audit
audit_dropped es zero s o = rw o
audit_dropped es (suc e) s o = rw o

-- [P5] wholly in kept
pub audit_kept : (es : List Entry) (e s : ℕ) → wholly_out es e s ≡ false → wholly_in es e s ≡ true → audit es e s ≡ prefix s e ∷ []
unfolding audit
audit_kept es zero s o i = rw (o, i)
audit_kept es (suc e) s o i = rw (o, i)

-- [P5] and else cut into halves
pub audit_halves : (es : List Entry) (e s : ℕ) → wholly_out es (suc e) s ≡ false → wholly_in es (suc e) s ≡ false
    → audit es (suc e) s ≡ audit es e s ++ audit es e (s + 2 ^ e)
unfolding audit
audit_halves es e s o i = rw (o, i)
