-- The limits on the number of ranges and entries, each from `start_bound` or `change_bound`.
use mathlib.Core.Path.{◌≡◌, refl, sym, ◌∙◌, ap, ap₂}
use mathlib.Core.Logic.{◌≢◌}
use mathlib.Core.Bool.{Bool, true, false}
use mathlib.Core.Option.{Option, none, some}
use mathlib.Core.List.{List, [], ◌∷◌, ◌++◌}
use Prim.Native.Nat.{ℕ, zero, suc, ◌+◌, ◌-◌, ◌*◌, ◌≤◌, ◌<◌}
use native.Mathlib.Omega.{arith}
use native.Mathlib.Decide.{dec_lt, dec_le, ℕ_discrete}
use lib.ListN.{length, length-append}
use lib.Dec.{leb}
use borrow.Author.Tests.{le-leb, leb-true}
use Rattle.entries.specs.Entries.{Value, Entry, or_else, value_at, Sound, ListOf}
use Rattle.entries.specs.Maps.{domain, keep_if, overlay, restriction}
use Rattle.entries.proofs.Building.{built}
use Rattle.entries.proofs.Operations.{end_of, value_ends, value_changes, combined}
use Rattle.entries.proofs.Bounds.{StartsIn, lows, ends, length_lows, length_ends, prev, Down, Up, starts, stops, start_bound, bound}
use Rattle.entries.proofs.Bounds.{change_bound, still, length_cuts}
use Rattle.entries.specs.Build.{with, put, andb, cuts_of, combine}
use Rattle.entries.proofs.Put.{put_is, with_in, with_under, with_past}
use Rattle.entries.proofs.Plain.{plain_marks}
use Rattle.entries.specs.Sets.{Plain, M, has, mark, member, orb, lessb, xorb, set_op, union, intersection, difference, symmetric_difference, complement}
use Rattle.entries.proofs.Cuts.{NotIn, notin_append}
use Rattle.entries.proofs.Canon.{none≢some}
use Rattle.entries.proofs.Sides.{none_under}
use Rattle.entries.proofs.Sets.{complement_lists, symmetric_is}

-- one truth follows from another
imp : Bool → Bool → Type 0
imp a b = a ≡ true → b ≡ true

down_imp : (o o' : Option Value) → Down o o' → imp (has o') (has o)
unfolding imp
down_imp o none d h = cc
down_imp o (some a) d h = ap has (d a refl)

up_imp : (o o' : Option Value) → Up o o' → imp (has o) (has o')
unfolding imp
up_imp none o' d h = cc
up_imp (some a) o' d h = ap has (d a refl)

or_imp : (a b a' b' : Bool) → imp a' a → imp b' b → imp (orb a' b') (orb a b)
unfolding imp
or_imp a b true b' h k q = rw (h refl)
or_imp true b false b' h k q = refl
or_imp false b false b' h k q = k q

and_imp : (a b a' b' : Bool) → imp a' a → imp b' b → imp (andb a' b') (andb a b)
unfolding imp
and_imp a b true b' h k q = rw (h refl) (k q)
and_imp a b false b' h k q = cc

less_imp : (a b a' b' : Bool) → imp a' a → imp b b' → imp (lessb a' b') (lessb a b)
unfolding imp
less_imp a true true true h k q = cc
less_imp a true true false h k q = let w = k refl in cc
less_imp a false true b' h k q = rw (h refl)
less_imp a b false b' h k q = cc

mark_down : (b b' : Bool) → imp b' b → Down (mark b) (mark b')
unfolding imp
mark_down b true h v q = rw (h refl) q
mark_down b false h v q = absurd (none≢some none v refl q)

abbrev set_f : (Bool → Bool → Bool) → Option Value → Option Value → Option Value
set_f g o p = mark (g (has o) (has p))

module _ (a b : List Entry) (sa : Sound a) (sb : Sound b) where
  -- [S14] union: at most n+m ranges
  pub union_bound : length (union a b) ≤ length a + length b
  unfolding union
  union_bound =
      let k = bound (set_f orb) refl a b (lows a ++ lows b) (set_op orb a b) (combined (set_f orb) refl a b) (λ x n.
      let m = notin_append x (lows a) (lows b) n in
      mark_down _ _ (or_imp _ _ _ _ (down_imp (prev (value_at a) x) (value_at a x) (starts a sa x m.0))
      (down_imp (prev (value_at b) x) (value_at b x) (starts b sb x m.1)))) in
      omega (arith, length-append (lows a) (lows b), length_lows a, length_lows b)

  -- [S14] difference: at most n+m ranges
  pub difference_bound : length (difference a b) ≤ length a + length b
  unfolding difference
  difference_bound =
      let k = bound (set_f lessb) refl a b (lows a ++ ends b) (set_op lessb a b) (combined (set_f lessb) refl a b) (λ x n.
      let m = notin_append x (lows a) (ends b) n in
      mark_down _ _ (less_imp _ _ _ _ (down_imp (prev (value_at a) x) (value_at a x) (starts a sa x m.0))
      (up_imp (prev (value_at b) x) (value_at b x) (stops b sb x m.1)))) in
      omega (arith, length-append (lows a) (ends b), length_lows a, length_ends b)

  -- [S14] symmetric difference: at most n+m ranges
  pub symmetric_bound : length (symmetric_difference a b) ≤ length a + length b
  unfolding symmetric_difference
  symmetric_bound =
      let k = change_bound F (symmetric_difference a b) (cuts_of a ++ cuts_of b) (symmetric_is a b).plain lists quiet in
      omega (arith, length-append (cuts_of a) (cuts_of b), length_cuts a, length_cuts b)
    where
      F : ℕ → Option Value
      F x = set_f xorb (value_at a x) (value_at b x)

      lists : ListOf F (symmetric_difference a b)
      lists = combined (set_f xorb) refl a b

      quiet : (x : ℕ) → NotIn x (cuts_of a ++ cuts_of b) → prev F x ≡ F x
      quiet x n = go x (still a sa x m.0) (still b sb x m.1)
        where
          m : NotIn x (cuts_of a) × NotIn x (cuts_of b)
          m = notin_append x (cuts_of a) (cuts_of b) n

          go : (x : ℕ) → prev (value_at a) x ≡ value_at a x → prev (value_at b) x ≡ value_at b x → prev F x ≡ F x
          go zero p q = ap₂ (set_f xorb) p q
          go (suc y) p q = ap₂ (set_f xorb) p q

  over_down : (o p o' p' : Option Value) → Down o o' → Up o o' → Down p p' → Down (or_else o p) (or_else o' p')
  over_down o p (some a) p' d c e v q = rw (d a refl) q
  over_down none p none p' d c e v q = e v q
  over_down (some a) p none p' d c e v q = absurd (none≢some none a refl (c a refl))

  -- a is the upper, b the lower
  -- [M4] at most twice the upper's count plus the lower's
  pub overlay_bound : length (overlay a b) ≤ 2 * length a + length b
  unfolding overlay
  overlay_bound =
      let k = bound or_else refl a b (lows a ++ (ends a ++ lows b)) (combine or_else a b) (combined or_else refl a b) (λ x n.
      let m = notin_append x (lows a) (ends a ++ lows b) n in
      let m' = notin_append x (ends a) (lows b) m.1 in
      over_down (prev (value_at a) x) (prev (value_at b) x) (value_at a x) (value_at b x) (starts a sa x m.0) (stops a sa x m'.0) (starts b sb x m'.1)) in
      omega (arith, length-append (lows a) (ends a ++ lows b), length-append (ends a) (lows b), length_lows a, length_ends a, length_lows b)

  keep_down : (o p o' p' : Option Value) → Down o o' → Down p p' → Down (keep_if o p) (keep_if o' p')
  keep_down o p o' none d e v q = absurd (none≢some none v refl q)
  keep_down o p o' (some u) d e v q = rw (e u refl) (d v q)

  -- a is the map, b the set
  pub restriction_bound : length (restriction a b) ≤ length a + length b
  unfolding restriction
  restriction_bound =
      let k = bound keep_if refl a b (lows a ++ lows b) (combine keep_if a b) (combined keep_if refl a b) (λ x n.
      let m = notin_append x (lows a) (lows b) n in
      keep_down (prev (value_at a) x) (prev (value_at b) x) (value_at a x) (value_at b x) (starts a sa x m.0) (starts b sb x m.1)) in
      omega (arith, length-append (lows a) (lows b), length_lows a, length_lows b)

-- intersection: the lower of the two first lows starts nothing
module _ (e f : Entry) (a b : List Entry) (sa : Sound (e ∷ a)) (sb : Sound (f ∷ b)) where
  P : ℕ → Type 0
  P x = Down (set_f andb (prev (value_at (e ∷ a)) x) (prev (value_at (f ∷ b)) x)) (set_f andb (value_at (e ∷ a) x) (value_at (f ∷ b) x))

  plain : (x : ℕ) → NotIn x (lows (e ∷ a)) → NotIn x (lows (f ∷ b)) → P x
  unfolding P
  plain x m n = mark_down _ _
      (and_imp _ _ _ _ (down_imp (prev (value_at (e ∷ a)) x) (value_at (e ∷ a) x) (starts (e ∷ a) sa x m))
      (down_imp (prev (value_at (f ∷ b)) x) (value_at (f ∷ b) x) (starts (f ∷ b) sb x n)))

  nothing : (o p : Option Value) (t : Bool) → Down (set_f andb o p) (mark (andb t false))
  nothing o p true v q = absurd (none≢some none v refl q)
  nothing o p false v q = absurd (none≢some none v refl q)

  first : e.low ≤ f.low → (x : ℕ) → NotIn x (lows a ++ lows (f ∷ b)) → Dec (x ≡ e.low) → P x
  unfolding P
  first h x n (no p) = let m = notin_append x (lows a) (lows (f ∷ b)) n in plain x (p, m.0) m.1
  first h x n (yes p) =
      let m = notin_append x (lows a) (lows (f ∷ b)) n in
      let w : value_at (f ∷ b) x ≡ none = none_under f b sb x (omega arith) in
      rw w (nothing (prev (value_at (e ∷ a)) x) (prev (value_at (f ∷ b)) x) (has (value_at (e ∷ a) x)))

  second : f.low < e.low → (x : ℕ) → NotIn x (lows (e ∷ a) ++ lows b) → Dec (x ≡ f.low) → P x
  unfolding P
  second h x n (no p) = let m = notin_append x (lows (e ∷ a)) (lows b) n in plain x m.0 (p, m.1)
  second h x n (yes p) =
      let w : value_at (e ∷ a) x ≡ none = none_under e a sa x (omega arith) in
      rw w (nothing (prev (value_at (e ∷ a)) x) (prev (value_at (f ∷ b)) x) false)

  -- [S14] intersection: at most n+m-1 ranges, where neither has none
  pub intersection_bound : length (intersection (e ∷ a) (f ∷ b)) ≤ length (e ∷ a) + length (f ∷ b) - 1
  unfolding intersection P
  intersection_bound = go (dec_le e.low f.low)
    where
      es : List Entry
      es = set_op andb (e ∷ a) (f ∷ b)

      go : Dec (e.low ≤ f.low) → length es ≤ length (e ∷ a) + length (f ∷ b) - 1
      go (yes h) =
          let k = bound (set_f andb) refl (e ∷ a) (f ∷ b) (lows a ++ lows (f ∷ b)) es (combined (set_f andb) refl (e ∷ a) (f ∷ b))
          (λ x n. first h x n (ℕ_discrete x e.low)) in
          omega (arith, length-append (lows a) (lows (f ∷ b)), length_lows a, length_lows b)
      go (no h) =
          let k = bound (set_f andb) refl (e ∷ a) (f ∷ b) (lows (e ∷ a) ++ lows b) es (combined (set_f andb) refl (e ∷ a) (f ∷ b))
          (λ x n. second (omega arith) x n (ℕ_discrete x f.low)) in
          omega (arith, length-append (lows (e ∷ a)) (lows b), length_lows a, length_lows b)

-- [S14] complement: at most n+1 ranges
pub complement_bound : (a : List Entry) → Sound a → length (complement a) ≤ length a + 1
unfolding imp
complement_bound a sa =
    let k = start_bound F (complement a) (0 ∷ ends a) (complement_lists a) go in
    omega (arith, length_ends a)
  where
    F : ℕ → Option Value
    F x = mark (lessb (leb x M) (member a x))

    go : StartsIn F (0 ∷ ends a)
    go zero n v q = absurd (n.0 refl)
    go (suc y) n v q =
        mark_down _ _ (less_imp (leb y M) (member a y) (leb (suc y) M) (member a (suc y)) (smaller y)
        (up_imp (value_at a y) (value_at a (suc y)) (stops a sa (suc y) n.1))) v q
      where
        smaller : (y : ℕ) → imp (leb (suc y) M) (leb y M)
        smaller y h = le-leb y M (omega (arith, leb-true (suc y) M h))

-- AN EDIT: o on a..b. Nothing starts but at a, right after b, or where it started before.
module _ (es : List Entry) (a b : ℕ) (ab : a ≤ b) (o : Option Value) (s : Sound es) where
  put_down : (x : ℕ) → NotIn x (lows es) → x ≢ a → (x ≡ suc b → Down (prev (with es a b o) x) (with es a b o x))
      → Down (prev (with es a b o) x) (with es a b o x)
  put_down zero n p q = λ v r. starts es s zero n v (sym (with_under es a b o zero (omega arith)) ∙ r)
  put_down (suc y) n p q = go (dec_le (suc y) b) (dec_lt (suc y) a) (ℕ_discrete (suc y) (suc b))
    where
      go : Dec (suc y ≤ b) → Dec (suc y < a) → Dec (suc y ≡ suc b) → Down (with es a b o y) (with es a b o (suc y))
      go d (yes h) e v r = with_under es a b o y (omega arith) ∙ starts es s (suc y) n v (sym (with_under es a b o (suc y) h) ∙ r)
      go (yes k) (no h) e v r = with_in es a b o y (omega arith) (omega arith) ∙ sym (with_in es a b o (suc y) (omega arith) k) ∙ r
      go (no k) (no h) (yes e) v r = q e v r
      go (no k) (no h) (no e) v r = with_past es a b o y (omega arith) ∙ starts es s (suc y) n v (sym (with_past es a b o (suc y) (omega arith)) ∙ r)

  -- [M2] at most n+2 entries after an assignment
  pub put_bound : length (put es a b o) ≤ length es + 2
  put_bound =
      let k = start_bound (with es a b o) (put es a b o) (a ∷ suc b ∷ lows es) (put_is es a b o)
      (λ x n. put_down x n.1.1 n.0 (λ e. absurd (n.1.0 e))) in
      omega (arith, length_lows es)

-- [S14, M3] at most n+1 items after a removal or an erasure
pub erase_bound : (es : List Entry) (a b : ℕ) → a ≤ b → Sound es → length (put es a b none) ≤ length es + 1
erase_bound es a b ab s =
    let k = start_bound (with es a b none) (put es a b none) (suc b ∷ lows es) (put_is es a b none) (λ x n. go x n (ℕ_discrete x a)) in
    omega (arith, length_lows es)
  where
    go : (x : ℕ) → NotIn x (suc b ∷ lows es) → Dec (x ≡ a) → Down (prev (with es a b none) x) (with es a b none x)
    go x n (no p) = put_down es a b ab none s x n.1 p (λ e. absurd (n.0 e))
    go x n (yes p) = λ v r. absurd (none≢some _ _ (with_in es a b none x (omega arith) (omega arith)) r)

-- [S14] at most n+1 ranges after an insertion
pub insert_bound : (es : List Entry) (a b : ℕ) → a ≤ b → Sound es → Plain es → length (put es a b (some [])) ≤ length es + 1
insert_bound es a b ab s f =
    let k = start_bound (with es a b (some [])) (put es a b (some [])) (a ∷ lows es) (put_is es a b (some []))
    (λ x n. put_down es a b ab (some []) s x n.1 n.0 (λ e. joined x e)) in
    omega (arith, length_lows es)
  where
    joined : (x : ℕ) → x ≡ suc b → Down (prev (with es a b (some [])) x) (with es a b (some []) x)
    joined zero e v r = absurd (omega arith)
    joined (suc y) e v r =
        with_in es a b (some []) y (omega arith) (omega arith)
        ∙ ap some (sym (plain_marks es f (suc y) v (sym (with_past es a b (some []) (suc y) (omega arith)) ∙ r)))

-- [M6] `domain` is the sound list of the numbers that have a value
pub domain_lists : (es : List Entry) → ListOf (λ x. mark (member es x)) (domain es)
unfolding domain
domain_lists es = built (λ x. mark (member es x)) (end_of es) (cuts_of es) (λ y h. ap (λ (o : Option Value). mark (has o)) (value_ends es y h))
    (λ y n. ap (λ (o : Option Value). mark (has o)) (value_changes es y n))

-- [M6] and it has no more ranges than the map has entries
pub domain_bound : (es : List Entry) → Sound es → length (domain es) ≤ length es
unfolding imp
domain_bound es s =
    let k = start_bound (λ x. mark (member es x)) (domain es) (lows es) (domain_lists es) go in
    omega (arith, length_lows es)
  where
    go : StartsIn (λ x. mark (member es x)) (lows es)
    go zero n v q = absurd (none≢some _ _ (first (value_at es zero) (starts es s zero n)) q)
      where
        first : (o : Option Value) → Down none o → mark (has o) ≡ none
        first none d = refl
        first (some u) d = absurd (none≢some none u refl (d u refl))
    go (suc y) n v q = mark_down (member es y) (member es (suc y)) (down_imp (value_at es y) (value_at es (suc y)) (starts es s (suc y) n)) v q
