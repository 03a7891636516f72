-- What a sweep lists, and that with its table it gives each operation by that operation's own definition.
use mathlib.Core.Path.{◌≡◌, refl, sym, ◌∙◌, ap, ap₂}
use mathlib.Core.Logic.{◌≢◌}
use mathlib.Core.Bool.{Bool, true, false}
use mathlib.Core.Option.{Option, none, some}
use mathlib.Core.List.{List, [], ◌∷◌, ◌++◌}
use Prim.Native.Nat.{ℕ, zero, suc, ◌+◌, ◌-◌, ◌≤◌, ◌<◌}
use native.Mathlib.Omega.{arith}
use native.Mathlib.Decide.{dec_lt}
use native.Mathlib.Nat.{mul-zero}
use lib.ListN.{length, get_or, take, drop}
use lib.Seq.{get_or-drop, take_all}
use lib.Dec.{leb, ltb}
use borrow.Author.Tests.{lt-ltb, le-ltb, le-leb, lt-leb}
use Rattle.entries.specs.Entries.{Value, Entry, or_else, both, value_at, ListOf}
use Rattle.entries.specs.Build.{pick, andb, combine, cuts_of}
use Rattle.entries.specs.Sets.{M, has, mark, member, orb, lessb, xorb, set_op, union, intersection, difference, symmetric_difference, complement, past_m}
use Rattle.entries.specs.Maps.{overlay, keep_if, restriction, domain}
use Rattle.entries.specs.Bulletins.{amended}
use Rattle.entries.proofs.Values.{true≢false}
use Rattle.entries.proofs.Sides.{at_past}
use Rattle.entries.proofs.Canon.{unique}
use Rattle.entries.proofs.Cuts.{notin_append, Changes}
use Rattle.entries.proofs.Building.{built}
use Rattle.entries.proofs.Operations.{end_of, value_changes, value_ends, combined}
use Rattle.entries.proofs.Taut.{taut2}
use Rattle.entries.proofs.Sets.{difference_is, complement_lists}
use Rattle.blocks.specs.Blocks.{item_of, items_of, entries_of, SoundBlock, Lent, Shaped}
use Rattle.blocks.specs.declared.Layout.{Layout}
use Rattle.blocks.proofs.Judging.{room_words}
use Rattle.sweeps.specs.Sweeps.{accepts, first_of, mixed, swept, sweep_result, Input, Bounded, width_of, Fit, in_either, in_both, first_alone}
use Rattle.sweeps.specs.Sweeps.{just_one, not_first, in_first, amending}

-- the sweep's function, and its list
module _ (t s : ℕ) (es fs gs : List Entry) where
  pub swept_above : (y : ℕ) → past_m ≤ y → swept t s es fs gs y ≡ none
  unfolding swept
  swept_above y h = rw (le-ltb y past_m h)

  pub result_is : ListOf (swept t s es fs gs) (sweep_result t s es fs gs)
  unfolding swept sweep_result
  result_is = built (swept t s es fs gs) past_m (past_m ∷ cuts_of es ++ (cuts_of fs ++ cuts_of gs)) swept_above changes
    where
      side : (y : ℕ) → suc y ≢ past_m → Dec (suc y < past_m) → ltb (suc y) past_m ≡ ltb y past_m
      side y n (yes p) = lt-ltb (suc y) past_m p ∙ sym (lt-ltb y past_m (omega arith))
      side y n (no p) = le-ltb (suc y) past_m (omega arith) ∙ sym (le-ltb y past_m (omega arith))

      changes : Changes (swept t s es fs gs) (past_m ∷ cuts_of es ++ (cuts_of fs ++ cuts_of gs))
      changes y n =
          let m = notin_append (suc y) (cuts_of es) (cuts_of fs ++ cuts_of gs) n.1 in
          let k = notin_append (suc y) (cuts_of fs) (cuts_of gs) m.1 in
          rw (side y n.0 (dec_lt (suc y) past_m), value_changes es y m.0, value_changes fs y k.0, value_changes gs y k.1)

  -- any list of the same function is the result
  pub result_of_lem : (F : ℕ → Option Value) (hs : List Entry) → ListOf F hs → ((x : ℕ) → swept t s es fs gs x ≡ F x) → sweep_result t s es fs gs ≡ hs
  result_of_lem F hs l h = unique (swept t s es fs gs) _ hs result_is (record { sound = l.sound; names = λ x. l.names x ∙ sym (h x) })

  -- where nothing is named above M, the sweep's function is `mixed`
  pub swept_mixed : Bounded es → Bounded fs → Bounded gs → mixed t s none none none ≡ none → (x : ℕ)
      → swept t s es fs gs x ≡ mixed t s (value_at es x) (value_at fs x) (value_at gs x)
  unfolding swept
  swept_mixed p q r z x = go (dec_lt x past_m)
    where
      go : Dec (x < past_m) → pick (ltb x past_m) (mixed t s (value_at es x) (value_at fs x) (value_at gs x)) none ≡ mixed t s (value_at es x)
          (value_at fs x) (value_at gs x)
      go (yes h) = rw (lt-ltb x past_m h)
      go (no h) = rw (le-ltb x past_m (omega arith), p x (omega arith), q x (omega arith), r x (omega arith)) (sym z)

-- an operation on two lists
two_lists : (t s : ℕ) (f : Option Value → Option Value → Option Value) (es fs : List Entry) → Bounded es → Bounded fs → f none none ≡ none
    → mixed t s none none none ≡ none
    → ((x : ℕ) → mixed t s (value_at es x) (value_at fs x) none ≡ f (value_at es x) (value_at fs x)) → sweep_result t s es fs [] ≡ combine f es fs
two_lists t s f es fs p q z y h =
    result_of_lem t s es fs [] (λ x. f (value_at es x) (value_at fs x)) (combine f es fs) (combined f z es fs)
    (λ x. swept_mixed t s es fs [] p q (λ x h. refl) y x ∙ h x)

-- a set: its value has no words
mixed_set : (t : ℕ) (o p q : Option Value) → mixed t 2 o p q ≡ mark (accepts t (has o) (has p) (has q))
unfolding mixed
mixed_set t o p q = go (accepts t (has o) (has p) (has q))
  where
    go : (b : Bool) → pick b (some (take (2 - 2) (first_of o p q))) none ≡ mark b
    go true = refl
    go false = refl

set_table : (t : ℕ) (g : Bool → Bool → Bool) → ((a b : Bool) → accepts t a b false ≡ g a b) → g false false ≡ false → (es fs : List Entry)
    → Bounded es → Bounded fs
    → sweep_result t 2 es fs [] ≡ set_op g es fs
set_table t g h z es fs p q =
    two_lists t 2 (λ o r. mark (g (has o) (has r))) es fs p q (ap mark z) (mixed_set t none none none ∙ ap mark (h false false ∙ z))
    (λ x. mixed_set t (value_at es x) (value_at fs x) none ∙ ap mark (h (member es x) (member fs x)))

pub union_table : (es fs : List Entry) → Bounded es → Bounded fs → sweep_result in_either 2 es fs [] ≡ union es fs
unfolding union accepts
union_table = set_table in_either orb (taut2 (λ a b. accepts in_either a b false) orb tt) refl

pub intersection_table : (es fs : List Entry) → Bounded es → Bounded fs → sweep_result in_both 2 es fs [] ≡ intersection es fs
unfolding intersection accepts
intersection_table = set_table in_both andb (taut2 (λ a b. accepts in_both a b false) andb tt) refl

pub difference_table : (es fs : List Entry) → Bounded es → Bounded fs → sweep_result first_alone 2 es fs [] ≡ difference es fs
unfolding difference accepts
difference_table = set_table first_alone lessb (taut2 (λ a b. accepts first_alone a b false) lessb tt) refl

pub symmetric_table : (es fs : List Entry) → Bounded es → Bounded fs → sweep_result just_one 2 es fs [] ≡ symmetric_difference es fs
unfolding symmetric_difference accepts
symmetric_table = set_table just_one xorb (taut2 (λ a b. accepts just_one a b false) xorb tt) refl

-- `domain` keeps the numbers that have a value
pub domain_table : (es : List Entry) → Bounded es → sweep_result in_first 2 es [] [] ≡ domain es
unfolding domain accepts
domain_table es p =
    result_of_lem in_first 2 es [] [] (λ x. mark (member es x)) (domain es)
    (built (λ x. mark (member es x)) (end_of es) (cuts_of es) (λ y h. ap (λ (o : Option Value). mark (has o)) (value_ends es y h))
    (λ y n. ap (λ (o : Option Value). mark (has o)) (value_changes es y n)))
    (λ x. swept_mixed in_first 2 es [] [] p (λ x h. refl) (λ x h. refl) (mixed_set in_first none none none) x
    ∙ mixed_set in_first (value_at es x) none none ∙ ap mark (kept (member es x)))
  where
    kept : (a : Bool) → accepts in_first a false false ≡ a
    kept true = refl
    kept false = refl

pub complement_table : (es : List Entry) → sweep_result not_first 2 es [] [] ≡ complement es
unfolding swept accepts
complement_table es =
    result_of_lem not_first 2 es [] [] (λ x. mark (lessb (leb x M) (member es x))) (complement es) (complement_lists es)
    (λ x. ap₂ (λ (l : Bool) (o : Option Value). pick l o none) (upto x (dec_lt x past_m)) (mixed_set not_first (value_at es x) none none)
    ∙ left (leb x M) (member es x))
  where
    upto : (x : ℕ) → Dec (x < past_m) → ltb x past_m ≡ leb x M
    upto x (yes h) = lt-ltb x past_m h ∙ sym (le-leb x M (omega arith))
    upto x (no h) = le-ltb x past_m (omega arith) ∙ sym (lt-leb x M (omega arith))

    left : (l a : Bool) → pick l (mark (accepts not_first a false false)) none ≡ mark (lessb l a)
    left true true = refl
    left true false = refl
    left false a = refl

-- a bulletin on a list: the list first, then what is released, then what is withdrawn
pub amended_table : (s r w : List Entry) → Bounded s → Bounded r → Bounded w → sweep_result amending 2 s r w ≡ amended s r w
unfolding union accepts
amended_table s r w p q n =
    result_of_lem amending 2 s r w (λ x. mark (orb (member (difference s w) x) (member r x))) (amended s r w)
    (combined (λ o u. mark (orb (has o) (has u))) refl (difference s w) r)
    (λ x. swept_mixed amending 2 s r w p q n (mixed_set amending none none none) x ∙ mixed_set amending (value_at s x) (value_at r x) (value_at w x)
    ∙ ap mark (table (member s x) (member r x) (member w x))
    ∙ ap (λ (a : Bool). mark (orb a (member r x))) (sym ((difference_is s w).members x)))
  where
    table : (a b c : Bool) → accepts amending a b c ≡ orb (lessb a c) b
    table true b true = one b
      where
        one : (b : Bool) → accepts amending true b true ≡ b
        one true = refl
        one false = refl
    table true true false = refl
    table true false false = refl
    table false true true = refl
    table false true false = refl
    table false false true = refl
    table false false false = refl

-- values of s - 2 words
abbrev Sized : ℕ → Option Value → Type 0
Sized s none = Unit {0}
Sized s (some v) = 2 + length v ≡ s

shaped_at : (s : ℕ) (es : List Entry) (x : ℕ) → Shaped s es → Sized s (value_at es x)
shaped_at s [] x h = tt
shaped_at s (e ∷ es) x h = go (leb e.low x) (leb x e.high) (value_at es x) (shaped_at s es x h.1)
  where
    go : (t u : Bool) (o : Option Value) → Sized s o → Sized s (or_else (both t u e.value) o)
    go true true o k = h.0
    go true false o k = k
    go false u o k = k

whole : (s : ℕ) (v : Value) → 2 + length v ≡ s → take (s - 2) v ≡ v
whole s v h = take_all (s - 2) v (omega arith)

pub overlay_table : (s : ℕ) (es fs : List Entry) → Bounded es → Bounded fs → Shaped s es → Shaped s fs → sweep_result in_either s es fs [] ≡ overlay es fs
unfolding overlay mixed accepts
overlay_table s es fs p q h k =
    two_lists in_either s or_else es fs p q refl refl (λ x. go (value_at es x) (value_at fs x) (shaped_at s es x h) (shaped_at s fs x k))
  where
    go : (o r : Option Value) → Sized s o → Sized s r → mixed in_either s o r none ≡ or_else o r
    go none none a b = refl
    go none (some v) a b = ap some (whole s v b)
    go (some u) none a b = ap some (whole s u a)
    go (some u) (some v) a b = ap some (whole s u a)

pub restriction_table : (s : ℕ) (es fs : List Entry) → Bounded es → Bounded fs → Shaped s es → sweep_result in_both s es fs [] ≡ restriction es fs
unfolding restriction mixed accepts
restriction_table s es fs p q h = two_lists in_both s keep_if es fs p q refl refl (λ x. go (value_at es x) (value_at fs x) (shaped_at s es x h))
  where
    go : (o r : Option Value) → Sized s o → mixed in_both s o r none ≡ keep_if o r
    go none none a = refl
    go none (some v) a = refl
    go (some u) none a = refl
    go (some u) (some v) a = ap some (whole s u a)

-- no word is above M, so no entry is
pub bounded : (s : ℕ) (w : List ℕ) → Lent w → Bounded (entries_of s w)
bounded s w f x h = go (get_or w 0 0) (drop 1 w) (λ j. rw (get_or-drop 1 w j 0) (f (1 + j)))
  where
    go : (n : ℕ) (ws : List ℕ) → Lent ws → value_at (items_of s n ws) x ≡ none
    go zero ws k = refl
    go (suc n) ws k = rw (at_past (item_of s ws) x (omega (arith, k 1))) (go n (drop s ws) (λ j. rw (get_or-drop s ws j 0) (k (s + j))))

-- a judged block is an input
pub input : {l : Layout} {w : List ℕ} → SoundBlock l w → 2 ≤ l.width → l.width ≤ 4 → Lent w → Input l.width w
input {l} {w} b p q f =
    record { two = p; four = q; some = b.some; held = room_words l (length w) (get_or w 0 0) b.some b.fits; sound = b.sound; words = f }

-- the plans that fit: any table for a set; overlay and restriction for a map
pub fit_set : (t sa sb sc : ℕ) → 2 ≤ sa → 2 ≤ sb → 2 ≤ sc → Fit t 2 sa sb sc
fit_set t sa sb sc p q r = record { two = omega arith; four = omega arith; wide = λ a b c h. go a b c }
  where
    go : (a b c : Bool) → 2 ≤ width_of sa sb sc a b c
    go true b c = p
    go false true c = q
    go false false true = r
    go false false false = omega arith

pub fit_overlay : (s sc : ℕ) → 2 ≤ s → s ≤ 4 → Fit in_either s s s sc
unfolding accepts
fit_overlay s sc p q = record { two = p; four = q; wide = go }
  where
    go : (a b c : Bool) → accepts in_either a b c ≡ true → s ≤ width_of s s sc a b c
    go true b c h = omega arith
    go false true c h = omega arith
    go false false true h = absurd (true≢false (sym h))
    go false false false h = absurd (true≢false (sym h))

pub fit_restriction : (s sb sc : ℕ) → 2 ≤ s → s ≤ 4 → Fit in_both s s sb sc
unfolding accepts
fit_restriction s sb sc p q = record { two = p; four = q; wide = go }
  where
    go : (a b c : Bool) → accepts in_both a b c ≡ true → s ≤ width_of s sb sc a b c
    go true b c h = omega arith
    go false true true h = absurd (true≢false (sym h))
    go false true false h = absurd (true≢false (sym h))
    go false false true h = absurd (true≢false (sym h))
    go false false false h = absurd (true≢false (sym h))

-- the block of no items, for an operation on fewer lists
pub none_input : (s : ℕ) → 2 ≤ s → s ≤ 4 → Input s (0 ∷ [])
none_input s p q = record { two = p; four = q; some = omega arith; held = omega (arith, mul-zero s); sound = tt; words = zeros }
  where
    zeros : Lent (0 ∷ [])
    zeros zero = omega arith
    zeros (suc j) = omega arith
