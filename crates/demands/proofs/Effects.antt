-- Bulletins with the same effect hold the same ranges: said at each serial, and of what the calls do to every list.
use mathlib.Core.Path.{◌≡◌, refl, sym, ◌∙◌, ap, ap₂}
use mathlib.Core.Bool.{Bool, true, false}
use mathlib.Core.List.{List, [], ◌∷◌}
use Prim.Native.Nat.{ℕ, zero, suc, ◌≤◌, ◌<◌}
use native.Mathlib.Omega.{arith}
use native.Mathlib.Decide.{dec_lt}
use lib.Dec.{lit<}
use lib.ListN.{length, get_or, replicate, length-replicate}
use borrow.Author.Tests.{le-leb, le-ltb}
use Rattle.entries.specs.Entries.{Entry, entry}
use Rattle.entries.specs.Sets.{M, has, member}
use Rattle.entries.specs.Build.{andb}
use Rattle.entries.specs.Bulletins.{amend}
use Rattle.entries.proofs.Values.{true≢false}
use Rattle.entries.proofs.Sides.{val_past, val_under}
use Rattle.entries.proofs.Plain.{set_canonical}
use Rattle.entries.proofs.Bulletins.{amended_is}
use Rattle.answers.specs.Answers.{Clear}
use Rattle.answers.proofs.Turns.{clear_turn}
use Rattle.blocks.specs.Blocks.{set_layout, capacity, entries_of, block_of, verdict, Lent}
use Rattle.blocks.specs.Calls.{no_room}
use Rattle.blocks.proofs.Items.{entries_count}
use Rattle.blocks.proofs.Judging.{verdict_sound}
use Rattle.blocks.proofs.Words.{lent_cons, lent_zeros}
use Rattle.sets.proofs.Asking.{entries_plain}
use Rattle.bulletins.specs.Calls.{amended_with, apply_refusals, apply_call}
use Rattle.demands.specs.Plain.{SoundSet, In, leaves}
use Rattle.demands.specs.Bulletins.{Bulletin, Effect, SameEffect, SameApplied}
use Rattle.demands.proofs.Bulletins.{apart_overlap, amended_entries, applied, same_effect}

pub same_effects : SameEffect
same_effects r w r' w' b b' lr lw lr' lw' h = same_effect r w r' w' b b' lr lw lr' lw' h

-- a block of words for the longest list, and the two lists by which a bulletin is told: the empty one, and one of a single number
longest : List ℕ
longest = replicate 8191 0

abbrev nothing : List ℕ
nothing = 0 ∷ []

abbrev alone : ℕ → List ℕ
alone x = 1 ∷ x ∷ x ∷ []

longest_room : capacity set_layout (length longest) ≡ 4095
unfolding longest
longest_room = ap (capacity set_layout) (length-replicate {A = ℕ} 8191 0)

longest_lent : Lent longest
unfolding longest
longest_lent = lent_zeros 8191

nothing_sound : SoundSet nothing
unfolding verdict
nothing_sound = refl

alone_sound : (x : ℕ) → SoundSet (alone x)
unfolding verdict
alone_sound x = rw (le-leb x x (omega arith))

nothing_lent : Lent nothing
nothing_lent zero = lit< tt
nothing_lent (suc j) = lit< tt

alone_lent : (x : ℕ) → x ≤ M → Lent (alone x)
alone_lent x h = lent_cons 1 (x ∷ x ∷ []) (lit< tt) (lent_cons x (x ∷ []) (omega arith) (lent_cons x [] (omega arith) (λ j. lit< tt)))

-- no other number is in it
alone_other : (x z : ℕ) → (z ≡ x → ⊥) → In (alone x) z ≡ false
alone_other x z n = go (dec_lt z x) (dec_lt x z)
  where
    go : Dec (z < x) → Dec (x < z) → In (alone x) z ≡ false
    go (yes h) q = ap has (val_under (entry x x []) [] z h)
    go (no g) (yes h) = ap has (val_past (entry x x []) [] z h)
    go (no g) (no h) = absurd (n (omega arith))

-- a bulletin applied to a list where the result is what it releases: accepted into the longest block, with these ranges
module _ (r w list : List ℕ) (b : Bulletin r w) (s : SoundSet list) (e : amended_with list r w ≡ entries_of 2 r) where
  fits : no_room set_layout (length longest) (amended_with list r w) ≡ 0
  fits =
      let d = verdict_sound set_layout r b.released_sound in
      let k : length (amended_with list r w) ≤ capacity set_layout (length longest) =
      omega (arith, ap length e, entries_count 2 (omega arith) r (get_or r 0 0) refl, d.fits, longest_room) in
      rw (le-ltb (capacity set_layout (length longest)) (length (amended_with list r w)) k)

  words : apply_call list r w longest ≡ leaves (block_of (length longest) (amended_with list r w))
  unfolding apply_call longest
  words = clear_turn (apply_refusals list r w (length longest)) (longest ∷ []) _ clears
    where
      clears : Clear (apply_refusals list r w (length longest))
      clears = (
        s,
        (b.released_sound, (b.withdrawn_sound, (refl, (apart_overlap (entries_of 2 r) (entries_of 2 w) b.apart, (fits, tt))))),
      )

  -- another bulletin that leaves the same words there leaves these ranges
  told : (r' w' : List ℕ) → apply_call list r w longest ≡ apply_call list r' w' longest → amended_with list r' w' ≡ entries_of 2 r
  told r' w' h =
      let a = applied list r' w' longest (block_of (length longest) (amended_with list r w)) (sym h ∙ words) in
      sym (amended_entries (length longest) (entries_of 2 list) (entries_of 2 r') (entries_of 2 w'))
      ∙ ap (entries_of 2) (sym a.words)
      ∙ amended_entries (length longest) (entries_of 2 list) (entries_of 2 r) (entries_of 2 w)
      ∙ e

-- what a bulletin makes of a list by members is what it makes of it
module _ (r w list : List ℕ) (b : Bulletin r w) where
  by_members : ((z : ℕ) → amend (In list z) (In r z) (In w z) ≡ In r z) → amended_with list r w ≡ entries_of 2 r
  by_members h =
      let a = amended_is (entries_of 2 list) (entries_of 2 r) (entries_of 2 w) in
      set_canonical (amended_with list r w) (entries_of 2 r) a.sound (verdict_sound set_layout r b.released_sound).sound a.plain (entries_plain r)
      (λ z. a.members z ∙ h z)

  listed : (z : ℕ) (es : List Entry) → amended_with list r w ≡ es → amend (In list z) (In r z) (In w z) ≡ member es z
  listed z es e = sym ((amended_is (entries_of 2 list) (entries_of 2 r) (entries_of 2 w)).members z) ∙ ap (λ (l : List Entry). member l z) e

-- a number that is withdrawn, and not released: a list with it alone becomes what is released
withdrawn_alone : (r w : List ℕ) (x : ℕ) → Bulletin r w → In w x ≡ true → In r x ≡ false → amended_with (alone x) r w ≡ entries_of 2 r
withdrawn_alone r w x b p q = by_members r w (alone x) b (λ z. go z (dec_lt z x) (dec_lt x z))
  where
    off : (s : Bool) → amend s false true ≡ false
    off true = refl
    off false = refl

    go : (z : ℕ) → Dec (z < x) → Dec (x < z) → amend (In (alone x) z) (In r z) (In w z) ≡ In r z
    go z (yes h) d = ap (λ (s : Bool). amend s (In r z) (In w z)) (alone_other x z (λ e. omega arith))
    go z (no g) (yes h) = ap (λ (s : Bool). amend s (In r z) (In w z)) (alone_other x z (λ e. omega arith))
    go z (no g) (no h) =
        let e : z ≡ x = omega arith in
        rw e (ap₂ (amend (In (alone x) x)) q p ∙ off (In (alone x) x) ∙ sym q)

module _ (r w r' w' : List ℕ) (b : Bulletin r w) (b' : Bulletin r' w')
    (h : (list out : List ℕ) → Lent list → Lent out → apply_call list r w out ≡ apply_call list r' w' out) where
  -- the empty list tells what is released
  released_same : entries_of 2 r' ≡ entries_of 2 r
  released_same =
      let e = told r w nothing b nothing_sound (by_members r w nothing b (λ z. refl)) r' w' (h nothing longest nothing_lent longest_lent) in
      sym (by_members r' w' nothing b' (λ z. refl)) ∙ e

  -- and the list of x alone whether it is withdrawn
  withdrawn_too : (x : ℕ) → x ≤ M → In w x ≡ true → In w' x ≡ true
  withdrawn_too x m p =
      let q = apart_side (In r x) (In w x) p (b.apart x) in
      let e = told r w (alone x) b (alone_sound x) (withdrawn_alone r w x b p q) r' w' (h (alone x) longest (alone_lent x m) longest_lent) in
      here (In (alone x) x) (In r' x) (In w' x) (in_alone x)
      (listed r' w' (alone x) b' x (entries_of 2 r) e ∙ q)
    where
      apart_side : (s t : Bool) → t ≡ true → andb s t ≡ false → s ≡ false
      apart_side true t p e = absurd (true≢false (sym p ∙ e))
      apart_side false t p e = refl

      in_alone : (x : ℕ) → In (alone x) x ≡ true
      in_alone x = rw (le-leb x x (omega arith))

      here : (s t u : Bool) → s ≡ true → amend s t u ≡ false → u ≡ true
      here s t true e f = refl
      here true true false e f = absurd (true≢false f)
      here true false false e f = absurd (true≢false f)
      here false t false e f = absurd (true≢false (sym e))

pub same_applied : SameApplied
same_applied r w r' w' b b' lr lw lr' lw' h = same_effect r w r' w' b b' lr lw lr' lw' effects
  where
    back : (list out : List ℕ) → Lent list → Lent out → apply_call list r' w' out ≡ apply_call list r w out
    back list out l m = sym (h list out l m)

    both : (s t : Bool) → (s ≡ true → t ≡ true) → (t ≡ true → s ≡ true) → s ≡ t
    both true t f g = sym (f refl)
    both false true f g = g refl
    both false false f g = refl

    effects : (listed : Bool) (x : ℕ) → x ≤ M → Effect r w listed x ≡ Effect r' w' listed x
    effects listed x m =
        ap₂ (amend listed) (ap (λ (es : List Entry). member es x) (sym (released_same r w r' w' b b' h)))
        (both (In w x) (In w' x) (withdrawn_too r w r' w' b b' h x m) (withdrawn_too r' w' r w b' b back x m))
