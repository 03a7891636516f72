-- Where a number sits: the statements of specs/Seats.
use mathlib.Core.Path.{◌≡◌, refl, sym, ◌∙◌, ap, subst}
use mathlib.Core.Logic.{◌⊎◌, inl, inr}
use mathlib.Core.Bool.{Bool, true, false, not}
use mathlib.Core.List.{List, [], ◌∷◌}
use Prim.Native.Nat.{ℕ, suc, ◌+◌, ◌*◌, ◌-◌, ◌≤◌, ◌<◌}
use native.Mathlib.Omega.{arith}
use native.Mathlib.Decide.{dec_lt}
use lib.Dec.{leb, ltb}
use lib.IntN.{ℤ, pos, negsuc}
use lib.Signed.{lt_z, le_z}
use lib.ListN.{length, get_or}
use borrow.Author.Tests.{le-leb, lt-leb, lt-ltb, le-ltb}
use Rattle.keys.specs.Keys.{word_of, key_of}
use Rattle.entries.specs.Entries.{Entry, value_at}
use Rattle.entries.specs.Sets.{has}
use Rattle.entries.specs.Questions.{bit, wholly_below}
use Rattle.entries.proofs.Values.{true≢false}
use Rattle.answers.specs.Answers.{outcome, seated}
use Rattle.blocks.specs.Blocks.{set_layout, entries_of, SoundBlock}
use Rattle.blocks.proofs.Judging.{verdict_sound}
use Rattle.searches.specs.Steps.{FirstFrom, SpotOf}
use Rattle.searches.proofs.Finding.{highs, item_order, items_apart}
use Rattle.searches.proofs.Spots.{spot_first}
use Rattle.searches.proofs.Ends.{first_by, one_first, holding, out}
use Rattle.sets.specs.Calls.{member_call, range_at_call}
use Rattle.demands.specs.Plain.{Iff, SoundSet, InRange, In, answers, yes_with, no_with}
use Rattle.demands.specs.Seats.{MemberIs, CountBelow, MemberCount, Holds, HeldAt, Beside, NextTo, MemberHolder, MemberNeighbours}
use Rattle.demands.specs.Seats.{SeatKey}
use Rattle.demands.proofs.Questions.{in_set, seated_sound, range_at_means}
use Rattle.demands.proofs.Signed.{up_to, down_to, in_keys_lem}
use Rattle.demands.proofs.Outcomes.{iff_by}

pub member_is : MemberIs
member_is w x s = seated_sound w x s ∙ go (In w x)
  where
    go : (t : Bool) → outcome (seated t (length (wholly_below x (entries_of 2 w)))) [] ≡ answers (bit t ∷ length (wholly_below x (entries_of 2 w)) ∷ [])
    go true = refl
    go false = refl

-- what an answer with a count says
says_yes : (t : Bool) (c i : ℕ) → outcome (seated t c) [] ≡ yes_with i → (t ≡ true) × (c ≡ i)
says_yes true c i e = (refl, cc)
says_yes false c i e = let z : ◌≡◌ {A = ℕ} 0 1 = cc in absurd (omega arith)

says_no : (t : Bool) (c i : ℕ) → outcome (seated t c) [] ≡ no_with i → (t ≡ false) × (c ≡ i)
says_no true c i e = let z : ◌≡◌ {A = ℕ} 1 0 = cc in absurd (omega arith)
says_no false c i e = (refl, cc)

-- OF A SOUND BLOCK
module _ (w : List ℕ) (s : SoundSet w) where
  abbrev n : ℕ
  n = get_or w 0 0

  abbrev es : List Entry
  es = entries_of 2 w

  block : SoundBlock set_layout w
  block = verdict_sound set_layout w s

  -- the words of its ranges, as the requirements count them and as the code does
  low_is : (k : ℕ) → get_or w (1 + 2 * k) 0 ≡ get_or w (2 * k + 1) 0
  low_is k = let p : 1 + 2 * k ≡ 2 * k + 1 = omega arith in ap (λ (q : ℕ). get_or w q 0) p

  high_is : (k : ℕ) → get_or w (2 + 2 * k) 0 ≡ get_or w (2 * k + 2) 0
  high_is k = let p : 2 + 2 * k ≡ 2 * k + 2 = omega arith in ap (λ (q : ℕ). get_or w q 0) p

  in_order : (k : ℕ) → k < n → get_or w (2 * k + 1) 0 ≤ get_or w (2 * k + 2) 0
  in_order = item_order (omega arith) block refl

  apart : (i j : ℕ) → i < j → j < n → get_or w (2 * i + 2) 0 < get_or w (2 * j + 1) 0
  apart = items_apart (omega arith) block refl

  module _ (x : ℕ) where
    abbrev below : ℕ
    below = length (wholly_below x es)

    sits : SpotOf set_layout w x (record { below = below; inside = has (value_at es x) })
    sits = record { below = refl; inside = refl }

    first : FirstFrom w 2 2 n x below
    first = spot_first (omega arith) block sits

    -- the count, by the ranges beside it
    count_is : (i : ℕ) → i ≤ n → ((k : ℕ) → suc k ≡ i → get_or w (2 * k + 2) 0 < x) → (i < n → x ≤ get_or w (2 * i + 2) 0) → below ≡ i
    count_is i h f g = one_first first (first_by (highs (omega arith) block refl).rises h f g)

    yes_is : (i : ℕ) → In w x ≡ true → below ≡ i → member_call w x ≡ yes_with i
    yes_is i t e = member_is w x s ∙ ap (λ (u : Bool). answers (bit u ∷ below ∷ [])) t ∙ ap (λ (c : ℕ). yes_with c) e

    no_is : (i : ℕ) → In w x ≡ false → below ≡ i → member_call w x ≡ no_with i
    no_is i t e = member_is w x s ∙ ap (λ (u : Bool). answers (bit u ∷ below ∷ [])) t ∙ ap (λ (c : ℕ). no_with c) e

    yes_says : (i : ℕ) → member_call w x ≡ yes_with i → (In w x ≡ true) × (below ≡ i)
    yes_says i e = says_yes (In w x) below i (sym (seated_sound w x s) ∙ e)

    no_says : (i : ℕ) → member_call w x ≡ no_with i → (In w x ≡ false) × (below ≡ i)
    no_says i e = says_no (In w x) below i (sym (seated_sound w x s) ∙ e)

    counted : CountBelow w x below
    counted = record {
      within = first.within;
      before = λ k h. omega (arith, first.before k h, high_is k);
      from = λ h. omega (arith, first.from h, high_is below);
    }

    held : In w x ≡ true → Holds w x below
    held t =
        let o = holding (omega arith) block sits t in
        record {
          range = record { index = below; below = o.within; low = omega (arith, o.from, low_is below); high = omega (arith, o.upto, high_is below) };
          at = refl;
        }

    beside : In w x ≡ false → Beside w x below
    beside t = record {
      within = first.within;
      below = λ k e. omega (arith, first.before k (omega arith), high_is k);
      above = λ h. omega (arith, out (omega arith) block sits t h, low_is below);
    }

  -- a number between two neighbours is in no range
  beside_out : (x i : ℕ) → Beside w x i → In w x ≡ false
  beside_out x i b = go (In w x) refl
    where
      no_range : (r : InRange w x) → Dec (r.index < i) → ⊥
      no_range r (yes h) = early (dec_lt r.index (i - 1))
        where
          j : suc (i - 1) ≡ i
          j = omega arith

          early : Dec (r.index < i - 1) → ⊥
          early (yes k) =
              omega (
                arith,
                r.high,
                high_is r.index,
                apart r.index (i - 1) k (omega (arith, b.within)),
                in_order (i - 1) (omega (arith, b.within)),
                b.below (i - 1) j,
                high_is (i - 1),
              )
          early (no k) = let e : r.index ≡ i - 1 = omega arith in omega (arith, r.high, ap (λ (q : ℕ). get_or w (2 + 2 * q) 0) e, b.below (i - 1) j)
      no_range r (no h) = late (dec_lt i r.index)
        where
          late : Dec (i < r.index) → ⊥
          late (yes k) =
              omega (
                arith,
                r.low,
                low_is r.index,
                r.below,
                apart i r.index k r.below,
                in_order i (omega (arith, r.below)),
                b.above (omega (arith, r.below)),
                low_is i,
              )
          late (no k) =
              let e : r.index ≡ i = omega arith in
              omega (arith, r.low, ap (λ (q : ℕ). get_or w (1 + 2 * q) 0) e, b.above (omega (arith, r.below)))

      go : (t : Bool) → In w x ≡ t → t ≡ false
      go true e = let r = (in_set w x s).to e in absurd (no_range r (dec_lt r.index i))
      go false e = refl

pub member_count : MemberCount
member_count w x i s = record { to = to; from = λ c. from c (In w x) refl }
  where
    to : (member_call w x ≡ yes_with i) ⊎ (member_call w x ≡ no_with i) → CountBelow w x i
    to (inl e) = subst (CountBelow w x) (yes_says w s x i e).1 (counted w s x)
    to (inr e) = subst (CountBelow w x) (no_says w s x i e).1 (counted w s x)

    is : CountBelow w x i → length (wholly_below x (entries_of 2 w)) ≡ i
    is c = count_is w s x i c.within (λ k e. omega (arith, c.before k (omega arith), high_is w s k)) (λ h. omega (arith, c.from h, high_is w s i))

    from : CountBelow w x i → (t : Bool) → In w x ≡ t → (member_call w x ≡ yes_with i) ⊎ (member_call w x ≡ no_with i)
    from c true t = inl (yes_is w s x i t (is c))
    from c false t = inr (no_is w s x i t (is c))

-- the count, by the range that holds x
count_held_lem : (w : List ℕ) (s : SoundSet w) (x : ℕ) (r : InRange w x) → length (wholly_below x (entries_of 2 w)) ≡ r.index
count_held_lem w s x r =
    count_is w s x r.index (omega (arith, r.below))
    (λ k e. omega (arith, apart w s k r.index (omega arith) r.below, r.low, low_is w s r.index))
    (λ m. omega (arith, r.high, high_is w s r.index))

pub held_at : HeldAt
held_at w x i s = record {
  to = λ e. let y = yes_says w s x i e in subst (Holds w x) y.1 (held w s x y.0);
  from = λ h. yes_is w s x i ((in_set w x s).from h.range) (count_held_lem w s x h.range ∙ h.at);
}

pub next_to : NextTo
next_to w x i s = record {
  to = λ e. let y = no_says w s x i e in subst (Beside w x) y.1 (beside w s x y.0);
  from = λ b. no_is w s x i (beside_out w s x i b)
      (count_is w s x i b.within (λ k e. omega (arith, b.below k e, high_is w s k))
      (λ h. omega (arith, b.above h, low_is w s i, in_order w s i h)));
}

-- BY THE CALLS ALONE
pub member_holder : MemberHolder
member_holder w x i s e =
    let h = (held_at w x i s).to e in
    let r = h.range in
    record { low = _; high = _; is = ap (range_at_call w) (sym h.at) ∙ (range_at_means w r.index s).0 r.below; from = r.low; upto = r.high }

-- the range at an index, where there is one
record Ranged (w : List ℕ) (k l h : ℕ) : Type 0 where
  within : k < get_or w 0 0
  low : l ≡ get_or w (1 + 2 * k) 0
  high : h ≡ get_or w (2 + 2 * k) 0

ranged : (w : List ℕ) → SoundSet w → (k l h : ℕ) → range_at_call w k ≡ answers (l ∷ h ∷ []) → Ranged w k l h
ranged w s k l h e = go (dec_lt k (get_or w 0 0))
  where
    go : Dec (k < get_or w 0 0) → Ranged w k l h
    go (yes p) =
        let q : answers (l ∷ h ∷ []) ≡ answers (get_or w (1 + 2 * k) 0 ∷ get_or w (2 + 2 * k) 0 ∷ []) = sym e ∙ (range_at_means w k s).0 p in
        record { within = p; low = cc; high = cc }
    go (no p) =
        let q : answers (l ∷ h ∷ []) ≡ answers [] = sym e ∙ (range_at_means w k s).1 (omega arith) in
        let z : ◌≡◌ {A = ℕ} 0 1 = cc in absurd (omega arith)

no_range : (w : List ℕ) → SoundSet w → (k : ℕ) → range_at_call w k ≡ answers [] → get_or w 0 0 ≤ k
no_range w s k e = go (dec_lt k (get_or w 0 0))
  where
    go : Dec (k < get_or w 0 0) → get_or w 0 0 ≤ k
    go (yes p) =
        let q : answers [] ≡ answers (get_or w (1 + 2 * k) 0 ∷ get_or w (2 + 2 * k) 0 ∷ []) = sym e ∙ (range_at_means w k s).0 p in
        let z : ◌≡◌ {A = ℕ} 0 1 = cc in absurd (omega arith)
    go (no p) = omega arith

pub member_neighbours : MemberNeighbours
member_neighbours w x i s e = record {
  below = λ k l h q r.
      let f = ranged w s k l h r in (
        omega (arith, b.below k q, f.high),
        λ z p m. beside_out w s z i (record {
          within = b.within;
          below = λ j d. let y : j ≡ k = omega arith in omega (arith, f.high, ap (λ (n : ℕ). get_or w (2 + 2 * n) 0) y);
          above = λ y. omega (arith, b.above y);
        }),
      );
  above = λ l h r.
      let f = ranged w s i l h r in (
        omega (arith, b.above f.within, f.low),
        λ z p m. beside_out w s z i (record { within = b.within; below = λ k d. omega (arith, b.below k d); above = λ y. omega (arith, f.low) }),
      );
  none_below = λ y z p. beside_out w s z i (record { within = b.within; below = λ k d. absurd (omega arith); above = λ q. omega (arith, b.above q) });
  none_above = λ r z p.
      beside_out w s z i (record { within = b.within; below = λ k d. omega (arith, b.below k d); above = λ q. absurd (omega (arith, no_range w s i r)) });
}
  where
    b : Beside w x i
    b = (next_to w x i s).to e

-- OF KEYS: not at or below is above
less_is : (m n : ℕ) → ltb m n ≡ not (leb n m)
less_is m n = go (dec_lt m n)
  where
    go : Dec (m < n) → ltb m n ≡ not (leb n m)
    go (yes h) = lt-ltb m n h ∙ sym (ap not (lt-leb n m h))
    go (no h) = le-ltb m n (omega arith) ∙ sym (ap not (le-leb n m (omega arith)))

above_is : (a b : ℤ) → lt_z a b ≡ not (le_z b a)
above_is (pos m) (pos n) = less_is m n
above_is (pos m) (negsuc n) = refl
above_is (negsuc m) (pos n) = refl
above_is (negsuc m) (negsuc n) = less_is n m

above : {x y : ℕ} (a b : ℤ) → Iff (y ≤ x) (le_z b a ≡ true) → Iff (x < y) (lt_z a b ≡ true)
above {x} {y} a b i = record { to = λ h. above_is a b ∙ ap not (not_upto h (le_z b a) refl); from = λ e. from e (dec_lt x y) }
  where
    not_upto : x < y → (t : Bool) → le_z b a ≡ t → t ≡ false
    not_upto h true e = absurd (omega (arith, i.from e))
    not_upto h false e = refl

    from : lt_z a b ≡ true → Dec (x < y) → x < y
    from e (yes h) = h
    from e (no h) = absurd (true≢false (sym e ∙ above_is a b ∙ ap not (i.to (omega arith))))

pub seat_key : SeatKey
seat_key w k i s j = (
  iff_by (held_at w (word_of k) i s)
      (λ h. record { range = (in_keys_lem w k j).to h.range; at = h.at }) (λ h. record { range = (in_keys_lem w k j).from h.range; at = h.at }),
  iff_by (next_to w (word_of k) i s)
      (λ h. record { within = h.within; below = λ m e. (under m).to (h.below m e); above = λ l. over.to (h.above l) })
      (λ h. record { within = h.within; below = λ m e. (under m).from (h.below m e); above = λ l. over.from (h.above l) }),
)
  where
    under : (m : ℕ) → Iff (get_or w (2 + 2 * m) 0 < word_of k) (lt_z (key_of (get_or w (2 + 2 * m) 0)) k ≡ true)
    under m = above (key_of (get_or w (2 + 2 * m) 0)) k (down_to (get_or w (2 + 2 * m) 0) refl k j)

    over : Iff (word_of k < get_or w (1 + 2 * i) 0) (lt_z k (key_of (get_or w (1 + 2 * i) 0)) ≡ true)
    over = above k (key_of (get_or w (1 + 2 * i) 0)) (up_to (get_or w (1 + 2 * i) 0) refl k j)
