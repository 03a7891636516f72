-- How many items begin below a number, begin at or below it, or end at or below it: from where the number sits.
use mathlib.Core.Path.{◌≡◌, refl}
use mathlib.Core.Bool.{Bool, true, false}
use mathlib.Core.List.{List}
use Prim.Native.Nat.{ℕ, suc, ◌+◌, ◌*◌, ◌-◌, ◌≤◌, ◌<◌}
use native.Mathlib.Omega.{arith}
use native.Mathlib.Decide.{dec_lt}
use lib.Dec.{ltb, eqb}
use lib.ListN.{length, get_or}
use borrow.Author.Tests.{ltb-true, ltb-false, eqb-true, eqb-false}
use Rattle.entries.specs.Build.{pick}
use Rattle.blocks.specs.declared.Layout.{Layout}
use Rattle.blocks.specs.Blocks.{SoundBlock}
use Rattle.blocks.proofs.Items.{held}
use Rattle.blocks.proofs.Tests.{le_mul}
use Rattle.searches.specs.declared.Spot.{Spot}
use Rattle.searches.specs.Steps.{Rises, First, FirstFrom, SpotOf}
use Rattle.searches.proofs.Finding.{lows, highs, item_order, items_apart}
use Rattle.searches.proofs.Spots.{spot_first, next, inside_is, outside_is}

-- the first place at which a function that does not fall is at least y, by the places beside it
pub first_by : {f : ℕ → ℕ} {n y i : ℕ} → Rises f n → i ≤ n → ((k : ℕ) → suc k ≡ i → f k < y) → (i < n → y ≤ f i) → First f n y i
first_by {f} {n} {y} {i} r within last from = record {
  within = within;
  before = λ k h. let m : suc (i - 1) ≡ i = omega arith in omega (arith, r k (i - 1) (omega arith) (omega arith), last (i - 1) m);
  from = from;
}

-- there is one such place
pub one_first : {f : ℕ → ℕ} {n x i j : ℕ} → First f n x i → First f n x j → i ≡ j
one_first {f} {n} {x} {i} {j} a b = go (dec_lt i j) (dec_lt j i)
  where
    go : Dec (i < j) → Dec (j < i) → i ≡ j
    go (yes h) d = absurd (omega (arith, b.before i h, a.from (omega (arith, b.within))))
    go (no h) (yes k) = absurd (omega (arith, a.before j k, b.from (omega (arith, a.within))))
    go (no h) (no k) = omega arith

module _ {l : Layout} {w : List ℕ} (two : 2 ≤ l.width) (b : SoundBlock l w) {x : ℕ} {r : Spot} (g : SpotOf l w x r) where
  abbrev n : ℕ
  n = get_or w 0 0

  abbrev low : ℕ → ℕ
  low k = get_or w (l.width * k + 1) 0

  abbrev high : ℕ → ℕ
  high k = get_or w (l.width * k + 2) 0

  in_order : (k : ℕ) → k < n → low k ≤ high k
  in_order = item_order two b refl

  -- the items below x, whatever holds x
  first : FirstFrom w l.width 2 n x r.below
  first = spot_first two b g

  -- the items are fewer than the words
  pub few : r.below < length w
  few = omega (arith, first.within, (held l two w n refl b).held, le_mul l.width n two)

  under : (k : ℕ) → suc k ≡ r.below → (low k < x) × (high k < x)
  under k e =
      let h = first.before k (omega arith) in
      (omega (arith, in_order k (omega (arith, first.within))), h)

  -- the next item, where none holds x, begins past it
  pub out : r.inside ≡ false → r.below < n → x < low r.below
  out t h = let m = next two b g h in omega (arith, outside_is two b g t m.among, m.low)

  -- the item that holds x
  pub record Holding : Type 0 where
    pub within : r.below < n
    pub words : l.width * r.below + 1 + l.width ≤ length w
    pub from : low r.below ≤ x
    pub upto : x ≤ high r.below

  pub holding : r.inside ≡ true → Holding
  holding t =
      let i = inside_is two b g t in
      record { within = i.item.within; words = i.item.held; from = omega (arith, i.from, i.item.low); upto = first.from i.item.within }

  -- the item behind it begins past x
  behind : r.inside ≡ true → suc r.below < n → (x < low (suc r.below)) × (x < high (suc r.below))
  behind t h =
      let o = holding t in
      let a = items_apart two b refl r.below (suc r.below) (omega arith) h in
      (omega (arith, o.upto), omega (arith, o.upto, in_order (suc r.below) h))

  -- THE COUNTS, by one test: one more than the items below x, where the one that holds it is to be counted, or just those
  counts : {f : ℕ → ℕ} {y c : ℕ} → Rises f n → (u : Bool) → c ≡ pick u (r.below + 1) r.below
      → (u ≡ true → (r.below < n) × (f r.below < y) × (suc r.below < n → y ≤ f (suc r.below)))
      → (u ≡ false → ((k : ℕ) → suc k ≡ r.below → f k < y) × (r.below < n → y ≤ f r.below)) → First f n y c
  counts {f} {y} {c} s true q more less =
      let m = more refl in
      let z : c ≡ suc r.below = omega arith in
      rw z (first_by s m.0 (λ k e. let j : k ≡ r.below = omega arith in rw j m.1) m.2)
  counts s false q more less = rw q (first_by s first.within (less refl).0 (less refl).1)

  -- [W2] HOW MANY BEGIN BELOW x: where no item holds x, those wholly below it; else one more, if the item that holds it begins below x
  pub begun_out : r.inside ≡ false → FirstFrom w l.width 1 n x r.below
  begun_out t = first_by (lows two b refl).rises first.within (λ k e. (under k e).0) (λ h. omega (arith, out t h))

  pub begun_in : r.inside ≡ true → {y c : ℕ} → y ≡ low r.below → c ≡ pick (ltb y x) (r.below + 1) r.below → FirstFrom w l.width 1 n x c
  begun_in t {y} e q = let o = holding t in
      counts (lows two b refl).rises (ltb y x) q (λ p. (o.within, omega (arith, ltb-true y x p), λ h. omega (arith, (behind t h).0)))
      (λ p. (λ k m. (under k m).0, λ h. omega (arith, ltb-false y x p)))

  -- [W2] HOW MANY BEGIN AT OR BELOW IT: and the one that holds it
  pub begun_by : {c : ℕ} → c ≡ pick r.inside (r.below + 1) r.below → FirstFrom w l.width 1 n (x + 1) c
  begun_by q =
      counts (lows two b refl).rises r.inside q
      (λ t. ((holding t).within, omega (arith, (holding t).from), λ h. omega (arith, (behind t h).0)))
      (λ t. (λ k m. omega (arith, (under k m).0), λ h. omega (arith, out t h)))

  -- [W2] HOW MANY END AT OR BELOW IT: and the one that holds it, if it ends there
  pub ended_out : r.inside ≡ false → FirstFrom w l.width 2 n (x + 1) r.below
  ended_out t = first_by (highs two b refl).rises first.within (λ k e. omega (arith, (under k e).1)) (λ h. omega (arith, out t h, in_order r.below h))

  pub ended_in : r.inside ≡ true → {y c : ℕ} → y ≡ high r.below → c ≡ pick (eqb y x) (r.below + 1) r.below → FirstFrom w l.width 2 n (x + 1) c
  ended_in t {y} e q = let o = holding t in
      counts (highs two b refl).rises (eqb y x) q (λ p. (o.within, omega (arith, eqb-true y x p), λ h. omega (arith, (behind t h).1)))
      (λ p. (λ k m. omega (arith, (under k m).1), λ h. let d : y ≡ x → ⊥ = eqb-false y x p in omega (arith, o.upto)))
