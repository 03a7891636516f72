-- What the walk over the gaps holds at each range, and what its tests tell.
use mathlib.Core.Path.{◌≡◌, refl, sym, ◌∙◌, ap, ap₂, subst}
use mathlib.Core.Bool.{Bool, true, false}
use mathlib.Core.Option.{Option, some}
use Rattle.std.specs.Prelude.{Option as Held, Some, None}
use Rattle.std.proofs.lemmas.List.{at_drop_more, at_drop_all}
use mathlib.Core.List.{List, [], ◌∷◌, ◌++◌}
use Prim.Native.Nat.{ℕ, suc, ◌+◌, ◌*◌, ◌-◌, ◌≤◌, ◌<◌, min, max}
use native.Mathlib.Omega.{arith}
use native.Mathlib.Decide.{dec_le}
use lib.Dec.{leb}
use lib.ListN.{get_or, drop}
use borrow.Author.Tests.{le-leb, lt-leb, lt-ltb, le-ltb, leb-true}
use Rattle.entries.specs.Entries.{Entry, entry, Each}
use Rattle.entries.specs.Build.{pick}
use Rattle.entries.specs.Sets.{M}
use Rattle.entries.specs.Questions.{filter}
use Rattle.entries.proofs.Values.{true≢false}
use Rattle.entries.proofs.Windows.{Passed}
use Rattle.blocks.specs.Blocks.{entries_of}
use Rattle.blocks.specs.Steps.{zero_item}
use Rattle.blocks.proofs.Items.{entries_count, entry_is}
use Rattle.fits.specs.declared.gap.Gap.{Gap}
use Rattle.fits.specs.declared.Choice.{Choice}
use Rattle.fits.specs.declared.Choice.TheVariants.{First, Shortest}
use Rattle.fits.specs.Fits.{gaps, numbers, fits, aligned}
use Rattle.fits.specs.Calls.{last_power}
use Rattle.fits.specs.Steps.{chooser, enough_for, short, gap_of, held_in, piece, better, taken, Took, Trying, Asked}
use Rattle.fits.specs.Steps.{Starts, GapIs}
use Rattle.fits.proofs.Multiples.{multiples}
use Rattle.fits.proofs.Choosing.{search, filter_all, filter_keeps, search_first, search_shortest, AtMostOne, stops, hold_piece}
use Rattle.fits.proofs.Gaps.{gaps_from, from_none, from_passed, from_is, gaps_below}

-- lengths, and lengths less one
less_one_lem : (l h less : ℕ) → l ≤ h → leb (suc h - l) (suc less) ≡ leb (h - l) less
less_one_lem l h less p = go (dec_le (h - l) less)
  where
    go : Dec (h - l ≤ less) → leb (suc h - l) (suc less) ≡ leb (h - l) less
    go (yes q) = le-leb (suc h - l) (suc less) (omega arith) ∙ sym (le-leb (h - l) less q)
    go (no q) = lt-leb (suc h - l) (suc less) (omega arith) ∙ sym (lt-leb (h - l) less (omega arith))

-- ONE GAP: what the tests of the code make of it
module _ {j : ℕ} (best : Held Gap) (low high k : ℕ) (g : Trying j best low high k) where
  abbrev pub new : Entry
  new = entry low high []

  -- k numbers do not fit, from the least multiple on
  unfit : suc high < aligned j low + k → Took j k best (new ∷ []) best
  unfit h = record { start = g.start; is = rw (lt-leb (aligned j low + k) (suc high) h) }

  -- nor from the low end on
  pub tried_short : high - low < k - 1 → Took j k best (new ∷ []) best
  tried_short h = unfit (omega (arith, g.order, (multiples j).above low))

  -- the gap that is held is no longer
  pub tried_keep : short (high - low) best ≡ true → Took j k best (new ∷ []) best
  tried_keep e = record { start = g.start; is = fitting (fits (aligned j) k new) (go best e) }
    where
      go : (b : Held Gap) → short (high - low) b ≡ true → held_in b ≡ better (held_in b) new
      go (Some h) q =
          let m = leb-true (h.high - h.low) (high - low) q in
          rw (le-leb (suc h.high - h.low) (suc high - low) (omega (arith, h.ordered, g.order)))
      go None q = absurd (true≢false (sym q))

      fitting : (t : Bool) → held_in best ≡ better (held_in best) new → held_in best ≡ pick t (better (held_in best) new) (held_in best)
      fitting true q = q
      fitting false q = refl

  -- no gap is held, or a longer one; its least multiple is up above its low end
  module _ (up : ℕ) (i : low + up ≡ aligned j low) where
    -- it lies behind the gap
    pub tried_none : high - low < up → Took j k best (new ∷ []) best
    tried_none h = unfit (omega (arith, i, g.run, g.order))

    -- the run from there on ends behind the gap
    pub tried_over : high - low - up < k - 1 → Took j k best (new ∷ []) best
    tried_over h = unfit (omega (arith, i, g.run, g.order))

    pub tried_new : up ≤ high - low → k - 1 ≤ high - low - up → short (high - low) best ≡ false
        → (r : Gap) → r.low ≡ low → r.high ≡ high → Took j k best (new ∷ []) (Some r)
    tried_new u h e r lo hi = record {
      start = omega (arith, ap (aligned j) lo, hi, i, g.order);
      is = ap₂ (λ (x y : ℕ). entry x y [] ∷ []) lo hi ∙ rw fitting (go best e);
    }
      where
        fitting : fits (aligned j) k new ≡ true
        fitting = le-leb (aligned j low + k) (suc high) (omega (arith, i, g.run, g.order))

        go : (b : Held Gap) → short (high - low) b ≡ false → new ∷ [] ≡ better (held_in b) new
        go (Some f) q = rw (lt-leb (suc f.high - f.low) (suc high - low) (longer (dec_le (f.high - f.low) (high - low))))
          where
            longer : Dec (f.high - f.low ≤ high - low) → suc high - low < suc f.high - f.low
            longer (yes m) = absurd (true≢false (sym (le-leb (f.high - f.low) (high - low) m) ∙ q))
            longer (no m) = omega (arith, f.ordered, g.order)
        go None q = refl

-- the gap before a range, cut to the window
module _ {j : ℕ} (best : Held Gap) (from low b k : ℕ) (g : Trying j best from b k) where
  pub before_none : low ≤ from → Took j k best (piece from (min (suc b) low)) best
  before_none h = record { start = g.start; is = rw (le-ltb from (min (suc b) low) (omega arith)) }

  piece_as : (y h : ℕ) → y ≡ suc h → from ≤ h → piece from y ≡ entry from h [] ∷ []
  piece_as y h e p = let m : suc h - 1 ≡ h = omega arith in rw (e, lt-ltb from (suc h) (omega arith)) (ap (λ (x : ℕ). entry from x [] ∷ []) m)

  pub before_cut : (r : Held Gap) → from < low → b < low → Took j k best (entry from b [] ∷ []) r → Took j k best (piece from (min (suc b) low)) r
  before_cut r h m t =
      let e : min (suc b) low ≡ suc b = omega arith in
      subst (λ (gs : List Entry). Took j k best gs r) (sym (piece_as (min (suc b) low) b e (omega (arith, g.order)))) t

  pub before_range : (r : Held Gap) → from < low → low ≤ b → Took j k best (entry from (low - 1) [] ∷ []) r → Took j k best (piece from (min (suc b) low)) r
  before_range r h m t =
      let e : min (suc b) low ≡ suc (low - 1) = omega arith in
      subst (λ (gs : List Entry). Took j k best gs r) (sym (piece_as (min (suc b) low) (low - 1) e (omega arith))) t

-- THE WALK. The ranges from index i on are left, and with the gap that is held the gaps from `from` on still give the answer o.
pub record Walked (w : List ℕ) (o : Option Entry) (b j k enough : ℕ) (best : Held Gap) (from i : ℕ) : Type 0 where
  pub run : 0 < k
  pub inside : from ≤ b
  pub power : j ≤ last_power
  pub start : Starts j best
  pub goes : short enough best ≡ false
  pub rest : o ≡ search (suc enough) (held_in best ++ filter (fits (aligned j) k) (gaps_from from (suc b) (drop i (entries_of 2 w))))

held_one : (g : Held Gap) → AtMostOne (held_in g)
held_one (Some g) = tt
held_one None = tt

-- what `within` tells of the gap that is held
stops_is : (g : Held Gap) (enough : ℕ) → stops (suc enough) (held_in g) ≡ short enough g
stops_is (Some g) enough = less_one_lem g.low g.high enough g.ordered
stops_is None enough = refl

search_stops : (t : ℕ) (g : Held Gap) (gs : List Entry) → stops t (held_in g) ≡ true → search t (held_in g ++ gs) ≡ gap_of g
search_stops t (Some g) gs e = rw e
search_stops t None gs e = absurd (true≢false (sym e))

search_held : (t : ℕ) (g : Held Gap) → search t (held_in g ++ []) ≡ gap_of g
search_held t (Some g) = ap some (same (leb (numbers (entry g.low g.high [])) t) (entry g.low g.high []))
  where
    same : (u : Bool) (e : Entry) → pick u e e ≡ e
    same true e = refl
    same false e = refl
search_held t None = refl

-- the gap that is held at the end is the one that is sought
settled : {j k : ℕ} {best : Held Gap} {gs : List Entry} {o : Option Entry} {r : Held Gap} → Took j k best gs r → o ≡ gap_of r → GapIs j o r
settled t e = record { gap = sym e; start = t.start }

-- at a range, with the gap before it tried
module _ {w : List ℕ} {o : Option Entry} {b j k enough : ℕ} {best : Held Gap} {from i : ℕ} (s : Walked w o b j k enough best from i)
    (some_left : i < get_or w 0 0) (r : Held Gap) (t : Took j k best (piece from (min (suc b) (get_or w (2 * i + 1) 0))) r) where
  abbrev low : ℕ
  low = get_or w (2 * i + 1) 0

  abbrev high : ℕ
  high = get_or w (2 * i + 2) 0

  abbrev later : List Entry
  later = drop (i + 1) (entries_of 2 w)

  abbrev kept : List Entry → List Entry
  kept = filter (fits (aligned j) k)

  ahead : o ≡ search (suc enough) (held_in r ++ kept (gaps_from (max from (suc high)) (suc b) later))
  ahead =
      s.rest
      ∙ at_drop_more (λ (es : List Entry). search (suc enough) (held_in best ++ kept (gaps_from from (suc b) es))) (entries_of 2 w) i zero_item
      (omega (arith, entries_count 2 (omega arith) w (get_or w 0 0) refl))
      ∙ ap (λ (e : Entry). search (suc enough) (held_in best ++ kept (gaps_from from (suc b) (e ∷ later))))
      (entry_is 2 (omega arith) w (get_or w 0 0) refl i some_left)
      ∙ hold_piece (suc enough) j k (held_in best) from (min (suc b) low) (gaps_from (max from (suc high)) (suc b) later) (held_one best)
      (stops_is best enough ∙ s.goes)
      ∙ ap (λ (x : List Entry). search (suc enough) (x ++ kept (gaps_from (max from (suc high)) (suc b) later))) (sym t.is)

  -- no later gap can beat the one that is held
  pub walked_enough : short enough r ≡ true → GapIs j o r
  walked_enough e =
      settled t (ahead ∙ search_stops (suc enough) r (kept (gaps_from (max from (suc high)) (suc b) later)) (stops_is r enough ∙ e))

  -- the window ends in the range
  pub walked_over : b ≤ high → GapIs j o r
  walked_over e =
      settled t (ahead ∙ ap (λ (gs : List Entry). search (suc enough) (held_in r ++ kept gs)) (from_none (max from (suc high)) (suc b) later (omega arith))
      ∙ search_held (suc enough) r)

  pub walked_on : (next : ℕ) → short enough r ≡ false → high < b → next ≡ max from (suc high) → Walked w o b j k enough r next (i + 1)
  walked_on next e n x = record {
    run = s.run;
    inside = omega (arith, s.inside);
    power = s.power;
    start = t.start;
    goes = e;
    rest = ahead ∙ ap (λ (y : ℕ). search (suc enough) (held_in r ++ kept (gaps_from y (suc b) later))) (sym x);
  }

-- behind the last range
pub walked_end : {w : List ℕ} {o : Option Entry} {b j k enough : ℕ} {best : Held Gap} {from i : ℕ} → Walked w o b j k enough best from i
    → get_or w 0 0 ≤ i → (r : Held Gap) → Took j k best (entry from b [] ∷ []) r → GapIs j o r
walked_end {w} {o} {b} {j} {k} {enough} {best} {from} {i} s z r t =
    settled t (s.rest
    ∙ at_drop_all (λ (es : List Entry). search (suc enough) (held_in best ++ kept (gaps_from from (suc b) es))) (entries_of 2 w) i
    (omega (arith, entries_count 2 (omega arith) w (get_or w 0 0) refl))
    ∙ ap (λ (gs : List Entry). search (suc enough) (held_in best ++ kept gs)) whole
    ∙ hold_piece (suc enough) j k (held_in best) from (suc b) [] (held_one best) (stops_is best enough ∙ s.goes)
    ∙ ap (λ (l : List Entry). search (suc enough) (l ++ [])) (ap (taken j k (held_in best)) last ∙ sym t.is)
    ∙ search_held (suc enough) r)
  where
    kept : List Entry → List Entry
    kept = filter (fits (aligned j) k)

    last : piece from (suc b) ≡ entry from b [] ∷ []
    last = let m : suc b - 1 ≡ b = omega arith in rw (lt-ltb from (suc b) (omega (arith, s.inside))) (ap (λ (x : ℕ). entry from x [] ∷ []) m)

    whole : piece from (suc b) ≡ piece from (suc b) ++ []
    whole = rw last

-- before the first range that does not lie wholly below the window
pub walked_start : {j : ℕ} (w : List ℕ) (a b k : ℕ) (choice : Choice) (enough i : ℕ) → Asked w a b k j → b ≤ M → enough ≡ enough_for choice k
    → Passed zero_item (entries_of 2 w) a i
    → Walked w (chooser choice (filter (fits (aligned j) k) (gaps a b (entries_of 2 w)))) b j k enough None a i
walked_start {j} w a b k choice enough i s m e q = record {
  run = s.run;
  inside = s.order;
  power = s.power;
  start = tt;
  goes = refl;
  rest = sym start;
}
  where
    list : List Entry
    list = filter (fits (aligned j) k) (gaps a b (entries_of 2 w))

    start : search (suc enough) (filter (fits (aligned j) k) (gaps_from a (suc b) (drop i (entries_of 2 w)))) ≡ chooser choice list
    start =
        ap (λ (gs : List Entry). search (suc enough) (filter (fits (aligned j) k) gs))
        (from_passed zero_item a (suc b) i (entries_of 2 w) s.block.sound q ∙ from_is a b (entries_of 2 w) s.block.sound)
        ∙ ap (λ (t : ℕ). search (suc t) list) e
        ∙ chosen choice
      where
        chosen : (t : Choice) → search (suc (enough_for t k)) list ≡ chooser t list
        chosen Shortest =
            let u : suc (k - 1) ≡ k = omega (arith, s.run) in
            ap (λ (i : ℕ). search i list) u
            ∙ search_shortest k list
            (filter_keeps (λ x. k ≤ numbers x) (fits (aligned j) k)
            (λ x q. omega (arith, leb-true (aligned j x.low + k) (suc x.high) q, (multiples j).above x.low))
            (gaps a b (entries_of 2 w)))
        chosen First =
            search_first (suc M) list
            (filter_all (λ x. numbers x ≤ suc M) (fits (aligned j) k) (gaps a b (entries_of 2 w))
            (short (gaps a b (entries_of 2 w)) (gaps_below a b (entries_of 2 w) s.block.sound)))
          where
            short : (gs : List Entry) → Each (λ x. x.high < suc b) gs → Each (λ x. numbers x ≤ suc M) gs
            short [] h = tt
            short (x ∷ gs) h = (omega (arith, h.0), short gs h.1)
