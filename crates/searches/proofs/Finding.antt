-- What a search over a block's words asks, that the words it looks at do not fall, and what it tells of the block's entries.
use mathlib.Core.Path.{◌≡◌, ap}
use mathlib.Core.List.{List}
use Prim.Native.Nat.{ℕ, ◌+◌, ◌*◌, ◌≤◌, ◌<◌}
use native.Mathlib.Omega.{arith}
use native.Mathlib.Decide.{dec_lt}
use lib.ListN.{length, get_or, drop}
use Rattle.entries.specs.Entries.{Entry, Sound}
use Rattle.entries.proofs.Index.{rises, sound_ok}
use Rattle.entries.proofs.Windows.{Passed, Begun}
use Rattle.blocks.specs.declared.Layout.{Layout}
use Rattle.blocks.specs.Blocks.{entries_of, items_of, SoundBlock}
use Rattle.blocks.specs.Steps.{zero_item, item_at, Held}
use Rattle.blocks.proofs.Words.{items_length}
use Rattle.blocks.proofs.Tests.{item_in}
use Rattle.blocks.proofs.Moves.{entry_at}
use Rattle.blocks.proofs.Items.{entries_count, entry_is, held}
use Rattle.searches.specs.Steps.{Rises, Rising, First, Sorted, FirstFrom}

same_or_later : (f : ℕ → ℕ) (i j : ℕ) → i ≤ j → (i < j → f i ≤ f j) → f i ≤ f j
same_or_later f i j p later = go (dec_lt i j)
  where
    go : Dec (i < j) → f i ≤ f j
    go (yes q) = later q
    go (no q) = let e : i ≡ j = omega arith in omega (arith, ap f e)

-- SOUND ENTRIES ARE IN ORDER, by their lows and by their highs
module _ (d : Entry) (es : List Entry) (t : Sound es) where
  pub lows_rise : Rises (λ k. (get_or es k d).low) (length es)
  lows_rise i j p q = same_or_later (λ k. (get_or es k d).low) i j p (λ r. omega (arith, rises d es t i j r q, sound_ok d es t i (omega arith)))

  pub highs_rise : Rises (λ k. (get_or es k d).high) (length es)
  highs_rise i j p q = same_or_later (λ k. (get_or es k d).high) i j p (λ r. omega (arith, rises d es t i j r q, sound_ok d es t j q))

-- and so are the n numbers that stand for these, in words or in bytes; what is found among the highs tells of the entries
module _ (d : Entry) (es : List Entry) (n : ℕ) (count : length es ≡ n) (f : ℕ → ℕ) where
  pub also_rises : (g : Entry → ℕ) → ((k : ℕ) → k < n → g (get_or es k d) ≡ f k) → Rises (λ k. g (get_or es k d)) (length es) → Rises f n
  also_rises g e r i j p q = omega (arith, r i j p (omega (arith, count)), e i (omega arith), e j q)

  pub passed_among : ((k : ℕ) → k < n → (get_or es k d).high ≡ f k) → (x i : ℕ) → First f n x i → Passed d es x i
  passed_among e x i r = record {
    within = omega (arith, r.within, count);
    before = λ k h. rw (e k (omega (arith, r.within))) (r.before k h);
    from = λ h. let m : i < n = omega (arith, count) in rw (e i m) (r.from m);
  }

-- the items of a block
module _ {s n : ℕ} {w : List ℕ} (h : Held s n w) (t : Sound (items_of s n (drop 1 w))) where
  abbrev es : List Entry
  es = items_of s n (drop 1 w)

  count : length es ≡ n
  count = items_length s n (drop 1 w)

  low_at : (k : ℕ) → k < n → (get_or es k zero_item).low ≡ get_or w (s * k + 1) 0
  low_at k p = ap (λ (e : Entry). e.low) (entry_at s h.two n k w zero_item p)

  high_at : (k : ℕ) → k < n → (get_or es k zero_item).high ≡ get_or w (s * k + 2) 0
  high_at k p = ap (λ (e : Entry). e.high) (entry_at s h.two n k w zero_item p)

  pub sorted_lows : Sorted s 1 n w
  sorted_lows = record {
    two = h.two;
    held = h.held;
    within = omega (arith, h.two);
    rises = also_rises zero_item es n count (λ k. get_or w (s * k + 1) 0) (λ e. e.low) low_at (lows_rise zero_item es t);
  }

  pub sorted_highs : Sorted s 2 n w
  sorted_highs = record {
    two = h.two;
    held = h.held;
    within = h.two;
    rises = also_rises zero_item es n count (λ k. get_or w (s * k + 2) 0) (λ e. e.high) high_at (highs_rise zero_item es t);
  }

-- what halving asks of sorted highs: their words are in the block, and do not fall
module _ {s n : ℕ} {w : List ℕ} (h : Sorted s 2 n w) where
  pub highs_rising : Rising (λ k. get_or w (s * k + 2) 0) n
  highs_rising = record { rises = h.rises }

  pub high_word : (k : ℕ) → k < n → s * k + 2 < length w
  high_word k l = omega (arith, item_in s k n l, h.held, h.two)

  pub high_place : (k : ℕ) → k < n → s * k < length w
  high_place k l = omega (arith, item_in s k n l, h.held, h.two)

-- of a sound block
module _ {l : Layout} {w : List ℕ} (two : 2 ≤ l.width) (b : SoundBlock l w) {n : ℕ} (e : n ≡ get_or w 0 0) where
  sound_items : Sound (items_of l.width n (drop 1 w))
  sound_items = rw e b.sound

  pub lows : Sorted l.width 1 n w
  lows = sorted_lows (held l two w n e b) sound_items

  pub highs : Sorted l.width 2 n w
  highs = sorted_highs (held l two w n e b) sound_items

  item : (k : ℕ) → k < n → get_or (entries_of l.width w) k zero_item ≡ item_at l.width w k
  item k h = entry_is l.width two w n e k h

  -- the words of its items: each low is at most its high, and each high below every later low
  pub item_order : (k : ℕ) → k < n → get_or w (l.width * k + 1) 0 ≤ get_or w (l.width * k + 2) 0
  item_order k h =
      let o = sound_ok zero_item (entries_of l.width w) b.sound k (omega (arith, entries_count l.width two w n e)) in
      omega (arith, ap (λ (i : Entry). i.low) (item k h), ap (λ (i : Entry). i.high) (item k h))

  pub items_apart : (i j : ℕ) → i < j → j < n → get_or w (l.width * i + 2) 0 < get_or w (l.width * j + 1) 0
  items_apart i j h k =
      let o = rises zero_item (entries_of l.width w) b.sound i j h (omega (arith, entries_count l.width two w n e)) in
      omega (arith, ap (λ (i : Entry). i.high) (item i (omega arith)), ap (λ (i : Entry). i.low) (item j k))

-- what is found tells of the entries
module _ (s : ℕ) (two : 2 ≤ s) (w : List ℕ) (n : ℕ) (e : n ≡ get_or w 0 0) where
  pub passed : (x i : ℕ) → FirstFrom w s 2 n x i → Passed zero_item (entries_of s w) x i
  passed = passed_among zero_item (entries_of s w) n (entries_count s two w n e) (λ k. get_or w (s * k + 2) 0) (λ k h. ap (λ (i : Entry). i.high)
      (entry_is s two w n e k h))

  pub begun : (b j : ℕ) → FirstFrom w s 1 n (b + 1) j → Begun zero_item (entries_of s w) b j
  begun b j f = record {
    within = omega (arith, f.within, entries_count s two w n e);
    before = λ k h. let m = f.before k h in rw (entry_is s two w n e k (omega (arith, f.within))) (omega arith);
    from = λ h.
        let m : j < n = omega (arith, entries_count s two w n e) in
        let g = f.from m in rw (entry_is s two w n e j m) (omega arith);
  }
