-- One list has one block of each length: reading a stored block, and the block of a sound one with zeros after it.
use mathlib.Core.Path.{◌≡◌, refl, sym, ◌∙◌, ap, ap₂}
use mathlib.Core.Option.{Option, none, some}
use mathlib.Core.List.{List, [], ◌∷◌, ◌++◌}
use Prim.Native.Nat.{ℕ, ◌+◌, ◌*◌, ◌-◌, ◌≤◌, ◌<◌}
use native.Mathlib.Omega.{arith}
use native.Mathlib.Decide.{dec_lt}
use lib.ListN.{length, get_or, take, drop, replicate, length-append, length-replicate, length-drop, take-append-drop}
use lib.Seq.{drop-cons, drop-drop, length-take-le}
use Rattle.entries.specs.Entries.{Value, value_at, ListOf, Entry, Sound}
use Rattle.entries.proofs.Canon.{none≢some}
use Rattle.entries.proofs.Sides.{Side, under, inside, past, side, val_in, val_under, val_past, none_upto}
use Rattle.entries.specs.Sets.{Plain}
use Rattle.blocks.specs.declared.Layout.{Layout}
use Rattle.blocks.specs.Blocks.{entries_of, words_of, block_of, capacity, verdict, SoundBlock, Shaped}
use Rattle.blocks.proofs.Words.{words_length, items_length, read_back, write_back}
use Rattle.blocks.proofs.Moves.{zeros, block_path}
use Rattle.blocks.proofs.Judging.{room_words, sound_verdict}

-- a set's items have two words
pub plain_shaped : (es : List Entry) → Plain es → Shaped 2 es
plain_shaped [] f = tt
plain_shaped (e ∷ es) f = (ap (λ (v : List ℕ). 2 + length v) f.0, plain_shaped es f.1)

module _ (s : ℕ) (two : 2 ≤ s) (L : ℕ) (es : List Entry) (h : Shaped s es) where
  -- [B1, B2, B7] the entries of a stored block are those that were stored
  pub entries_stored : entries_of s (block_of L es) ≡ es
  unfolding block_of
  entries_stored = read_back s two es (replicate (L - (1 + length (words_of es))) 0) h

  pub length_stored : 1 + s * length es ≤ L → length (block_of L es) ≡ L
  unfolding block_of
  length_stored r = omega (
    arith,
    length-append (words_of es) (replicate (L - (1 + length (words_of es))) 0),
    length-replicate {A = ℕ} (L - (1 + length (words_of es))) 0,
    words_length s es h,
  )

  head_stored : get_or (block_of L es) 0 0 ≡ length es
  unfolding block_of
  head_stored = refl

-- [B4, B5, S13] and it is a sound block, if they are sound and within the capacity
pub sound_stored : (l : Layout) → 2 ≤ l.width → (L : ℕ) (es : List Entry) → Shaped l.width es → 0 < L → length es ≤ capacity l L → Sound es
    → verdict l (block_of L es) ≡ 0
sound_stored l two L es h p q t =
    let k = length_stored l.width two L es h (room_words l L (length es) p q) in
    sound_verdict l (block_of L es) (record {
      some = omega arith;
      fits = rw (k, head_stored l.width two L es h) q;
      sound = rw (entries_stored l.width two L es h) t;
    })

-- [B8] every word after the stored form is 0
abbrev pub Zeros : ℕ → List ℕ → Type 0
Zeros s w = (j : ℕ) → 1 + s * get_or w 0 0 ≤ j → get_or w j 0 ≡ 0

-- [B8, D3] a sound block with zeros after it is the block of its entries
pub block_is : (l : Layout) (w : List ℕ) → 2 ≤ l.width → SoundBlock l w → Zeros l.width w → w ≡ block_of (length w) (entries_of l.width w)
block_is l w two b z =
    drop-cons w 0 0 b.some
    ∙ ap (λ (l : List ℕ). n ∷ l) (sym (take-append-drop (s * n) (drop 1 w)) ∙ ap₂ ◌++◌ (sym words) (drop-drop (s * n) 1 w ∙ zeros w (1 + s * n) z))
    ∙ block_path (length w) (entries_of s w) n (length w - (1 + s * n)) (words_of (entries_of s w)) (sym (items_length s n (drop 1 w))) refl
    (omega (arith, ap length words, held))
  where
    s : ℕ
    s = l.width

    n : ℕ
    n = get_or w 0 0

    fits : 1 + s * n ≤ length w
    fits = room_words l (length w) n b.some b.fits

    words : words_of (entries_of s w) ≡ take (s * n) (drop 1 w)
    words = write_back s two n (drop 1 w) (omega (arith, fits, length-drop 1 w))

    held : length (take (s * n) (drop 1 w)) ≡ s * n
    held = length-take-le (s * n) (drop 1 w) (omega (arith, fits, length-drop 1 w))

-- VALUES of s - 2 words: entry by entry, and number by number
pub shaped_value : (s : ℕ) (es : List Entry) → Shaped s es → (x : ℕ) (v : Value) → value_at es x ≡ some v → 2 + length v ≡ s
shaped_value s [] h x v q = absurd (none≢some none v refl q)
shaped_value s (e ∷ es) h x v q = go (side e x) (shaped_value s es h.1 x v)
  where
    go : Side e x → (value_at es x ≡ some v → 2 + length v ≡ s) → 2 + length v ≡ s
    go (under p) ih = ih (sym (val_under e es x p) ∙ q)
    go (inside p r) ih =
        let w : some e.value ≡ some v = sym (val_in e es x p r) ∙ q in
        let u : e.value ≡ v = cc in
        ap (λ (l : List ℕ). 2 + length l) (sym u) ∙ h.0
    go (past p) ih = ih (sym (val_past e es x p) ∙ q)

pub value_shaped : (s : ℕ) (es : List Entry) → Sound es → ((x : ℕ) (v : Value) → value_at es x ≡ some v → 2 + length v ≡ s) → Shaped s es
value_shaped s [] t h = tt
value_shaped s (e ∷ es) t h = (h e.low e.value (val_in e es e.low (omega arith) t.0), value_shaped s es t.2 rest)
  where
    rest : (x : ℕ) (v : Value) → value_at es x ≡ some v → 2 + length v ≡ s
    rest x v q = go (dec_lt e.high x)
      where
        go : Dec (e.high < x) → 2 + length v ≡ s
        go (yes p) = h x v (val_past e es x p ∙ q)
        go (no p) = absurd (none≢some _ _ (none_upto e es t.1 t.2 x (omega arith)) q)

pub listed_shaped : (s : ℕ) (F : ℕ → Option Value) (es : List Entry) → ListOf F es → ((x : ℕ) (v : Value) → F x ≡ some v → 2 + length v ≡ s)
    → Shaped s es
listed_shaped s F es l h = value_shaped s es l.sound (λ x v q. h x v (sym (l.names x) ∙ q))
