-- The items of a block by their index: how many, which words, and that a sound block holds them.
use mathlib.Core.Path.{◌≡◌, sym, ◌∙◌}
use mathlib.Core.List.{List}
use Prim.Native.Nat.{ℕ, ◌≤◌, ◌<◌}
use native.Mathlib.Omega.{arith}
use lib.ListN.{length, get_or, drop}
use Rattle.blocks.specs.declared.Layout.{Layout}
use Rattle.blocks.specs.Blocks.{entries_of, SoundBlock}
use Rattle.blocks.specs.Steps.{zero_item, item_at, Held}
use Rattle.blocks.proofs.Words.{items_length}
use Rattle.blocks.proofs.Moves.{entry_at}
use Rattle.blocks.proofs.Judging.{room_words}

module _ (s : ℕ) (two : 2 ≤ s) (w : List ℕ) (n : ℕ) (e : n ≡ get_or w 0 0) where
  pub entries_count : length (entries_of s w) ≡ n
  entries_count = items_length s (get_or w 0 0) (drop 1 w) ∙ sym e

  pub entry_is : (k : ℕ) → k < n → get_or (entries_of s w) k zero_item ≡ item_at s w k
  entry_is k h = entry_at s two (get_or w 0 0) k w zero_item (omega arith)

pub held : (l : Layout) → 2 ≤ l.width → (w : List ℕ) (n : ℕ) → n ≡ get_or w 0 0 → SoundBlock l w → Held l.width n w
held l two w n e b = record { two = two; held = room_words l (length w) n b.some (omega (arith, b.fits)) }
