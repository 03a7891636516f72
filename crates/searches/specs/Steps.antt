-- What the steps of the code promise each other. No public promise names these.
use Rattle.std.specs.Prelude.{◌≡◌, List, ℕ, ◌+◌, ◌*◌, ◌-◌, ◌≤◌, ◌<◌, length, get_or, take, drop}
use Rattle.std.proofs.Math.Option.{none, some}
use Rattle.entries.specs.Entries.{value_at}
use Rattle.entries.specs.Sets.{has}
use Rattle.entries.specs.Questions.{wholly_below}
use Rattle.blocks.specs.declared.Layout.{Layout}
use Rattle.blocks.specs.Blocks.{entries_of, SoundBlock}
use Rattle.searches.specs.Calls.{window_place, window_length, window_part}
use Rattle.answers.specs.declared.Part.{Part}
use Rattle.searches.specs.declared.Spot.{Spot}

-- f does not fall on 0..n-1
abbrev pub Rises : (ℕ → ℕ) → ℕ → Type 0
Rises f n = (i j : ℕ) → i ≤ j → j < n → f i ≤ f j

pub record Rising (f : ℕ → ℕ) (n : ℕ) : Type 0 where
  pub rises : Rises f n

-- r is the first of 0..n-1 at which f is at least x, or n
pub record First (f : ℕ → ℕ) (n x r : ℕ) : Type 0 where
  pub within : r ≤ n
  pub before : (k : ℕ) → k < r → f k < x
  pub from : r < n → x ≤ f r

-- n items of s words stand in w, and their words at off, counted from 1, do not fall (`sorted_lows`, `sorted_highs` in proofs/Finding)
pub record Sorted (s off n : ℕ) (w : List ℕ) : Type 0 where
  pub two : 2 ≤ s
  pub held : 1 + s * n ≤ length w
  pub within : off ≤ s
  pub rises : Rises (λ k. get_or w (s * k + off) 0) n

-- r is the first of n items, of s words each, whose word at off is at least x, or n
abbrev pub FirstFrom : (ws : List ℕ) (s off n x r : ℕ) → Type 0
FirstFrom ws s off n x r = First (λ k. get_or ws (s * k + off) 0) n x r

-- [W1, W2] where x sits in the block w: how many items lie wholly below it, whether one holds it or not; and whether one does
pub record SpotOf (l : Layout) (w : List ℕ) (x : ℕ) (r : Spot) : Type 0 where
  pub below : r.below ≡ length (wholly_below x (entries_of l.width w))
  pub inside : r.inside ≡ has (value_at (entries_of l.width w) x)

-- r is the window x..x of w, within its block: the entry that holds x, or no words; where it has words, they are its value's from the third on
pub record EntryOf (l : Layout) (w : List ℕ) (x : ℕ) (r : Part) : Type 0 where
  pub is : r ≡ window_part l.width w x x
  pub held : r.place + r.length ≤ length w
  pub none : r.length ≡ 0 → value_at (entries_of l.width w) x ≡ none
  pub value : (r.length ≡ 0 → ⊥) → (value_at (entries_of l.width w) x ≡ some (take (l.width - 2) (drop (r.place + 2) w))) × (r.length ≡ l.width)

-- a sound block and a window in order
pub record Windowed (l : Layout) (w : List ℕ) (a b : ℕ) : Type 0 where
  pub two : 2 ≤ l.width
  pub block : SoundBlock l w
  pub order : a ≤ b

-- the part of a window, within its block
pub record PartOf (s : ℕ) (w : List ℕ) (a b : ℕ) (p : Part) : Type 0 where
  pub place : p.place ≡ window_place s w a
  pub words : p.length ≡ window_length s w a b
  pub held : p.place + p.length ≤ length w
