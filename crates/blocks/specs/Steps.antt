-- What the steps of the code promise each other. No public promise names these.
use Rattle.std.specs.Prelude.{ℕ, ◌+◌, ◌*◌, ◌-◌, ◌≤◌, ◌<◌, ◌≡◌, List, [], length, get_or, take, drop}
use Rattle.entries.specs.Entries.{Entry, entry}

-- the item whose words begin at p
abbrev pub item_from : ℕ → List ℕ → ℕ → Entry
item_from s w p = entry (get_or w p 0) (get_or w (p + 1) 0) (take (s - 2) (drop (p + 2) w))

-- item i of a block, by its words
abbrev pub item_at : ℕ → List ℕ → ℕ → Entry
item_at s w i = entry (get_or w (s * i + 1) 0) (get_or w (s * i + 2) 0) (take (s - 2) (drop (s * i + 3) w))

abbrev pub zero_item : Entry
zero_item = entry 0 0 []

-- n items of s words stand in w
pub record Held (s n : ℕ) (w : List ℕ) : Type 0 where
  pub two : 2 ≤ s
  pub held : 1 + s * n ≤ length w

-- every word from `from` on is 0, and each before is as it was
pub record Cleared (ws : List ℕ) (from : ℕ) (ws' : List ℕ) : Type 0 where
  pub same : length ws' ≡ length ws
  pub before : (k : ℕ) → k < from → get_or ws' k 0 ≡ get_or ws k 0
  pub zero : (k : ℕ) → from ≤ k → get_or ws' k 0 ≡ 0

-- ws' is ws with new in the place of the words from `at` up to `from`, the words up to `end` after it, count as word 0, and 0 in
-- every later word
pub record Spliced (ws new : List ℕ) (at from end count : ℕ) (ws' : List ℕ) : Type 0 where
  pub head : get_or ws' 0 0 ≡ count
  pub front : (k : ℕ) → 0 < k → k < at → get_or ws' k 0 ≡ get_or ws k 0
  pub new_at : (k t : ℕ) → k ≡ at + t → t < length new → get_or ws' k 0 ≡ get_or new t 0
  pub back : (k q : ℕ) → k + from ≡ q + at + length new → from ≤ q → q < end → get_or ws' k 0 ≡ get_or ws q 0
  pub tail : (k : ℕ) → end + at + length new ≤ k + from → get_or ws' k 0 ≡ 0
