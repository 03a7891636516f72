-- What the steps of an edit promise each other. No public promise names these.
use Rattle.std.specs.Prelude.{ℕ, suc, ◌+◌, ◌*◌, ◌-◌, ◌≤◌, ◌<◌, min, max, ◌≡◌, List, eqb, ltb, length, get_or, set, take, drop}
use Rattle.entries.specs.Build.{pick}
use Rattle.entries.specs.Entries.{Sound}
use Rattle.blocks.specs.declared.Layout.{Layout}
use Rattle.blocks.specs.Blocks.{items_of, SoundBlock}

-- one word changed
abbrev pub update : List ℕ → ℕ → (ℕ → ℕ) → List ℕ
update w p f = set w p (f (get_or w p 0))

-- the high of item i - 1 brought below lo; the low of item k of m brought past hi
abbrev pub cut_end : ℕ → ℕ → ℕ → List ℕ → List ℕ
cut_end s i lo w = pick (eqb i 0) w (update w (s * (i - 1) + 2) (λ h. min h (lo - 1)))

abbrev pub cut_start : ℕ → ℕ → ℕ → ℕ → List ℕ → List ℕ
cut_start s k m hi w = pick (ltb k m) (update w (s * k + 1) (λ l. max l (suc hi))) w

-- item k of m, where there is one, ends past hi
pub record CutOk (s k m hi : ℕ) (w : List ℕ) : Type 0 where
  pub two : 2 ≤ s
  pub held : 1 + s * m ≤ length w
  pub from : k < m → hi < get_or w (s * k + 1 + 1) 0

-- items i.. up to j give way to c new ones, and there is room
pub record PlaceOk (w new : List ℕ) (s n i j c hi : ℕ) : Type 0 where
  pub two : 2 ≤ s
  pub held : 1 + s * n ≤ length w
  pub i_le : i ≤ n
  pub j_le : j ≤ n
  pub whole : length new ≡ s * c
  pub room : 1 + (s * i + s * c + s * (n - j)) ≤ length w
  pub from : j < n → hi < get_or w (s * j + 2) 0

-- a sound list of n items, and a new one of as many words
pub record SideOk (w new : List ℕ) (s n : ℕ) : Type 0 where
  pub two : 2 ≤ s
  pub held : 1 + s * n ≤ length w
  pub whole : length new ≡ s
  pub sound : Sound (items_of s n (drop 1 w))

-- a sound block of n items
pub record EditOk (w : List ℕ) (l : Layout) (n : ℕ) : Type 0 where
  pub two : 2 ≤ l.width
  pub block : SoundBlock l w
  pub count : n ≡ get_or w 0 0

-- and a new item with its ends in order
pub record PutOk (w new : List ℕ) (l : Layout) (n : ℕ) : Type 0 where
  pub edit : EditOk w l n
  pub whole : length new ≡ l.width
  pub order : get_or new 0 0 ≤ get_or new 1 0

-- the value of an item of s words
abbrev pub value_of : ℕ → List ℕ → List ℕ
value_of s new = take (s - 2) (drop 2 new)
