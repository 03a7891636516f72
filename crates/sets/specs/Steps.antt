-- What the steps of the code promise each other. No public promise names these.
use Rattle.std.specs.Prelude.{◌≡◌, List, ℕ, ◌<◌, get_or}
use Rattle.operations.specs.declared.Layouts.{Layouts}
use Rattle.blocks.specs.Blocks.{SoundBlock, set_layout}

-- a sound set of n ranges, at least one
pub record Counted (w : List ℕ) (n : ℕ) : Type 0 where
  pub block : SoundBlock set_layout w
  pub count : n ≡ get_or w 0 0
  pub some : 0 < n

-- two sets into a set
abbrev pub set_layouts : Layouts
set_layouts = record { first = set_layout; second = set_layout; out = set_layout }
