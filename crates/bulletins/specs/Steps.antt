-- What the steps of the code promise each other. No public promise names these.
use Rattle.std.specs.Prelude.{◌≡◌, List, ℕ, ◌<◌}
use Rattle.blocks.specs.Blocks.{set_layout, SoundBlock}
use Rattle.blocks.specs.Calls.{no_room}
use Rattle.bulletins.specs.Calls.{amended_with}

-- three judged sets, and an output that has words
pub record Amends (list released withdrawn : List ℕ) (words : ℕ) : Type 0 where
  pub first : SoundBlock set_layout list
  pub second : SoundBlock set_layout released
  pub third : SoundBlock set_layout withdrawn
  pub some : 0 < words

-- and the output has room for the first amended by the others
pub record Writes (list released withdrawn : List ℕ) (words : ℕ) : Type 0 where
  pub amends : Amends list released withdrawn words
  pub room : no_room set_layout words (amended_with list released withdrawn) ≡ 0
