-- What the steps of the code promise each other. No public promise names these.
use Rattle.std.specs.Prelude.{◌≡◌, List, ℕ, ◌+◌, ◌≤◌, length}
use Rattle.answers.specs.declared.Deciding.{Deciding}
use Rattle.maps.specs.Calls.{deciding, at_position}

-- r is the deciding entry of x, within its map
pub record DecidingOf (site factory : List ℕ) (x : ℕ) (r : Deciding) : Type 0 where
  pub is : r ≡ deciding site factory x
  pub held : r.place + r.length ≤ length (at_position r.position site factory)
