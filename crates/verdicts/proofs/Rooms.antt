-- A block has room for so many items, or has not.
use Prim.Native.Nat.{ℕ, ◌≤◌}
use mathlib.Core.List.{[], ◌∷◌}
use mathlib.Core.Path.{refl}
use lib.Dec.{ltb}
use borrow.Author.Tests.{lt-ltb, le-ltb}
use Rattle.std.specs.Prelude.{◌<◌, Ok, Err}
use Rattle.answers.specs.Answers.{applies}
use Rattle.answers.specs.Says.{at_place}
use Rattle.answers.specs.Steps.{FirstOf}
use Rattle.answers.specs.declared.Reason.TheVariants.{Room}
use Rattle.answers.proofs.Turns.{stops, ends}
use Rattle.blocks.specs.Blocks.{capacity}
use Rattle.blocks.specs.declared.Layout.{Layout}
use Rattle.verdicts.specs.Forms.{no_room_at}

-- one block's room
module _ (layout : Layout) (p l n : ℕ) where
  pub room_left : n ≤ capacity layout l → FirstOf (no_room_at layout p l n ∷ []) (Ok tt)
  room_left h = ends (applies (ltb (capacity layout l) n) 5) p (rw (le-ltb (capacity layout l) n h) refl)

  pub no_room_left : capacity layout l < n → FirstOf (no_room_at layout p l n ∷ []) (Err (at_place Room p))
  no_room_left h = stops Room (at_place Room p) (applies (ltb (capacity layout l) n) 5) p [] refl (rw (lt-ltb (capacity layout l) n h) refl)
