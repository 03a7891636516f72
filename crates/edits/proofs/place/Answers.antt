use Rattle.std.proofs.Common.{refl}
use Rattle.edits.proofs.Sides.{cut_ok, place_law}
use Rattle.edits.proofs.place.Goals as goal

pub cut_start-requires : goal.cut_start-requires
cut_start-requires c = cut_ok c.requires c.args.lo _ refl c.splice.ensures _ c.cut_end.ensures

pub returns : goal.returns
returns c = place_law c.requires c.args.lo _ refl c.splice.ensures _ _ refl c.cut_end.ensures c.cut_start.ensures
