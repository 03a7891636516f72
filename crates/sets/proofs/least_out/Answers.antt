use Rattle.std.proofs.Common.{refl, arith}
use Rattle.searches.proofs.Spots.{inside_is}
use Rattle.sets.proofs.Asking.{free_here, free_none, free_next}
use Rattle.sets.proofs.least_out.Goals as goal

-- the range that holds x stands in the block
pub overflow_mul-high : goal.overflow_mul-high
overflow_mul-high c = record { fits = omega (arith, (inside_is (omega arith) c.requires c.spot_of-spot.ensures c.if-spot.true).item.held) }

pub overflow_add-high : goal.overflow_add-high
overflow_add-high c = record { fits = omega (arith, (inside_is (omega arith) c.requires c.spot_of-spot.ensures c.if-spot.true).item.held) }

pub offset_bounds-block-spot : goal.offset_bounds-block-spot
offset_bounds-block-spot c = record { fits = omega (arith, (inside_is (omega arith) c.requires c.spot_of-spot.ensures c.if-spot.true).item.held) }

pub bounds-block-spot : goal.bounds-block-spot
bounds-block-spot c = omega (arith, (inside_is (omega arith) c.requires c.spot_of-spot.ensures c.if-spot.true).item.held)

pub returns-then-high : goal.returns-then-high
returns-then-high c = free_none c.requires c.spot_of-spot.ensures c.if-spot.true _ refl c.if-high.true

pub returns-then-spot : goal.returns-then-spot
returns-then-spot c = free_next c.requires c.spot_of-spot.ensures c.if-spot.true _ refl (omega arith)

pub returns : goal.returns
returns c = free_here c.requires c.spot_of-spot.ensures c.if-spot.false (omega arith)
