-- The item that holds x stands in the block, and one more item is a count still.
use Rattle.std.proofs.Common.{refl, arith}
use Rattle.searches.proofs.Ends.{holding, few, ended_in, ended_out}
use Rattle.searches.proofs.ended_by.Goals as goal

pub overflow_mul-high : goal.overflow_mul-high
overflow_mul-high c = record { fits = omega (arith, (holding c.requires.0 c.requires.1 c.spot_of-spot.ensures c.if-spot.true).words) }

pub overflow_add-high : goal.overflow_add-high
overflow_add-high c = record { fits = omega (arith, (holding c.requires.0 c.requires.1 c.spot_of-spot.ensures c.if-spot.true).words) }

pub offset_bounds-block-layout : goal.offset_bounds-block-layout
offset_bounds-block-layout c = record { fits = omega (arith, (holding c.requires.0 c.requires.1 c.spot_of-spot.ensures c.if-spot.true).words) }

pub bounds-block-layout : goal.bounds-block-layout
bounds-block-layout c = omega (arith, (holding c.requires.0 c.requires.1 c.spot_of-spot.ensures c.if-spot.true).words)

pub overflow_add-spot : goal.overflow_add-spot
overflow_add-spot c = record { fits = omega (arith, few c.requires.0 c.requires.1 c.spot_of-spot.ensures) }

pub returns-then-spot : goal.returns-then-spot
returns-then-spot c = ended_in c.requires.0 c.requires.1 c.spot_of-spot.ensures c.if-spot.true refl c.chosen.ensures

pub returns : goal.returns
returns c = ended_out c.requires.0 c.requires.1 c.spot_of-spot.ensures c.if-spot.false
