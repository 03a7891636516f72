-- The item that holds x stands in the block, and one more item is a count still.
use Rattle.std.proofs.Common.{refl, arith}
use Rattle.searches.proofs.Ends.{holding, few, begun_in, begun_out}
use Rattle.searches.proofs.begun_before.Goals as goal

pub overflow_mul-low : goal.overflow_mul-low
overflow_mul-low c = record { fits = omega (arith, (holding c.requires.0 c.requires.1 c.spot_of-spot.ensures c.if-spot.true).words) }

pub overflow_add-low : goal.overflow_add-low
overflow_add-low c = record { fits = omega (arith, (holding c.requires.0 c.requires.1 c.spot_of-spot.ensures c.if-spot.true).words) }

pub offset_bounds-block-layout : goal.offset_bounds-block-layout
offset_bounds-block-layout c = record { fits = omega (arith, (holding c.requires.0 c.requires.1 c.spot_of-spot.ensures c.if-spot.true).words) }

pub bounds-block-layout : goal.bounds-block-layout
bounds-block-layout c = omega (arith, (holding c.requires.0 c.requires.1 c.spot_of-spot.ensures c.if-spot.true).words)

pub overflow_add-spot : goal.overflow_add-spot
overflow_add-spot c = record { fits = omega (arith, few c.requires.0 c.requires.1 c.spot_of-spot.ensures) }

pub returns-then-spot : goal.returns-then-spot
returns-then-spot c = begun_in c.requires.0 c.requires.1 c.spot_of-spot.ensures c.if-spot.true refl c.chosen.ensures

pub returns : goal.returns
returns c = begun_out c.requires.0 c.requires.1 c.spot_of-spot.ensures c.if-spot.false
