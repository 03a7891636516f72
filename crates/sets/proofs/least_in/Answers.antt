use Rattle.std.proofs.Common.{refl, arith}
use Rattle.sets.proofs.Asking.{least_inside, least_none, least_next}
use Rattle.sets.proofs.least_in.Goals as goal

pub returns-then-spot : goal.returns-then-spot
returns-then-spot c = least_inside c.requires c.spot_of-spot.ensures c.if-spot.true

pub returns-then-count_of-spot : goal.returns-then-count_of-spot
returns-then-count_of-spot c =
    least_none c.requires c.spot_of-spot.ensures c.if-spot.false (omega (arith, c.count_of.ensures, c.if-count_of-spot.true))

pub returns : goal.returns
returns c =
    least_next c.requires c.spot_of-spot.ensures c.if-spot.false (omega (arith, c.count_of.ensures, c.if-count_of-spot.false)) _ refl
