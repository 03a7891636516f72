-- The two items that were found stand in order, and in the block.
use Rattle.std.proofs.Common.{refl, arith}
use Rattle.searches.proofs.Windows.{found, part_is}
use Rattle.searches.proofs.Spots.{spot_first}
use Rattle.searches.proofs.Ends.{few, begun_by}
use Rattle.searches.proofs.part_at.Goals as goal

pub overflow_add-last : goal.overflow_add-last
overflow_add-last c = record { fits = omega (arith, few c.requires.two c.requires.block c.spot_of-last.ensures) }

pub overflow_mul-from : goal.overflow_mul-from
overflow_mul-from c = record { fits = omega (arith, found c.requires c.spot_of-first.ensures c.spot_of-last.ensures c.chosen-end.ensures) }

pub overflow_add-from : goal.overflow_add-from
overflow_add-from c = record { fits = omega (arith, found c.requires c.spot_of-first.ensures c.spot_of-last.ensures c.chosen-end.ensures) }

pub overflow_mul-to : goal.overflow_mul-to
overflow_mul-to c = record { fits = omega (arith, found c.requires c.spot_of-first.ensures c.spot_of-last.ensures c.chosen-end.ensures) }

pub overflow_add-to : goal.overflow_add-to
overflow_add-to c = record { fits = omega (arith, found c.requires c.spot_of-first.ensures c.spot_of-last.ensures c.chosen-end.ensures) }

pub overflow_sub-result : goal.overflow_sub-result
overflow_sub-result c = omega (arith, found c.requires c.spot_of-first.ensures c.spot_of-last.ensures c.chosen-end.ensures)

pub returns : goal.returns
returns c =
    let p = c.requires in
    part_is p refl (spot_first p.two p.block c.spot_of-first.ensures) (begun_by p.two p.block c.spot_of-last.ensures c.chosen-end.ensures)
