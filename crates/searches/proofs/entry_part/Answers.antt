use Rattle.std.proofs.Common.{arith}
use Rattle.searches.proofs.Entries.{below_held, entry_in, entry_out}
use Rattle.searches.proofs.entry_part.Goals as goal

pub overflow_mul-place : goal.overflow_mul-place
overflow_mul-place c = record { fits = omega (arith, below_held c.requires.0 c.requires.1 c.spot_of-spot.ensures) }

pub overflow_add-place : goal.overflow_add-place
overflow_add-place c = record { fits = omega (arith, below_held c.requires.0 c.requires.1 c.spot_of-spot.ensures) }

pub returns-then-spot : goal.returns-then-spot
returns-then-spot c = entry_in c.requires.0 c.requires.1 c.spot_of-spot.ensures c.if-spot.true

pub returns : goal.returns
returns c = entry_out c.requires.0 c.requires.1 c.spot_of-spot.ensures c.if-spot.false
