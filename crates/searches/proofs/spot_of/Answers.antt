use Rattle.std.proofs.Common.{refl}
use Rattle.searches.proofs.Finding.{highs}
use Rattle.searches.proofs.Spots.{spot_end, spot_by}
use Rattle.searches.proofs.spot_of.Goals as goal

pub first_from-below-requires : goal.first_from-below-requires
first_from-below-requires c = highs c.requires.0 c.requires.1 c.count_of-n.ensures

pub returns-then-n-below : goal.returns-then-n-below
returns-then-n-below c = spot_end c.requires.0 c.requires.1 c.count_of-n.ensures c.first_from-below.ensures c.if-n-below.true

pub returns : goal.returns
returns c = spot_by c.requires.0 c.requires.1 c.count_of-n.ensures c.first_from-below.ensures c.if-n-below.false _ refl
