use Rattle.searches.proofs.Halving.{half_open}
use Rattle.searches.proofs.first_reaching.Goals as goal

pub loop-low-smaller : goal.loop-low-smaller
loop-low-smaller g c = half_open _ _ _ _ _ c.loop-low-test.true c.chosen-low.ensures c.chosen-high.ensures
