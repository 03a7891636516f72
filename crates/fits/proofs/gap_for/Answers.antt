use Rattle.std.proofs.Common.{sym, ◌∙◌, arith}
use Rattle.searches.proofs.Spots.{spot_passed}
use Rattle.fits.proofs.Walking.{walked_start, walked_on}
use Rattle.fits.proofs.gap_for.Goals as goal

pub loop-i-init : goal.loop-i-init
loop-i-init c =
    walked_start _ _ _ _ _ _ _ c.requires (omega arith) c.enough-enough.ensures (spot_passed (omega arith) c.requires.block c.spot_of-spot.ensures)

pub loop-i-preserved : goal.loop-i-preserved
loop-i-preserved c =
    walked_on c.loop-i.invariant (omega (arith, c.count_of-i-end.ensures)) _ c.gap_before-best.ensures _ (sym c.within.ensures ∙ c.if-within.false)
    c.if-b-high.false (omega (arith, c.max-from.ensures))
