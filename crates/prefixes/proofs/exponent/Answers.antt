use Rattle.std.proofs.Common.{arith}
use Rattle.prefixes.proofs.Exponents.{all_left, lesser}
use Rattle.prefixes.proofs.exponent.Goals as goal

pub returns-then-left-eq-M : goal.returns-then-left-eq-M
returns-then-left-eq-M c = all_left _ _ c.if-left-eq-M.true

pub returns : goal.returns
returns c = lesser _ _ (omega (arith, c.if-left-eq-M.false, c.ranges.left.fits)) c.min.ensures
