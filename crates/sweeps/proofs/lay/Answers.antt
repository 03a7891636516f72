use Rattle.std.proofs.Common.{ℕ, ◌+◌, ap}
use Rattle.sweeps.proofs.Storing.{lay_four}
use native.Mathlib.Omega.{arith}
use Rattle.sweeps.proofs.lay.Goals as goal

pub returns : goal.returns
returns c = lay_four _ _ _ _ _ c.args.piece.goes_on _ (ap (λ (i : ℕ). c.args.q + i) c.from.ensures) _ c.requires.0 c.requires.2 (omega arith)
