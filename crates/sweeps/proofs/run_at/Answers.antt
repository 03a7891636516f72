use mathlib.Core.Path.{refl}
use Rattle.sweeps.proofs.Runs.{turn_low}
use Rattle.sweeps.proofs.run_at.Goals as goal

pub returns-clause-turn : goal.returns-clause-turn
returns-clause-turn g c =
    turn_low c.args.s c.args.w.now c.args.x c.requires.input c.requires.point c.if-at.false c.if-at-2.false _ refl
