use mathlib.Core.Path.{refl}
use Rattle.sweeps.proofs.Runs.{turn_set}
use Rattle.sweeps.proofs.flip.Goals as goal

pub returns : goal.returns
returns c =
    turn_set c.args.s c.args.w.now c.args.x c.requires.input c.requires.point c.requires.two c.if-at.false _ refl _ c.from.ensures
