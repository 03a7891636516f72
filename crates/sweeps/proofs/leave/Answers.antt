use mathlib.Core.Path.{refl}
use Rattle.sweeps.proofs.Runs.{leave_last, next_later, leave_touching, leave_apart}
use native.Mathlib.Omega.{arith}
use Rattle.sweeps.proofs.leave.Goals as goal

pub returns-then-q-end : goal.returns-then-q-end
returns-then-q-end c =
    leave_last c.args.s c.args.w.now c.args.x c.requires.input c.requires.point _ _
    refl refl c.if-q-end.true

pub overflow_sub-low : goal.overflow_sub-low
overflow_sub-low c =
    omega (
      arith,
      next_later c.args.s c.args.w.now c.args.x c.requires.input c.requires.point _ _
          refl refl c.if-q-end.false,
    )

pub returns-then-low-high-eq1 : goal.returns-then-low-high-eq1
returns-then-low-high-eq1 c =
    leave_touching c.args.s c.args.w.now c.args.x c.requires.input c.requires.point _ _
    refl refl c.if-q-end.false _ refl c.if-low-high-eq1.true

pub returns : goal.returns
returns c =
    leave_apart c.args.s c.args.w.now c.args.x c.requires.input c.requires.point _ _
    refl refl c.if-q-end.false _ refl c.if-low-high-eq1.false
