use Rattle.std.proofs.Common.{length}
use Rattle.sweeps.proofs.Standing.{standing_room, stopped_end, stopped_early}
use native.Mathlib.Omega.{arith}
use Rattle.sweeps.proofs.Lists.sweep_as.Goals as goal

pub add-n-requires : goal.add-n-requires
add-n-requires g c =
    standing_room c.loop-n.invariant.stands c.segment_at-s.ensures.segment c.joins.ensures (length c.loop-n.o) c.requires.swept.fit.two
    c.requires.swept.fit.four (omega arith) (omega arith)

pub returns-then-s : goal.returns-then-s
returns-then-s g c =
    stopped_end c.loop-n.invariant.stands c.segment_at-s.ensures.segment c.joins.ensures c.add-n.new.o c.add-n.ensures c.args.stop
    c.loop-n-test.true c.if-s.true

pub returns : goal.returns
returns g c = stopped_early c.loop-n.invariant.stands c.args.stop c.loop-n.invariant.most c.loop-n-test.false
