use Rattle.sweeps.proofs.Segments.{segment_made}
use native.Mathlib.Omega.{arith}
use Rattle.sweeps.proofs.Lists.segment_at.Goals as goal

pub returns-clause-segment : goal.returns-clause-segment
returns-clause-segment g c =
    segment_made c.args.self c.args.x c.sided-at.result c.run_at-i.result c.run_at-j.result c.run_at-k.result _
    (c.run_at-i.ensures.turn, c.run_at-j.ensures.turn, c.run_at-k.ensures.turn) (omega arith) c.accepted-kept.ensures c.carried-value.ensures
    c.behind.ensures c.behind-2.ensures c.behind-3.ensures
