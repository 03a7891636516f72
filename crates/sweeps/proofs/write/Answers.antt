use Rattle.std.proofs.Common.{length, refl}
use Rattle.sweeps.proofs.Storing.{all_met, finished}
use Rattle.sweeps.proofs.write.Goals as goal

pub returns : goal.returns
returns c =
    let m = all_met c.args.plan.out _ c.sweep-n.result (length c.args.o.now) c.requires.fit.two c.requires.c_in_bounds c.sweep-n.ensures.size in
    finished c.args.plan.out c.requires.fit.two c.sweep-n.new.o c.clear.new.block c.sweep-n.result _ (length c.args.o.now) _
    c.sweep-n.auto.o (c.sweep-n.ensures.holds m.0) refl m.1 c.clear.ensures
