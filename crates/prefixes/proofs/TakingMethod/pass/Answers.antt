use Rattle.std.proofs.Common.{refl, arith}
use Rattle.prefixes.proofs.Passes.{notes_room, next, passing_end}
use Rattle.prefixes.proofs.TakingMethod.pass.Goals as goal

pub take_range-requires : goal.take_range-requires
take_range-requires c =
    let t = next _ c.loop-i.invariant (omega (arith, c.loop-i-test.true, c.count_of-n.ensures)) in
    (omega (arith, t.order), notes_room c.requires.1 c.loop-i.invariant.notes)

pub loop-i-preserved : goal.loop-i-preserved
loop-i-preserved c =
    let t = next _ c.loop-i.invariant (omega (arith, c.loop-i-test.true, c.count_of-n.ensures)) in
    t.on refl refl c.take_range.ensures _ (omega (arith, c.loop-i-test.true, c.count_of-n.ensures))

pub returns : goal.returns
returns c = passing_end c.loop-i.invariant (omega (arith, c.loop-i.auto.i-end, c.count_of-n.ensures))
