use Rattle.std.proofs.Common.{◌∙◌, arith}
use Rattle.blocks.proofs.Tests.{from_first, from_next, from_bad, from_last}
use Rattle.blocks.proofs.items_sound.Goals as goal

pub loop-i-init : goal.loop-i-init
loop-i-init c = from_first c.args.s c.args.block.now c.args.n

pub returns-then-not-follows : goal.returns-then-not-follows
returns-then-not-follows c =
    from_bad c.args.s c.args.block.now c.args.n c.loop-i.i c.loop-i.auto.i c.loop-i-test.true _ c.follows.ensures c.if-not-follows.true ∙ c.loop-i.invariant

pub loop-i-preserved : goal.loop-i-preserved
loop-i-preserved c =
    from_next c.args.s c.args.block.now c.args.n c.loop-i.i c.loop-i.auto.i c.loop-i-test.true _ c.follows.ensures c.if-not-follows.false ∙ c.loop-i.invariant

pub returns : goal.returns
returns c =
    from_last c.args.s c.args.block.now c.args.n c.loop-i.i (omega (arith, c.loop-i.auto.i-end)) c.if-n-eq0.false ∙ c.loop-i.invariant
