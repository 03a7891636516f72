use Rattle.std.proofs.Common.{arith}
use Rattle.verdicts.proofs.Walking.{walk_all, none_left_here, no_others_here, walk_left, walk_right, share_here}
use Rattle.verdicts.proofs.share_records.Goals as goal

pub loop-i-init : goal.loop-i-init
loop-i-init c =
    let a = c.args in
    record { within = omega arith; within_too = omega arith; left = walk_all a.first a.p a.n a.second a.q a.m a.bytes.now c.requires.0 c.requires.1 }

pub loop-i-preserved-then-get8 : goal.loop-i-preserved-then-get8
loop-i-preserved-then-get8 c =
    let a = c.args in
    record {
      within = omega arith;
      within_too = c.loop-i.invariant.within_too;
      left = walk_left a.first a.p a.n a.second a.q a.m a.bytes.now c.requires.0 c.requires.1 c.loop-i.i c.loop-i.j c.loop-i.invariant.left c.loop-i-test.true
          c.if-j-m.true _ _ c.get8.ensures c.get8-in-loop-i.ensures c.if-get8.true;
    }

pub loop-i-preserved : goal.loop-i-preserved
loop-i-preserved c =
    let a = c.args in
    record {
      within = c.loop-i.invariant.within;
      within_too = omega arith;
      left = walk_right a.first a.p a.n a.second a.q a.m a.bytes.now c.requires.0 c.requires.1 c.loop-i.i c.loop-i.j c.loop-i.invariant.left c.loop-i-test.true
          c.if-j-m.true _ _ c.get8-else-get8.ensures c.get8-else-get8-2.ensures c.if-get8-2.true;
    }

pub returns-else-get8-2 : goal.returns-else-get8-2
returns-else-get8-2 c =
    let a = c.args in
    share_here a.first a.p a.n a.second a.q a.m a.bytes.now c.requires.0 c.requires.1 c.loop-i.i c.loop-i.j c.loop-i.invariant.left
    c.loop-i-test.true c.if-j-m.true _ _ _ _ c.get8.ensures c.get8-in-loop-i.ensures
    c.get8-else-get8.ensures c.get8-else-get8-2.ensures c.if-get8.false c.if-get8-2.false

pub returns-else-j-m : goal.returns-else-j-m
returns-else-j-m c =
    let a = c.args in
    no_others_here a.first a.p a.n a.second a.q a.m a.bytes.now c.requires.0 c.requires.1 c.loop-i.i c.loop-i.j c.loop-i.invariant.left c.if-j-m.false

pub returns-after-loop-i : goal.returns-after-loop-i
returns-after-loop-i c =
    let a = c.args in
    none_left_here a.first a.p a.n a.second a.q a.m a.bytes.now c.requires.0 c.requires.1 c.loop-i.i c.loop-i.j c.loop-i.invariant.left c.loop-i-test.false
