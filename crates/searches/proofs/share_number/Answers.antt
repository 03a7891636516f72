use Rattle.std.proofs.Common.{refl, arith, get_or}
use Rattle.blocks.specs.Blocks.{set_layout}
use Rattle.blocks.proofs.Items.{held}
use Rattle.searches.proofs.Walking.{in_words, all_left, no_others, none_left, same_answer, other_answer, stepped, met, walks_within, walks_on}
use Rattle.searches.proofs.share_number.Goals as goal

pub loop-left-init : goal.loop-left-init
loop-left-init c =
    let a = c.args.a.now in
    let b = c.args.b.now in
    record {
      first = omega (arith, held set_layout (omega arith) a c.count_of-left.result c.count_of-left.ensures c.requires.0);
      second = omega (arith, held set_layout (omega arith) b c.count_of-others.result c.count_of-others.ensures c.requires.1);
      rest = all_left (in_words a) (in_words b) (get_or a 0 0) 1 (get_or b 0 0) 1 c.count_of-left.result c.count_of-others.result
          c.count_of-left.ensures c.count_of-others.ensures c.requires.0.sound c.requires.1.sound;
    }

pub returns-then-others-eq0 : goal.returns-then-others-eq0
returns-then-others-eq0 c = no_others (in_words c.args.a.now) (in_words c.args.b.now) c.loop-left.invariant.rest c.if-others-eq0.true

pub returns-then-below-above : goal.returns-then-below-above
returns-then-below-above c =
    met _ _ c.loop-left.invariant.rest (omega (arith, c.loop-left-test.true)) (omega (arith, c.if-others-eq0.false)) _ _ refl refl
    (same_answer _ _ c.if-below-above.true)

pub loop-left-smaller : goal.loop-left-smaller
loop-left-smaller c =
    walks_on _ _ _ _ _ _ (other_answer _ _ c.if-below-above.false) (omega (arith, c.loop-left-test.true)) (omega (arith, c.if-others-eq0.false))
    c.chosen-left.ensures c.chosen-others.ensures

pub loop-left-preserved : goal.loop-left-preserved
loop-left-preserved c =
    let inv = c.loop-left.invariant in
    record {
      first = walks_within _ _ _ _ _ _ (omega (arith, c.loop-left-test.true)) inv.first c.chosen-i.ensures c.chosen-left.ensures;
      second = walks_within _ _ _ _ _ _ (omega (arith, c.if-others-eq0.false)) inv.second c.chosen-j.ensures c.chosen-others.ensures;
      rest = stepped _ _ inv.rest (omega (arith, c.loop-left-test.true)) (omega (arith, c.if-others-eq0.false)) _ _ refl refl
          (other_answer _ _ c.if-below-above.false) _ _ _ _ c.chosen-i.ensures c.chosen-left.ensures c.chosen-j.ensures c.chosen-others.ensures;
    }

pub returns : goal.returns
returns c = none_left (in_words c.args.a.now) (in_words c.args.b.now) c.loop-left.invariant.rest (omega (arith, c.loop-left-test.false))
