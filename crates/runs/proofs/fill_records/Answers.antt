use Rattle.std.proofs.Common.{◌+◌, ◌-◌, ◌*◌, ◌∙◌, sym, arith, length, mul-le-mul_left}
use borrow.Rule.Slice.PartMut.{same_len_mid}
use Rattle.runs.proofs.Turns.{fill_turn, fill_end}
use Rattle.runs.proofs.fill_records.Goals as goal

pub loop-i-preserved : goal.loop-i-preserved
loop-i-preserved c =
    let a = c.args in
    let w = a.s * c.loop-i.i in
    record {
      same = same_len_mid w (length c.loop-i.out - w) c.loop-i.out _ c.fill_item.auto.out ∙ c.loop-i.invariant.same;
      whole = fill_turn a.kind a.s a.bytes.now c.requires.two c.loop-i.out _ _ w _ ((8 * a.s + 5) * c.loop-i.i) _ (a.n - c.loop-i.i) _ (omega arith)
          (omega arith) (omega arith) (omega (arith, mul-le-mul_left a.s c.loop-i.auto.i-end)) c.loop-i.invariant.whole c.fill_item.ensures;
    }

pub returns : goal.returns
returns c = sym (c.loop-i.invariant.whole ∙ fill_end c.args.kind c.args.s _ _ _ c.loop-i.out (omega arith))
