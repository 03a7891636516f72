use Rattle.std.proofs.Common.{◌+◌, ◌-◌, ◌*◌, ◌∙◌, sym, arith, length, mul-le-mul_left}
use borrow.Rule.Slice.PartMut.{same_len_mid}
use Rattle.checks.specs.Check.{new_mark}
use Rattle.runs.proofs.Turns.{write_turn, write_end}
use Rattle.runs.proofs.write_records.Goals as goal

pub loop-i-preserved : goal.loop-i-preserved
loop-i-preserved c =
    let a = c.args in
    let q = (8 * a.s + 5) * c.loop-i.i in
    record {
      same = same_len_mid q (length c.loop-i.bytes - q) c.loop-i.bytes _ c.write_item.auto.bytes ∙ c.loop-i.invariant.same;
      whole = write_turn new_mark a.kind a.s a.words.now c.requires.1.two c.loop-i.bytes _ _ (a.s * c.loop-i.i) _ q _ (a.n - c.loop-i.i) _ (omega arith)
          (omega arith) (omega arith) (omega (arith, mul-le-mul_left a.s c.loop-i-test.true))
          (omega (arith, mul-le-mul_left (8 * a.s + 5) c.loop-i.auto.i-end)) c.loop-i.invariant.whole c.write_item.ensures;
    }

pub returns : goal.returns
returns c = sym (c.loop-i.invariant.whole ∙ write_end new_mark c.args.kind c.args.s _ _ _ c.loop-i.bytes (omega arith))
