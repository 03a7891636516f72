use Rattle.std.proofs.Common.{◌≡◌, ◌<◌, ◌+◌, ◌-◌, ◌*◌, arith, refl}
use Rattle.runs.proofs.Turns.{judge_start, judge_more, judge_bad, judge_fits, judge_end}
use Rattle.runs.proofs.judge_run.Goals as goal

pub loop-i-init : goal.loop-i-init
loop-i-init c = record {
  within = omega arith;
  whole = judge_start c.args.mark c.args.kind c.args.s c.args.n _ c.args.from _ c.args.bytes.now (omega arith) (omega arith);
}

pub returns-in_default : goal.returns-in_default
returns-in_default c =
    let a = c.args in
    let p = a.from + (8 * a.s + 5) * c.loop-i.i in
    let l : 0 < a.n - c.loop-i.i = omega arith in
    rw c.at.ensures
    (c.loop-i.invariant.whole _
    (judge_bad a.mark a.kind a.s p a.bytes.now c.loop-i.before _ c.read_item-read.ensures (a.n - c.loop-i.i) c.unwrap_err.result l c.unwrap_err.ensures))

pub loop-i-preserved : goal.loop-i-preserved
loop-i-preserved c =
    let a = c.args in
    let p = a.from + (8 * a.s + 5) * c.loop-i.i in
    let q = c.in-Ok.is in
    let f = judge_fits a.mark a.kind a.s p a.bytes.now c.loop-i.before _ c.read_item-read.ensures c.requires.0 _ q c.loop-i.invariant.within in
    record {
      within = omega (arith, f);
      whole = λ x h. c.loop-i.invariant.whole x (judge_more a.mark a.kind a.s p a.bytes.now c.loop-i.before _ c.read_item-read.ensures c.requires.0
          (a.n - c.loop-i.i) _ _ _ (omega arith) (omega arith) q x h);
    }

pub returns : goal.returns
returns c =
    let a = c.args in
    let e : c.loop-i.i ≡ a.n = omega arith in
    record {
      clear = (c.loop-i.invariant.whole _ (judge_end a.mark a.kind a.s (a.n - c.loop-i.i) _ _ _ (omega arith))).clear;
      behind = refl;
      within = rw e at c.loop-i.invariant.within;
    }
