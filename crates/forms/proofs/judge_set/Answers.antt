use Rattle.std.proofs.Common.{arith}
use Rattle.answers.specs.Says.{one_value}
use Rattle.verdicts.specs.Forms.{of_set}
use Rattle.verdicts.proofs.Whole.{set_kind, start_long}
use Rattle.forms.proofs.Reading.{says_failed, judge_refused, judge_good}
use Rattle.forms.proofs.judge_set.Goals as goal

pub returns-in_err-judge_form : goal.returns-in_err-judge_form
returns-in_err-judge_form c =
    says_failed one_value _ _ _ _ c.from_residual.ensures.1 (judge_refused c.args.bytes.now _ c.in_err-judge_form.ensures)

pub get2-requires : goal.get2-requires
get2-requires c = omega (arith, start_long of_set set_kind c.args.bytes.now c.in_ok-judge_form.ensures.clear)

pub returns : goal.returns
returns c = judge_good c.args.bytes.now c.in_ok-judge_form.ensures _ c.get2.ensures.0
