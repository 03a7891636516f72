use Rattle.verdicts.proofs.Two.{start_bad, start_fits, start_passed}
use Rattle.verdicts.proofs.judge_form.Goals as goal

pub returns-in_default : goal.returns-in_default
returns-in_default c =
    rw c.at.ensures
    (start_bad c.args.form c.requires c.args.bytes.now _ c.mark_of-mark.ensures _ c.read_start-read.ensures c.unwrap_err.result c.unwrap_err.ensures)

pub judge_runs-requires : goal.judge_runs-requires
judge_runs-requires c =
    (c.requires, start_fits c.args.form c.requires c.args.bytes.now _ c.mark_of-mark.ensures _ c.read_start-read.ensures _ _ c.in-Ok.is)

pub returns : goal.returns
returns c =
    start_passed c.args.form c.requires c.args.bytes.now _ c.mark_of-mark.ensures _ c.read_start-read.ensures _ _ c.in-Ok.is _ c.judge_runs.ensures
