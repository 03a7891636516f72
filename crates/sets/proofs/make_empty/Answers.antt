use Rattle.sets.proofs.Emptying.{empty_done}
use Rattle.sets.proofs.make_empty.Goals as goal

pub returns : goal.returns
returns c = empty_done c.in_ok-judge_output.ensures _ c.clear.ensures
