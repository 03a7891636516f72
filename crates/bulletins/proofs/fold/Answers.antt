use Rattle.bulletins.proofs.Amending.{first_half, second_half}
use Rattle.bulletins.proofs.fold.Goals as goal

pub amend-requires : goal.amend-requires
amend-requires c = first_half _ _ _ _ _ _ c.in_ok-judge_fold.ensures

pub amend-requires-2 : goal.amend-requires-2
amend-requires-2 c = rw (c.turned.ensures.0, c.turned.ensures.1) (second_half _ _ _ _ _ _ c.in_ok-judge_fold.ensures)
