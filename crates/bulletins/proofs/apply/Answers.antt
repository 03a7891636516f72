use Rattle.bulletins.proofs.Amending.{applies_clear}
use Rattle.bulletins.proofs.apply.Goals as goal

pub amend-requires : goal.amend-requires
amend-requires c = applies_clear c.in_ok-judge_application.ensures
