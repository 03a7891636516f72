use Rattle.std.proofs.Common.{◌∙◌}
use Rattle.answers.proofs.Numbers.{unread_number}
use Rattle.answers.proofs.refusal_of.Goals as goal

pub returns-in-Err : goal.returns-in-Err
returns-in-Err c = c.at-in-Err.ensures ∙ unread_number _ _ c.in-Err.ensures.1
