use Rattle.blocks.proofs.Refusing.{accepted_sound}
use Rattle.sets.proofs.least_member.Goals as goal

pub least_in-requires : goal.least_in-requires
least_in-requires c = accepted_sound c.in_ok-judge.ensures
