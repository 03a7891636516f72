use Rattle.blocks.proofs.Refusing.{accepted_sound}
use Rattle.sets.proofs.least_non_member.Goals as goal

pub least_out-requires : goal.least_out-requires
least_out-requires c = accepted_sound c.in_ok-judge.ensures
