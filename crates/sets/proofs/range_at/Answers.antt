use Rattle.blocks.proofs.Refusing.{accepted_sound}
use Rattle.sets.proofs.range_at.Goals as goal

pub range_in-requires : goal.range_in-requires
range_in-requires c = accepted_sound c.in_ok-judge.ensures
