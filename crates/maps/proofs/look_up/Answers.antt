use Rattle.blocks.proofs.Refusing.{accepted_sound}
use Rattle.maps.proofs.look_up.Goals as goal

pub value_in-requires : goal.value_in-requires
value_in-requires c = accepted_sound c.in_ok-judge.ensures
