use Rattle.std.proofs.Common.{arith}
use Rattle.blocks.proofs.Refusing.{accepted_sound}
use Rattle.sets.proofs.member.Goals as goal

pub spot_of-spot-requires : goal.spot_of-spot-requires
spot_of-spot-requires c = (omega arith, accepted_sound c.in_ok-judge.ensures)
