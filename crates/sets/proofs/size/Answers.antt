use Rattle.std.proofs.Common.{arith}
use Rattle.blocks.proofs.Refusing.{accepted_sound}
use Rattle.sets.proofs.size.Goals as goal

pub count_of-n-requires : goal.count_of-n-requires
count_of-n-requires c = (accepted_sound c.in_ok-judge.ensures).some

pub size_less_one-requires : goal.size_less_one-requires
size_less_one-requires c =
    record {
      block = accepted_sound c.in_ok-judge.ensures;
      count = c.count_of-n.ensures;
      some = omega arith;
    }
