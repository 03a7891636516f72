use Rattle.blocks.proofs.Refusing.{accepted_sound, some_words}
use Rattle.bulletins.proofs.Amending.{two_sound}
use Rattle.bulletins.proofs.Bulletin.judge_application.Goals as goal

pub judge_overlap-requires : goal.judge_overlap-requires
judge_overlap-requires c = two_sound c.in_ok-judge_two.ensures

pub judge_room-requires : goal.judge_room-requires
judge_room-requires c = record {
  first = accepted_sound c.in_ok-judge.ensures;
  second = (two_sound c.in_ok-judge_two.ensures).0;
  third = (two_sound c.in_ok-judge_two.ensures).1;
  some = some_words _ c.in_ok-judge_output.ensures.clear.0;
}
