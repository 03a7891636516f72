use Rattle.blocks.proofs.Refusing.{some_words}
use Rattle.bulletins.proofs.Amending.{two_sound}
use Rattle.bulletins.proofs.Bulletin.judge_fold.Goals as goal

pub judge_overlap-requires : goal.judge_overlap-requires
judge_overlap-requires c = two_sound c.in_ok-judge_two.ensures

pub judge_overlap-requires-2 : goal.judge_overlap-requires-2
judge_overlap-requires-2 c = two_sound c.in_ok-judge_two-2.ensures

pub judge_room-requires : goal.judge_room-requires
judge_room-requires c =
    let e = two_sound c.in_ok-judge_two.ensures in
    let l = two_sound c.in_ok-judge_two-2.ensures in
    record { first = e.0; second = l.0; third = l.1; some = some_words _ c.in_ok-judge_output.ensures.clear.0 }

pub judge_room-requires-2 : goal.judge_room-requires-2
judge_room-requires-2 c =
    let e = two_sound c.in_ok-judge_two.ensures in
    let l = two_sound c.in_ok-judge_two-2.ensures in
    rw (c.turned.ensures.0, c.turned.ensures.1)
    (record { first = e.1; second = l.1; third = l.0; some = some_words _ c.in_ok-judge_output-2.ensures.clear.0 })
