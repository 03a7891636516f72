use Rattle.std.proofs.Common.{refl, []}
use Rattle.answers.proofs.Turns.{refused_part, given_part}
use Rattle.searches.specs.Calls.{window_part, window_call}
use Rattle.searches.specs.Parts.{no_part}
use Rattle.searches.proofs.Windows.{clear_window, is_part}
use Rattle.searches.proofs.window.Goals as goal

pub meeting-requires : goal.meeting-requires
meeting-requires c = clear_window c.args.layout c.args.block.now c.args.a c.args.b c.requires c.in-Ok.ensures.first.clear

pub returns-in-Ok : goal.returns-in-Ok
unfolding window_call
returns-in-Ok c =
    is_part c.meeting.ensures
    (given_part [] [] [] (window_part c.args.layout.width c.args.block.now c.args.a c.args.b) no_part c.in-Ok.ensures.first)

pub returns-in-Err : goal.returns-in-Err
unfolding window_call
returns-in-Err c =
    is_part (record { block = refl; offset = refl; words = refl })
    (refused_part [] [] [] (window_part c.args.layout.width c.args.block.now c.args.a c.args.b) no_part c.in-Err.ensures.first)
