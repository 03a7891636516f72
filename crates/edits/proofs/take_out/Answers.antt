use Rattle.std.proofs.Common.{refl, ◌∙◌}
use Rattle.answers.specs.declared.Reason.TheVariants.{Room}
use Rattle.answers.proofs.Turns.{named}
use Rattle.edits.proofs.Sides.{among_n, out_no, out_yes, out_ok}
use Rattle.edits.proofs.take_out.Goals as goal

pub returns-then-room_for-i : goal.returns-then-room_for-i
returns-then-room_for-i c =
    named Room 0 c.at.ensures _
    ∙ out_no c.requires.0 _ _ _ _ c.requires.1 (among_n c.requires.0 _ _ _ c.begun_before-i.ensures) (among_n c.requires.0 _ _ _ c.ended_by-j.ensures)
    _ c.room_for.ensures c.if-room_for-i.true

pub place-requires : goal.place-requires
place-requires c =
    out_ok c.requires.0 _ _ _ _ c.requires.1 (among_n c.requires.0 _ _ _ c.begun_before-i.ensures) (among_n c.requires.0 _ _ _ c.ended_by-j.ensures)
    _ c.room_for.ensures _ refl c.if-room_for-i.false

pub returns : goal.returns
returns c =
    out_yes c.requires.0 _ _ _ _ c.requires.1 (among_n c.requires.0 _ _ _ c.begun_before-i.ensures) (among_n c.requires.0 _ _ _ c.ended_by-j.ensures)
    _ c.room_for.ensures _ c.if-room_for-i.false c.place.ensures
