use Rattle.std.proofs.Common.{refl, ◌∙◌, arith}
use Rattle.answers.specs.declared.Reason.TheVariants.{Room}
use Rattle.answers.proofs.Turns.{named}
use Rattle.edits.proofs.Sides.{among, put_no, put_done, put_ok, ends_length}
use Rattle.edits.proofs.put_value.Goals as goal

-- both sides stand among the items
pub overflow_add-i : goal.overflow_add-i
overflow_add-i c = record { fits = omega (arith, among c.requires.edit c.requires.order c.left_of-l.ensures c.right_of-r.ensures) }

pub overflow_sub-n : goal.overflow_sub-n
overflow_sub-n c = omega (arith, among c.requires.edit c.requires.order c.left_of-l.ensures c.right_of-r.ensures)

pub overflow_add-i-2 : goal.overflow_add-i-2
overflow_add-i-2 c = record { fits = omega (arith, among c.requires.edit c.requires.order c.left_of-l.ensures c.right_of-r.ensures) }

pub returns-then-room_for-i : goal.returns-then-room_for-i
returns-then-room_for-i c =
    named Room 0 c.at.ensures _
    ∙ put_no c.requires.edit c.requires.order c.left_of-l.ensures c.right_of-r.ensures c.room_for.ensures c.if-room_for-i.true

pub place-requires : goal.place-requires
place-requires c =
    put_ok c.requires.edit c.requires.order c.left_of-l.ensures c.right_of-r.ensures c.room_for.ensures _
    (ends_length _ _ c.args.new.now _ c.set_ends.ensures (omega (arith, c.requires.whole, c.requires.edit.two)) ∙ c.requires.whole)
    c.if-room_for-i.false

pub returns : goal.returns
returns c =
    put_done c.requires.edit c.requires.order c.left_of-l.ensures c.right_of-r.ensures c.room_for.ensures c.args.new.now refl
    c.set_ends.ensures c.if-room_for-i.false c.place.ensures
