use Rattle.std.proofs.Common.{arith}
use Rattle.prefixes.proofs.Passes.{notes_room, taking_on, taking_end}
use Rattle.prefixes.proofs.Pairs.take_range.Goals as goal

pub note-requires : goal.note-requires
note-requires c = notes_room c.requires.1 c.loop-low.invariant.notes

pub returns-then-left-more : goal.returns-then-left-more
returns-then-left-more c =
    taking_end c.loop-low.invariant c.exponent-e.ensures _ c.ones-more.ensures c.note.ensures (omega (arith, c.if-left-more.true))

pub loop-low-preserved : goal.loop-low-preserved
loop-low-preserved c =
    taking_on c.loop-low.invariant c.exponent-e.ensures _ c.ones-more.ensures c.note.ensures (omega (arith, c.if-left-more.false))
