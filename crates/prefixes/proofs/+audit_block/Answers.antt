-- A range at the place is one of the set; a block that is cut has more than one number, and its second half is a node behind the first.
use Rattle.std.proofs.Common.{refl, arith}
use Rattle.prefixes.proofs.Passes.{notes_room}
use Rattle.prefixes.proofs.Nodes.{dropped_end, dropped_below, kept, more, first_half, second_half, cut}
use Rattle.prefixes.proofs.+audit_block.Goals as goal

pub returns-then-count_of-place : goal.returns-then-count_of-place
returns-then-count_of-place t c = dropped_end c.requires.0 _ (omega (arith, c.if-count_of-place.true, c.count_of.ensures))

pub returns-then-last-low : goal.returns-then-last-low
returns-then-last-low t c =
    dropped_below c.requires.0 c.count_of.ensures c.if-count_of-place.false refl _
    c.if-last-low.true

pub returns-then-within : goal.returns-then-within
returns-then-within t c =
    kept c.requires.0 c.count_of.ensures c.if-count_of-place.false refl c.if-last-low.false
    refl c.within.ensures c.if-within.true c.note.ensures

pub audit_block-requires : goal.audit_block-requires
audit_block-requires t c =
    let m = more c.requires.0 c.count_of.ensures c.if-count_of-place.false refl
    c.if-last-low.false refl c.within.ensures c.if-within.false in (
      omega (arith, m, c.decreases),
      (
        first_half c.requires.0 c.count_of.ensures c.if-count_of-place.false refl
            c.if-last-low.false refl c.within.ensures c.if-within.false,
        c.requires.1,
      ),
    )

pub audit_block-requires-2 : goal.audit_block-requires-2
audit_block-requires-2 t c =
    let m = more c.requires.0 c.count_of.ensures c.if-count_of-place.false refl
    c.if-last-low.false refl c.within.ensures c.if-within.false in (
      omega (arith, m, c.decreases),
      (
        second_half c.requires.0 c.count_of.ensures c.if-count_of-place.false refl
            c.if-last-low.false refl c.within.ensures c.if-within.false c.place_from-next.ensures,
        notes_room c.requires.1 c.audit_block.ensures,
      ),
    )

pub returns : goal.returns
returns t c =
    cut c.requires.0 c.count_of.ensures c.if-count_of-place.false refl c.if-last-low.false
    refl c.within.ensures c.if-within.false c.audit_block.ensures c.audit_block-2.ensures
