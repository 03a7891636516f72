-- The item before the new entry: apart from it, joined with it, or of another value.
use Rattle.std.proofs.Common.{refl, sym, ◌∙◌}
use Rattle.edits.proofs.Sides.{sides_ok, among_n, left_beside}
use Rattle.edits.proofs.left_of.Goals as goal

pub returns-then-beyond : goal.returns-then-beyond
returns-then-beyond c =
    (left_beside (sides_ok c.requires) refl (among_n c.requires.edit _ _ _ c.begun_before-i.ensures) c.if-i-eq0.false).apart_from
    refl c.beyond.ensures c.if-beyond.true

pub returns-then-same_words : goal.returns-then-same_words
returns-then-same_words c =
    (left_beside (sides_ok c.requires) refl (among_n c.requires.edit _ _ _ c.begun_before-i.ensures) c.if-i-eq0.false).joined
    refl c.beyond.ensures c.if-beyond.false (sym c.if-same_words.true ∙ c.same_words.ensures) refl

pub returns : goal.returns
returns c =
    (left_beside (sides_ok c.requires) refl (among_n c.requires.edit _ _ _ c.begun_before-i.ensures) c.if-i-eq0.false).differs
    (sym c.if-same_words.false ∙ c.same_words.ensures)
