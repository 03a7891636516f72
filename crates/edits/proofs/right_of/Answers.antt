-- The item behind the new entry: apart from it, joined with it, or of another value.
use Rattle.std.proofs.Common.{refl, sym, ◌∙◌}
use Rattle.edits.proofs.Sides.{sides_ok, among_n, right_none, right_beside}
use Rattle.edits.proofs.right_of.Goals as goal

pub returns-then-n-j : goal.returns-then-n-j
returns-then-n-j c = right_none (sides_ok c.requires) refl (among_n c.requires.edit _ _ _ c.ended_by-j.ensures) c.if-n-j.true

pub returns-then-beyond : goal.returns-then-beyond
returns-then-beyond c =
    (right_beside (sides_ok c.requires) refl (among_n c.requires.edit _ _ _ c.ended_by-j.ensures) c.if-n-j.false).apart_from
    refl c.beyond.ensures c.if-beyond.true

pub returns-then-same_words : goal.returns-then-same_words
returns-then-same_words c =
    (right_beside (sides_ok c.requires) refl (among_n c.requires.edit _ _ _ c.ended_by-j.ensures) c.if-n-j.false).joined
    refl c.beyond.ensures c.if-beyond.false (sym c.if-same_words.true ∙ c.same_words.ensures) refl

pub returns : goal.returns
returns c =
    (right_beside (sides_ok c.requires) refl (among_n c.requires.edit _ _ _ c.ended_by-j.ensures) c.if-n-j.false).differs
    (sym c.if-same_words.false ∙ c.same_words.ensures)
