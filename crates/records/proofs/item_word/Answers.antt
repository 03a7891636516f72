use Rattle.std.proofs.Common.{◌∙◌, arith}
use Rattle.checks.specs.Check.{crc}
use Rattle.checks.specs.Steps.{on_word}
use Rattle.records.proofs.Told.{two_words, three_words, four_words, crc_begin}
use Rattle.records.proofs.item_word.Goals as goal

pub returns-then-s-eq2 : goal.returns-then-s-eq2
returns-then-s-eq2 c =
    two_words on_word crc _ c.args.item _ _ _ (λ ys. crc_begin _ _ c.from_kind.ensures _ ∙ c.with8.ensures ys) c.with8-ends.ensures c.if-s-eq2.true

pub returns-then-s-eq3 : goal.returns-then-s-eq3
returns-then-s-eq3 c =
    three_words on_word crc _ c.args.item _ _ _ (λ ys. crc_begin _ _ c.from_kind.ensures _ ∙ c.with8.ensures ys) c.with8-ends.ensures _
    c.with8-value.ensures c.if-s-eq3.true

pub returns : goal.returns
returns c =
    four_words on_word crc _ c.args.item c.args.s _ _ (λ ys. crc_begin _ _ c.from_kind.ensures _ ∙ c.with8.ensures ys) c.with8-ends.ensures _
    c.with8-value.ensures _ c.with8-2.ensures (omega arith)
