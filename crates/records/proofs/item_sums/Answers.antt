use Rattle.std.proofs.Common.{arith}
use Rattle.checks.specs.Check.{fletcher}
use Rattle.checks.specs.Steps.{go_on}
use Rattle.records.proofs.Told.{two_words, three_words, four_words, sums_begin}
use Rattle.records.proofs.item_sums.Goals as goal

pub returns-then-s-eq2 : goal.returns-then-s-eq2
returns-then-s-eq2 c =
    two_words go_on (fletcher 0 0) _ c.args.item _ _ _ (sums_begin _ _ _ _ c.from_kind.ensures c.with8.ensures) c.with8-ends.ensures.on
    c.if-s-eq2.true

pub returns-then-s-eq3 : goal.returns-then-s-eq3
returns-then-s-eq3 c =
    three_words go_on (fletcher 0 0) _ c.args.item _ _ _ (sums_begin _ _ _ _ c.from_kind.ensures c.with8.ensures) c.with8-ends.ensures.on _
    c.with8-value.ensures.on c.if-s-eq3.true

pub returns : goal.returns
returns c =
    four_words go_on (fletcher 0 0) _ c.args.item c.args.s _ _ (sums_begin _ _ _ _ c.from_kind.ensures c.with8.ensures) c.with8-ends.ensures.on _
    c.with8-value.ensures.on _ c.with8-2.ensures.on (omega arith)
