use Rattle.records.proofs.Ends.{fill_plain}
use Rattle.records.proofs.fill_item.Goals as goal

pub returns-else-kind-eq-SIGNED : goal.returns-else-kind-eq-SIGNED
returns-else-kind-eq-SIGNED c = fill_plain c.args.kind c.args.s c.args.bytes.now c.args.out.now _ c.requires.0 c.get_words.ensures c.if-kind-eq-SIGNED.false
