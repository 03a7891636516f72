use Rattle.keys.specs.Keys.{word_of}
use Rattle.host.proofs.Keyed.{one_key}
use Rattle.host.proofs.wimblorque_word_of_key.Goals as goal

pub returns : goal.returns
returns c = one_key word_of c.args.key c.ranges.key.sfits c.word_of.ensures
