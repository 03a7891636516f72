use lib.IntN.{ℤ}
use Rattle.keys.specs.Keys.{word_of}
use Rattle.sets.specs.Calls.{remove_call}
use Rattle.host.proofs.Keyed.{at_two}
use Rattle.host.proofs.wimblorque_signed_remove.Goals as goal

pub returns : goal.returns
returns c =
    at_two (λ (k l : ℤ). remove_call c.args.block.now (word_of k) (word_of l)) c.args.a c.args.b c.ranges.a.sfits c.ranges.b.sfits
    c.tell.ensures c.remove.ensures
