use lib.IntN.{ℤ}
use Rattle.keys.specs.Keys.{word_of}
use Rattle.sets.specs.Calls.{member_call}
use Rattle.host.proofs.Keyed.{at_one}
use Rattle.host.proofs.wimblorque_signed_member.Goals as goal

pub returns : goal.returns
returns c = at_one (λ (k : ℤ). member_call c.args.block.now (word_of k)) c.args.x c.ranges.x.sfits c.tell.ensures c.member.ensures
