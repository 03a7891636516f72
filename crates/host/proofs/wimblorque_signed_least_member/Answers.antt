use lib.IntN.{ℤ}
use Rattle.keys.specs.Keys.{word_of}
use Rattle.answers.specs.Says.{key_value}
use Rattle.sets.specs.Calls.{least_member_call}
use Rattle.told.proofs.Telling.{found_in_twos}
use Rattle.host.proofs.Keyed.{key_at_one}
use Rattle.host.proofs.wimblorque_signed_least_member.Goals as goal

pub returns : goal.returns
returns c =
    key_at_one (λ (k : ℤ). least_member_call c.args.block.now (word_of k))
    c.args.x c.ranges.x.sfits (found_in_twos key_value _ c.tell.ensures) c.least_member.ensures
