use Rattle.answers.specs.Says.{key_values, ranged_keys_says}
use Rattle.told.proofs.Telling.{found_in_twos}
use Rattle.host.proofs.wimblorque_signed_range_at.Goals as goal

pub returns : goal.returns
returns c =
    record { answer = ranged_keys_says c.range_at.result; as_told = found_in_twos key_values _ c.tell.ensures; as_called = c.range_at.ensures }
