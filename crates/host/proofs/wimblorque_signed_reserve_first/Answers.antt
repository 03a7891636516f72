use lib.IntN.{ℤ}
use Rattle.keys.specs.Keys.{word_of}
use Rattle.answers.specs.Says.{key_value}
use Rattle.fits.specs.Calls.{reserve_first_call}
use Rattle.told.proofs.Telling.{given_in_twos}
use Rattle.host.proofs.Keyed.{key_at_two}
use Rattle.host.proofs.wimblorque_signed_reserve_first.Goals as goal

pub returns : goal.returns
returns c =
    key_at_two (λ (k l : ℤ). reserve_first_call c.args.block.now (word_of k) (word_of l) c.args.k) c.args.a c.args.b c.ranges.a.sfits c.ranges.b.sfits
    (given_in_twos key_value _ c.tell.ensures) c.reserve_first.ensures
