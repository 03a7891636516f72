use Rattle.operations.proofs.Making.{any_inputs, any_fit}
use Rattle.operations.proofs.any_of_two.Goals as goal

pub any-requires : goal.any-requires
any-requires c = record { inputs = any_inputs c.requires; fit = any_fit c.requires }
