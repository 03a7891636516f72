use Rattle.std.proofs.Common.{refl}
use Rattle.prefixes.proofs.Storing.{taken_most}
use Rattle.prefixes.proofs.prefix_blocks.Goals as goal

pub lay_out-requires : goal.lay_out-requires
lay_out-requires c = λ w b l. taken_most b l refl
