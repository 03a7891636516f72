use Rattle.std.proofs.Common.{refl}
use Rattle.prefixes.proofs.Storing.{audited_most}
use Rattle.prefixes.proofs.audit_blocks.Goals as goal

pub lay_out-requires : goal.lay_out-requires
lay_out-requires c = λ w b l. audited_most b l refl
