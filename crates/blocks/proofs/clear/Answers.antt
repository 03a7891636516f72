use Rattle.std.proofs.Common.{rules}
use Rattle.blocks.proofs.Copying.{cleared_part}
use Rattle.blocks.proofs.clear.Goals as goal

pub returns-then-from-block : goal.returns-then-from-block
returns-then-from-block c = cleared_part _ _ _ c.if-from-block.true (c.fill.ensures.after (search rules))
