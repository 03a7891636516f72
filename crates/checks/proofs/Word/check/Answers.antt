use Rattle.std.proofs.Common.{rules}
use Rattle.checks.proofs.Words.{reduced_law}
use Rattle.checks.proofs.Word.check.Goals as goal

pub returns : goal.returns
returns c = rw c.from.ensures (reduced_law c.args.self.bits c.carried-q.result (search rules) c.carried-q.ensures)
