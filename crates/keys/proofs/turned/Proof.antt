use Rattle.keys.proofs.Machine.{turned_low, turned_high}
use borrow.Author.Rules.{rules}
use Rattle.keys.proofs.turned.Statement.{statement}
use Rattle.keys.proofs.turned.Tie as tie

pub turned_spec : {M : Type 1} → statement M
turned_spec =
    tie.close
    (tie.spec (λ c. search rules) (λ c. turned_low c.before.args.x c.if-x-lt-HALF.true)
    (λ c. turned_high c.before.args.x c.if-x-lt-HALF.false c.before.ranges.x.fits))
