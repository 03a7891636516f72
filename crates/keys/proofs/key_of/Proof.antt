use Rattle.keys.proofs.Machine.{lowered_fits, lowered_key, rest_key}
use borrow.Author.Rules.{rules}
use Rattle.keys.proofs.key_of.Statement.{statement}
use Rattle.keys.proofs.key_of.Tie as tie

pub key_of_spec : {M : Type 1} → statement M
key_of_spec =
    tie.close
    (tie.spec (λ c. search rules) (λ c. lowered_fits c.before.args.word c.if-word-lt-HALF.true) (λ c. lowered_key c.before.args.word c.if-word-lt-HALF.true)
    (λ c. search rules) (λ c. rest_key c.before.args.word c.if-word-lt-HALF.false c.before.ranges.word.fits))
