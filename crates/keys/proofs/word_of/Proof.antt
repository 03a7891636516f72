use Rattle.keys.proofs.Machine.{raised_fits, raised_cast, raised_word, plain_cast, plain_fits, plain_word}
use Rattle.keys.proofs.word_of.Statement.{statement}
use Rattle.keys.proofs.word_of.Tie as tie

pub word_of_spec : {M : Type 1} → statement M
word_of_spec =
    tie.close
    (tie.spec (λ c. raised_fits c.before.args.key c.before.ranges.key c.if-key-lt0.true)
    (λ c. raised_cast c.before.args.key c.before.ranges.key c.if-key-lt0.true)
    (λ c. raised_word c.before.args.key c.before.ranges.key c.if-key-lt0.true)
    (λ c. plain_cast c.before.args.key c.before.ranges.key c.if-key-lt0.false)
    (λ c. plain_fits c.before.args.key c.before.ranges.key c.if-key-lt0.false)
    (λ c. plain_word c.before.args.key c.before.ranges.key c.if-key-lt0.false))
