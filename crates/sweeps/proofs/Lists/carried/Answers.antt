use Rattle.sweeps.proofs.Segments.{reach_c}
use Rattle.sweeps.proofs.Lists.carried.Goals as goal

pub words_behind-requires-then-kept : goal.words_behind-requires-then-kept
words_behind-requires-then-kept c = (
  c.requires.swept.fit.two,
  c.requires.swept.fit.four,
  reach_c c.args.at c.requires.swept c.requires.points c.requires.accepts c.if-kept.true c.if-at.false c.if-at-2.false c.if-self-eq2.false,
)
