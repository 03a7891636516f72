-- The gap held is the chosen one of the gaps before `from`.
use Rattle.blocks.specs.Blocks.{entries_of}
use Rattle.entries.specs.Questions.{filter}
use Rattle.fits.specs.Fits.{gaps, fits, aligned}
use Rattle.fits.specs.Steps.{chooser}
use Rattle.fits.proofs.Walking.{Walked}
use Rattle.fits.proofs.gap_for.Given as goal

abbrev pub invariant-loop-i : goal.invariant-loop-i
invariant-loop-i l =
    Walked l.block (chooser l.fn.choice (filter (fits (aligned l.j) l.k) (gaps l.a l.b (entries_of 2 l.block)))) l.b l.j l.k l.enough l.best l.from l.i
