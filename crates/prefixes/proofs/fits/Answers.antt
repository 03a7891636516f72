-- The pass leaves the output's own words.
use Rattle.std.proofs.Common.{◌∙◌, sym, ap}
use Rattle.prefixes.specs.Steps.{tally}
use Rattle.prefixes.proofs.Storing.{by_count}
use Rattle.prefixes.proofs.fits.Goals as goal

pub returns : goal.returns
returns g c =
    by_count _ _ _ c.requires.set.1 (ap (tally c.pass.new.pairs.count) (c.out-1.given.1.1 (sym c.pass.ensures.place)) ∙ c.pass.ensures.noted)
