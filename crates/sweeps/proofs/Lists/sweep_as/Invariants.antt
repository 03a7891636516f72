use Rattle.std.proofs.Common.{◌≡◌, ◌-◌, ◌≤◌, eqb, not, false}
use Rattle.entries.specs.Sets.{past_m}
use Rattle.sweeps.proofs.Standing.{Standing}
use Rattle.sweeps.proofs.Lists.sweep_as.Given as goal

-- Below x everything is counted and, if it is to be kept, stored (`Standing`); a third cursor at its end stays there.
abbrev pub invariant-loop-n : goal.invariant-loop-n
invariant-loop-n g l = record {
  stands : Standing l.self l.keep l.x l.at l.was l.before l.n l.o;
  most : l.n ≤ l.stop;
  third : not (eqb g.row.THIRD 0) ≡ false → l.at.c.place ≡ l.at.c.end;
}

-- the numbers from x up to 2^64
abbrev pub decreases-loop-n : goal.decreases-loop-n
decreases-loop-n g l = past_m - l.x
