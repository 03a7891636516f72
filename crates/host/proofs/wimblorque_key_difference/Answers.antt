use Rattle.std.proofs.Common.{ap, []}
use Rattle.std.specs.Prelude.{Option}
use lib.IntN.{ℤ}
use Rattle.keys.specs.Keys.{apart_of}
use Rattle.answers.specs.Answers.{outcome}
use Rattle.answers.specs.Says.{apart_says}
use Rattle.host.proofs.Keyed.{two_keys}
use Rattle.host.proofs.wimblorque_key_difference.Goals as goal

pub returns : goal.returns
returns c = record {
  answer = apart_says c.difference.result;
  as_told = c.tell_apart.ensures;
  as_called = ap (λ (d : Option ℤ). outcome (apart_says d) [])
      (two_keys apart_of c.args.a c.args.b c.ranges.a.sfits c.ranges.b.sfits c.difference.ensures);
}
