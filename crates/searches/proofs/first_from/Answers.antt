-- The words of the highs are in the block: so their places fit, and the number at each is told.
use Rattle.std.proofs.Common.{rules, arith}
use Rattle.searches.proofs.Finding.{highs_rising, high_word}
use Rattle.searches.proofs.first_from.Goals as goal

pub first_reaching-requires : goal.first_reaching-requires
first_reaching-requires c κs h = (
  search rules,
  (
    λ k l. let q = high_word c.requires k l in (
      λ a b d e f g i. record { fits = omega (arith, q) },
      λ a b d e f g i. record { fits = omega (arith, q) },
      λ a b d e f g i. record { fits = omega (arith, q) },
      λ a b d e f g i j. q,
    ),
    (λ k v l e. search rules, highs_rising c.requires),
  ),
)
