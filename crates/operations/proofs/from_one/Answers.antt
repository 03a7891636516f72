-- The input was judged sound, so its count is there, and the bound of the result does not overflow.
use Rattle.std.proofs.Common.{arith}
use Rattle.blocks.proofs.Refusing.{accepted_sound, some_words}
use Rattle.operations.proofs.Making.{count_small, one_ok}
use Rattle.operations.proofs.from_one.Goals as goal

pub count_of-bound-requires : goal.count_of-bound-requires
count_of-bound-requires c = (accepted_sound c.in_ok-judge.ensures).some

pub overflow_add-bound : goal.overflow_add-bound
overflow_add-bound c =
    record { fits = omega (arith, count_small _ _ (accepted_sound c.in_ok-judge.ensures) c.requires.from.few, c.count_of-bound.ensures) }

pub store-requires : goal.store-requires
store-requires c =
    one_ok c.requires (accepted_sound c.in_ok-judge.ensures) c.count_of-bound.ensures _ (some_words _ c.in_ok-judge_output.ensures.clear.0)
    (λ j. omega (arith, c.type_inv.a j))
