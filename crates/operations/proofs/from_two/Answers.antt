-- Both inputs were judged sound, so their counts are there, and the bound of the result does not overflow.
use Rattle.std.proofs.Common.{refl, arith}
use Rattle.blocks.proofs.Judging.{verdict_sound}
use Rattle.blocks.proofs.Refusing.{some_words}
use Rattle.operations.proofs.Making.{bound_fits, two_ok}
use Rattle.operations.proofs.from_two.Goals as goal

pub count_of-requires : goal.count_of-requires
count_of-requires c = (verdict_sound _ _ c.in_ok-judge_two.ensures.clear.0).some

pub count_of-requires-2 : goal.count_of-requires-2
count_of-requires-2 c = (verdict_sound _ _ c.in_ok-judge_two.ensures.clear.1.0).some

pub overflow_mul-bound : goal.overflow_mul-bound
overflow_mul-bound c =
    let s = verdict_sound _ _ c.in_ok-judge_two.ensures.clear.0 in
    let t = verdict_sound _ _ c.in_ok-judge_two.ensures.clear.1.0 in
    record { fits = omega (arith, bound_fits c.requires s t c.count_of.ensures refl) }

pub overflow_add-bound : goal.overflow_add-bound
overflow_add-bound c =
    let s = verdict_sound _ _ c.in_ok-judge_two.ensures.clear.0 in
    let t = verdict_sound _ _ c.in_ok-judge_two.ensures.clear.1.0 in
    record { fits = omega (arith, bound_fits c.requires s t c.count_of.ensures c.count_of-2.ensures) }

pub store-requires : goal.store-requires
store-requires c =
    let s = verdict_sound _ _ c.in_ok-judge_two.ensures.clear.0 in
    let t = verdict_sound _ _ c.in_ok-judge_two.ensures.clear.1.0 in
    two_ok c.requires s t c.count_of.ensures c.count_of-2.ensures _ (some_words _ c.in_ok-judge_output.ensures.clear.0) (λ j. omega (arith, c.type_inv.a j))
    (λ j. omega (arith, c.type_inv.b j))
