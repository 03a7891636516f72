use Rattle.std.proofs.Common.{refl, arith, List, []}
use Rattle.entries.specs.Entries.{Entry}
use Rattle.entries.specs.Questions.{is_empty}
use Rattle.answers.specs.Answers.{truth}
use Rattle.blocks.specs.Blocks.{set_layout}
use Rattle.blocks.proofs.Judging.{verdict_sound}
use Rattle.sweeps.specs.Sweeps.{sweep_result}
use Rattle.sweeps.proofs.Tables.{input, fit_set}
use Rattle.sets.proofs.Operating.{give_two, none_kept}
use Rattle.sets.proofs.keeps_none.Goals as goal

pub any_of_two-kept-requires : goal.any_of_two-kept-requires
any_of_two-kept-requires c =
    record {
      first = input (verdict_sound set_layout _ c.in_ok-judge_two.ensures.clear.0) (omega arith) (omega arith) (λ j. omega (arith, c.type_inv.a j));
      second = input (verdict_sound set_layout _ c.in_ok-judge_two.ensures.clear.1.0) (omega arith) (omega arith) (λ j. omega (arith, c.type_inv.b j));
      third = refl;
      fit = fit_set _ 2 2 2 (omega arith) (omega arith) (omega arith);
    }

pub returns : goal.returns
returns c =
    give_two _ _ c.in_ok-judge_two.ensures (λ (es fs : List Entry). truth (is_empty (sweep_result c.args.table 2 es fs []))) _
    (none_kept _ _ c.any_of_two-kept.ensures)
