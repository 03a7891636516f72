-- The bytes are judged good, and then the outputs: what was opened is stored, or the outputs' refusal is told.
use Rattle.std.proofs.Common.{refl, arith}
use Rattle.answers.specs.Says.{no_values}
use Rattle.verdicts.proofs.Whole.{start_long}
use Rattle.forms.proofs.Reading.{says_failed, bytes_refused, opened, outs_refused, to_store, read_good}
use Rattle.forms.proofs.read_form.Goals as goal

pub returns-in_err-judge_form : goal.returns-in_err-judge_form
returns-in_err-judge_form c =
    says_failed no_values _ _ _ _ c.from_residual.ensures.1 (bytes_refused c.args.form c.args.bytes.now _ _ _ c.in_err-judge_form.ensures)

pub get2-n-requires : goal.get2-n-requires
get2-n-requires c = omega (arith, start_long c.args.form c.requires c.args.bytes.now c.in_ok-judge_form.ensures.clear)

pub second_count-m-requires : goal.second_count-m-requires
second_count-m-requires c = omega (arith, start_long c.args.form c.requires c.args.bytes.now c.in_ok-judge_form.ensures.clear)

pub returns-in_err-out_refusal : goal.returns-in_err-out_refusal
returns-in_err-out_refusal c =
    let j = opened c.args.form c.args.bytes.now c.args.first.now c.args.second.now _ _ _ _ c.requires c.in_ok-judge_form.ensures refl
    c.get2-n.ensures.0 refl c.second_count-m.ensures.0 in
    says_failed no_values _ _ _ _ c.from_residual-in_err-out_refusal.ensures.1 (outs_refused j _ c.in_err-out_refusal.ensures)

pub store_runs-requires : goal.store_runs-requires
store_runs-requires c =
    let j = opened c.args.form c.args.bytes.now c.args.first.now c.args.second.now _ _ _ _ c.requires c.in_ok-judge_form.ensures refl
    c.get2-n.ensures.0 refl c.second_count-m.ensures.0 in
    to_store j c.in_ok-out_refusal.ensures (λ i. (c.type_inv.bytes i).fits)

pub returns : goal.returns
returns c =
    let j = opened c.args.form c.args.bytes.now c.args.first.now c.args.second.now _ _ _ _ c.requires c.in_ok-judge_form.ensures refl
    c.get2-n.ensures.0 refl c.second_count-m.ensures.0 in
    read_good j c.in_ok-out_refusal.ensures _ _ c.store_runs.ensures
