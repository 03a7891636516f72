use Rattle.blocks.proofs.Judging.{verdict_sound}
use Rattle.verdicts.proofs.Two.{not_one}
use Rattle.forms.proofs.block_refusal.Goals as goal

pub share_number-requires : goal.share_number-requires
share_number-requires c =
    let l = c.args.form.layout in
    let two = (not_one _ _ c.requires.shape c.if-form-eq1.false).1 in
    (rw two at (verdict_sound l c.args.first.now c.in_ok-judge.ensures.clear.0), rw two at (verdict_sound l c.args.second.now c.in_ok-judge-2.ensures.clear.0))
