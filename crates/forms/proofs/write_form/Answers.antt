use Rattle.std.proofs.Common.{refl, arith}
use Rattle.answers.specs.Says.{one_value}
use Rattle.forms.proofs.Reading.{says_failed}
use Rattle.forms.proofs.Writing.{passed, blocks_refused, first_sound, second_words, size_small, space_refused, to_put, write_good}
use Rattle.forms.proofs.write_form.Goals as goal

pub returns-in_err-block_refusal : goal.returns-in_err-block_refusal
returns-in_err-block_refusal c =
    let a = c.args in
    says_failed one_value _ _ _ _ c.from_residual.ensures.1
    (blocks_refused a.form a.first.now a.second.now a.bytes.now a.p _ c.in_err-block_refusal.ensures)

pub bounds-first-0 : goal.bounds-first-0
bounds-first-0 c = (first_sound (passed c.args.form c.args.first.now c.args.second.now c.requires c.in_ok-block_refusal.ensures)).some

pub second_held-m-requires : goal.second_held-m-requires
second_held-m-requires c = second_words (passed c.args.form c.args.first.now c.args.second.now c.requires c.in_ok-block_refusal.ensures)

pub overflow_add-size-3 : goal.overflow_add-size-3
overflow_add-size-3 c =
    let h = passed c.args.form c.args.first.now c.args.second.now c.requires c.in_ok-block_refusal.ensures in
    omega (arith, size_small h refl c.second_held-m.ensures)

pub overflow_mul-size-3 : goal.overflow_mul-size-3
overflow_mul-size-3 c =
    let h = passed c.args.form c.args.first.now c.args.second.now c.requires c.in_ok-block_refusal.ensures in
    omega (arith, size_small h refl c.second_held-m.ensures)

pub overflow_add-size-4 : goal.overflow_add-size-4
overflow_add-size-4 c =
    let h = passed c.args.form c.args.first.now c.args.second.now c.requires c.in_ok-block_refusal.ensures in
    omega (arith, size_small h refl c.second_held-m.ensures, c.requires.start.two)

pub returns-then-no_space : goal.returns-then-no_space
returns-then-no_space c =
    let a = c.args in
    let h = passed a.form a.first.now a.second.now c.requires c.in_ok-block_refusal.ensures in
    rw c.at.ensures
    (space_refused h refl c.second_held-m.ensures a.bytes.now a.p _ c.no_space.ensures c.if-no_space.true)

pub put_form-requires : goal.put_form-requires
put_form-requires c =
    let a = c.args in
    let h = passed a.form a.first.now a.second.now c.requires c.in_ok-block_refusal.ensures in
    to_put h refl c.second_held-m.ensures a.bytes.now a.p _ c.no_space.ensures c.if-no_space.false

pub returns : goal.returns
returns c =
    let a = c.args in
    let h = passed a.form a.first.now a.second.now c.requires c.in_ok-block_refusal.ensures in
    write_good h refl c.second_held-m.ensures a.bytes.now a.p _ c.no_space.ensures c.if-no_space.false _ c.put_form.ensures
