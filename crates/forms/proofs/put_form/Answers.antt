use Rattle.std.proofs.Common.{refl}
use Rattle.forms.proofs.Writing.{one_put, two_put}
use Rattle.forms.proofs.put_form.Goals as goal

pub returns-then-form-eq1 : goal.returns-then-form-eq1
returns-then-form-eq1 c =
    let a = c.args in
    one_put a.form a.n a.m a.first.now a.second.now a.bytes.now c.requires _ _ refl refl _ _ c.write_start.ensures
    c.write_run.ensures c.if-form-eq1.true

pub returns : goal.returns
returns c =
    let a = c.args in
    two_put a.form a.n a.m a.first.now a.second.now a.bytes.now c.requires _ _ refl refl _ _ c.write_start.ensures
    c.write_run.ensures c.if-form-eq1.false _ c.write_run-2.ensures
