use Rattle.verdicts.proofs.Two.{failed, first_bad, second_bad, trails, lone_run, to_share, overlapping, all_apart}
use Rattle.verdicts.proofs.judge_runs.Goals.{else-form-eq2-via-then-form-eq2+else-share_records, else-form-eq2-via-else-form-eq2}
use Rattle.verdicts.proofs.judge_runs.Goals as goal

pub returns-in_err-second : goal.returns-in_err-second
returns-in_err-second c =
    let a = c.args in
    failed _ _ _ c.from_residual.ensures.1 (first_bad a.mark a.form a.n a.m a.bytes.now _ c.in_err-second.ensures)

pub returns-in_err-end : goal.returns-in_err-end
returns-in_err-end c =
    let a = c.args in
    failed _ _ _ c.from_residual-in_err-end.ensures.1
    (second_bad a.mark a.form a.n a.m a.bytes.now _ c.in_ok-second.ensures _ c.in_err-end.ensures)

pub returns-then-end-bytes : goal.returns-then-end-bytes
returns-then-end-bytes c =
    let a = c.args in
    rw c.at.ensures (trails a.mark a.form a.n a.m a.bytes.now _ c.in_ok-second.ensures _ c.in_ok-end.ensures c.if-end-bytes.true)

pub share_records-requires : goal.share_records-requires
share_records-requires c =
    let a = c.args in
    to_share a.mark a.form a.n a.m a.bytes.now _ c.in_ok-second.ensures _ c.in_ok-end.ensures c.requires.0 (λ i. (c.type_inv.bytes i).fits)
    c.if-form-eq2.true

pub returns-then-share_records : goal.returns-then-share_records
returns-then-share_records c =
    let a = c.args in
    rw c.at-then-share_records.ensures
    (overlapping a.mark a.form a.n a.m a.bytes.now _ c.in_ok-second.ensures _ c.in_ok-end.ensures c.if-end-bytes.false c.requires.0 c.if-form-eq2.true _
    c.share_records.ensures c.if-share_records.true)

pub returns : goal.returns
returns c =
    let a = c.args in
    elim c.else-form-eq2.branch [
      | else-form-eq2-via-then-form-eq2+else-share_records w ↦
          all_apart a.mark a.form a.n a.m a.bytes.now _ c.in_ok-second.ensures _ c.in_ok-end.ensures c.if-end-bytes.false c.requires.0 w.if-form-eq2.true _
          w.share_records.ensures w.if-share_records.false
      | else-form-eq2-via-else-form-eq2 w ↦
          lone_run a.mark a.form a.n a.m a.bytes.now _ c.in_ok-second.ensures _ c.in_ok-end.ensures c.if-end-bytes.false c.requires.0 w.if-form-eq2.false
    ]
