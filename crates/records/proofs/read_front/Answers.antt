-- The record is due and too short: its length is that of its kind, which is the kind that is due.
use Rattle.std.proofs.Common.{◌≡◌, ◌∙◌, arith, sym, ap, get_or}
use mathlib.Core.Option.{some}
use Rattle.records.specs.Records.{body_length}
use Rattle.records.proofs.Table.{told_known}
use Rattle.records.proofs.Heads.{front_body, length_short}
use Rattle.records.proofs.read_front.Goals as goal

pub returns-then-bytes-n : goal.returns-then-bytes-n
returns-then-bytes-n c t =
    let a = c.args in
    let k : body_length (get_or a.bytes.now 2 0) ≡ some c.in-Some.n = told_known _ _ _ c.body_length.ensures c.in-Some.is in
    let d : get_or a.bytes.now 2 0 ≡ a.due = assumption c in
    let m : c.get2.result ≡ c.from.result = assumption c in
    length_short a.mark a.due a.bytes.now t _ c.if-bytes-n.true
    ∙ front_body a.mark a.due a.bytes.now t (omega arith) _ _ c.get2.ensures.0 c.from.ensures
    m d (some _) (sym (ap body_length d) ∙ k)
