use Rattle.std.proofs.Common.{ℕ, ◌≡◌, ◌+◌, ◌∙◌, [], Bool, true, false, refl, ap, arith}
use mir.Val.{bool_byte}
use Rattle.answers.specs.Answers.{outcome, truth}
use Rattle.forms.specs.Calls.{one_number}
use Rattle.verdicts.specs.Forms.{of_set}
use Rattle.verdicts.proofs.Whole.{set_kind, start_long}
use Rattle.forms.proofs.Reading.{member_refused, member_run, member_told}
use Rattle.forms.proofs.member.Goals as goal

-- yes is 1, no is 0
as_number : (t : Bool) → bool_byte t ≡ one_number (outcome (truth t) [])
as_number true = refl
as_number false = refl

pub returns-in-Err : goal.returns-in-Err
returns-in-Err c =
    ap (λ (n : ℕ). 16 + n) (c.from-in-Err.ensures ∙ c.from.ensures) ∙ member_refused c.args.bytes.now _ c.in-Err.ensures c.args.x

pub get2-n-requires : goal.get2-n-requires
get2-n-requires c = omega (arith, start_long of_set set_kind c.args.bytes.now c.in_default.ensures.clear)

pub holds-requires : goal.holds-requires
holds-requires c =
    member_run c.args.bytes.now c.in_default.ensures _ c.get2-n.ensures.0 (λ i. (c.type_inv.bytes i).fits)

pub returns : goal.returns
returns c =
    c.from-2.ensures ∙ as_number c.holds.result
    ∙ member_told c.args.bytes.now c.in_default.ensures _ c.get2-n.ensures.0 c.args.x _ c.holds.ensures
