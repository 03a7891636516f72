use Rattle.std.proofs.Common.{refl, sym, ap, ◌∙◌, []}
use Rattle.std.proofs.Math.Option.{none, some}
use Rattle.answers.specs.declared.Reason.TheVariants.{NoGap}
use Rattle.answers.proofs.Turns.{named}
use Rattle.fits.specs.Steps.{chooser}
use Rattle.fits.proofs.Asking.{asked_right, fit_answers, place_is}
use Rattle.fits.proofs.fit.Goals as goal

pub gap_for-requires : goal.gap_for-requires
gap_for-requires c = asked_right _ _ _ _ _ c.in_ok-ask_refusal.ensures.clear

pub returns-in-Some : goal.returns-in-Some
returns-in-Some c =
    fit_answers (chooser c.args.choice) _ _ _ _ _ _ c.in_ok-ask_refusal.ensures (some _) _
    (place_is (chooser c.args.choice) c.args.block.now _ _ _ _ _ c.in-Some.ensures ∙ ap some (sym c.ahead.ensures)) refl

pub returns-in-None : goal.returns-in-None
returns-in-None c =
    fit_answers (chooser c.args.choice) _ _ _ _ _ _ c.in_ok-ask_refusal.ensures none _
    (place_is (chooser c.args.choice) c.args.block.now _ _ _ _ _ c.in-None.ensures) (named NoGap 0 c.at.ensures [])
