use Rattle.std.proofs.Common.{refl}
use Rattle.edits.proofs.Sides.{edit_ok, edit_kept}
use Rattle.edits.proofs.edit_put.Goals as goal

pub count_of-n-requires : goal.count_of-n-requires
count_of-n-requires c = (edit_ok c.in_ok-window_refusal.ensures.first c.requires.0 refl).0.block.some

pub put_value-requires : goal.put_value-requires
put_value-requires c =
    let e = edit_ok c.in_ok-window_refusal.ensures.first c.requires.0 c.count_of-n.ensures in
    record { edit = e.0; whole = c.requires.1; order = e.1 }

pub returns : goal.returns
returns c = edit_kept _ _ _ _ _ _ _ c.in_ok-window_refusal.ensures.first c.put_value.ensures
