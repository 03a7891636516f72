use Rattle.std.proofs.Common.{refl}
use Rattle.edits.proofs.Sides.{edit_ok, edit_kept}
use Rattle.edits.proofs.edit_out.Goals as goal

pub count_of-n-requires : goal.count_of-n-requires
count_of-n-requires c = (edit_ok c.in_ok-window_refusal.ensures.first c.requires refl).0.block.some

pub take_out-requires : goal.take_out-requires
take_out-requires c = edit_ok c.in_ok-window_refusal.ensures.first c.requires c.count_of-n.ensures

pub returns : goal.returns
returns c = edit_kept _ _ _ _ _ _ _ c.in_ok-window_refusal.ensures.first c.take_out.ensures
