use Rattle.searches.proofs.Windows.{clear_window}
use Rattle.searches.proofs.window_at.Goals as goal

pub part_at-p-requires : goal.part_at-p-requires
part_at-p-requires c = clear_window c.args.layout c.args.block.now c.args.a c.args.b c.requires c.in_ok-window_refusal.ensures.first.clear
