use Rattle.maps.proofs.Sites.{both_sound}
use Rattle.maps.proofs.site_over_factory_at.Goals as goal

pub deciding_of-d-requires : goal.deciding_of-d-requires
deciding_of-d-requires c = both_sound c.in_ok-judge_both.ensures
