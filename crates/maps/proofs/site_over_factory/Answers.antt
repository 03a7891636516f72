use Rattle.std.proofs.Common.{refl, []}
use Rattle.answers.proofs.Turns.{refused_part, given_part}
use Rattle.searches.specs.Parts.{no_part}
use Rattle.maps.specs.Calls.{part_in, deciding, site_over_factory_call}
use Rattle.maps.proofs.Sites.{both_sound, placed}
use Rattle.maps.proofs.site_over_factory.Goals as goal

pub deciding_part-requires : goal.deciding_part-requires
deciding_part-requires c = both_sound c.in-Ok.ensures

pub returns-in-Ok : goal.returns-in-Ok
unfolding site_over_factory_call
returns-in-Ok c =
    placed c.args.site c.args.factory
    (given_part [] [] [] (deciding c.args.site.now c.args.factory.now c.args.x) (part_in 0 no_part) c.in-Ok.ensures) c.deciding_part.ensures

pub returns-in-Err : goal.returns-in-Err
unfolding site_over_factory_call
returns-in-Err c =
    placed c.args.site c.args.factory
    (refused_part [] [] [] (deciding c.args.site.now c.args.factory.now c.args.x) (part_in 0 no_part) c.in-Err.ensures)
    (record { block = refl; offset = refl; words = refl })
