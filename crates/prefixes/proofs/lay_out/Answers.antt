use Rattle.std.proofs.Common.{◌∙◌, sym, ap}
use Rattle.prefixes.specs.Steps.{tally}
use Rattle.prefixes.proofs.Storing.{sound, less, has_room, fits_in, refused, accepted}
use Rattle.prefixes.proofs.lay_out.Goals as goal

pub fits-requires-clause-set : goal.fits-requires-clause-set
fits-requires-clause-set g c =
    let m = g.T.Method.blocks in
    (sound m _ _ c.in_ok-refusal.ensures, less m _ _ c.in_ok-refusal.ensures c.room_for-room.ensures)

pub pass-requires : goal.pass-requires
pass-requires g c =
    let m = g.T.Method.blocks in
    (sound m _ _ c.in_ok-refusal.ensures, has_room m _ _ c.in_ok-refusal.ensures c.room_for-room.ensures c.fits.ensures)

pub finish-requires : goal.finish-requires
finish-requires g c =
    fits_in g.T.Method.blocks _ _ c.in_ok-refusal.ensures c.room_for-room.ensures c.fits.ensures c.if-fits.true
    (ap (tally c.pass.new.pairs.count) (c.out-then-fits-1.given.1.1 (sym c.pass.ensures.place)) ∙ c.pass.ensures.noted)

pub returns-then-fits : goal.returns-then-fits
returns-then-fits g c =
    accepted g.T.Method.blocks _ _ c.in_ok-refusal.ensures c.room_for-room.ensures c.fits.ensures c.if-fits.true
    (ap (tally c.pass.new.pairs.count) (c.out-then-fits-1.given.1.1 (sym c.pass.ensures.place)) ∙ c.pass.ensures.noted)
    c.finish.ensures

pub returns : goal.returns
returns g c =
    refused g.T.Method.blocks _ _ c.in_ok-refusal.ensures c.room_for-room.ensures c.fits.ensures c.if-fits.false c.at.ensures
