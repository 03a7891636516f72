use Rattle.std.proofs.Common.{arith}
use Rattle.bulletins.proofs.Amending.{most, room_yes, room_no}
use Rattle.bulletins.proofs.Bulletin.judge_room.Goals as goal

pub fits-requires-clause-cap_bound : goal.fits-requires-clause-cap_bound
fits-requires-clause-cap_bound c =
    let s = c.args.self in (
      omega arith,
      most c.requires (λ j. omega (arith, c.type_inv.list j)) s.lent_released s.lent_withdrawn c.count_of.ensures c.count_of-2.ensures
          c.count_of-3.ensures,
    )

pub returns-then-fits : goal.returns-then-fits
returns-then-fits c =
    let s = c.args.self in
    room_yes c.requires (λ j. omega (arith, c.type_inv.list j)) s.lent_released s.lent_withdrawn c.room_for-cap.ensures c.fits.ensures c.if-fits.true

pub returns : goal.returns
returns c =
    let s = c.args.self in
    room_no c.requires (λ j. omega (arith, c.type_inv.list j)) s.lent_released s.lent_withdrawn c.room_for-cap.ensures c.fits.ensures c.if-fits.false
    c.at.ensures
