use Rattle.std.proofs.Common.{refl}
use Rattle.blocks.proofs.Refusing.{judged_empty, judged_full, judged_sound, judged_unsound}
use Rattle.blocks.proofs.judge.Goals as goal

pub returns-then-block-eq0 : goal.returns-then-block-eq0
returns-then-block-eq0 c = judged_empty c.args.layout c.args.block.now c.args.position _ c.at.ensures c.if-block-eq0.true

pub returns-then-room_for-n : goal.returns-then-room_for-n
returns-then-room_for-n c =
    judged_full c.args.layout c.args.block.now c.args.position c.if-block-eq0.false _ _ c.room_for.ensures refl
    _ c.at-then-room_for-n.ensures c.if-room_for-n.true

pub returns-then-all_sound : goal.returns-then-all_sound
returns-then-all_sound c =
    judged_sound c.args.layout c.args.block.now c.args.position c.if-block-eq0.false _ _ c.room_for.ensures refl
    c.if-room_for-n.false _ c.all_sound.ensures c.if-all_sound.true

pub returns : goal.returns
returns c =
    judged_unsound c.args.layout c.args.block.now c.args.position c.if-block-eq0.false _ _ c.room_for.ensures refl
    c.if-room_for-n.false _ c.all_sound.ensures _ c.at-2.ensures c.if-all_sound.false
