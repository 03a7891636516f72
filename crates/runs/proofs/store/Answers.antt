use Rattle.std.proofs.Common.{refl, arith, length-drop}
use Rattle.runs.proofs.Storing.{store_written}
use Rattle.runs.proofs.store.Goals as goal

pub returns : goal.returns
returns c =
    let a = c.args in
    store_written a.kind a.s a.n _ a.from a.bytes.now a.out.now _ _ _ c.requires.2.two (omega (arith, c.requires.2.room, length-drop 1 a.out.now))
    refl c.put_count.ensures c.fill_run.ensures c.clear.ensures
