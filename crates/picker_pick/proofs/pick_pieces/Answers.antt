-- `pick_pieces` meets its contract: the core's of the rows of the records lent. Assumes nothing.
use Rattle.picker_calls.proofs.PublicLaws.{rows_are}
use Rattle.picker_pick.proofs.pick_pieces.Goals as goal

pub returns : goal.returns
returns c =
    let t = rows_are _ _ _ _ _ c.live_records-live.ensures c.unpack-lent.ensures in
    c.pick_core.ensures.done _ t.0 t.1
