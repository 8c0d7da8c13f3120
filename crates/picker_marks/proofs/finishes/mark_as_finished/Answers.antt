-- `mark_as_finished` meets its contract. Assumes nothing.
-- Written by tools/public_answers.py, and not by hand.
use Rattle.picker_calls.proofs.PublicLaws.{rows_are}
use Rattle.picker_calls.proofs.CoreLaws.{called_on}
use Rattle.picker_marks.proofs.finishes.mark_as_finished.Goals as goal

pub returns-in_err-r : goal.returns-in_err-r
returns-in_err-r c =
    let t = rows_are _ _ _ _ _ c.live_records-live.ensures c.unpack-lent.ensures in
    called_on _ _ _ _ (c.in_err-r.ensures.done _ t.0 t.1).1 c.from_residual.result c.from_residual.ensures.1

pub returns : goal.returns
returns c =
    let t = rows_are _ _ _ _ _ c.live_records-live.ensures c.unpack-lent.ensures in
    rw c.apply.ensures (c.in_ok-r.ensures.done _ t.0 t.1).1
