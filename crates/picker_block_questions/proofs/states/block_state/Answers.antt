-- `block_state` meets its contract. Assumes nothing.
-- Written by tools/public_answers.py, and not by hand.
use Rattle.picker_calls.proofs.PublicLaws.{rows_are}
use Rattle.picker_block_questions.proofs.states.block_state.Goals as goal

pub returns : goal.returns
returns c =
    let t = rows_are _ _ _ _ _ c.live_records-live.ensures c.unpack-lent.ensures in
    c.block_state_core.ensures.is _ t.0 t.1
