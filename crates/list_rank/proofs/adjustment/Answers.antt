-- `adjustment` meets its contract: one arm for each number. Assumes nothing.
use Rattle.list_rank.proofs.Ranking.{adjustment_reverse, adjustment_open, adjustment_other}
use Rattle.list_rank.proofs.adjustment.Goals as goal

pub returns-then-state : goal.returns-then-state
returns-then-state c = adjustment_reverse c.args.state c.if-state.true

pub returns-then-state-eq-OPEN_NUMBER : goal.returns-then-state-eq-OPEN_NUMBER
returns-then-state-eq-OPEN_NUMBER c = adjustment_open c.args.state c.if-state.false c.if-state-eq-OPEN_NUMBER.true

pub returns-else-state-eq-OPEN_NUMBER : goal.returns-else-state-eq-OPEN_NUMBER
returns-else-state-eq-OPEN_NUMBER c = adjustment_other c.args.state c.if-state.false c.if-state-eq-OPEN_NUMBER.false
