-- `check_pieces::flushed_at_work` meets its contract: each way out by one law.
use native.Mathlib.Omega.{arith}
use Rattle.check_pieces.proofs.RowLaws.{at_work, flushed_open, not-flushed}
use Rattle.check_pieces.proofs.rows.flushed_at_work.Goals as goal

pub returns-then-state-ne4 : goal.returns-then-state-ne4
returns-then-state-ne4 c = at_work _ _ c.if-flushed-eq1.true c.if-state-ne4.true

pub returns-else-state-ne4 : goal.returns-else-state-ne4
returns-else-state-ne4 c = flushed_open c.args.state c.args.flushed (omega arith)

pub returns-else-flushed-eq1 : goal.returns-else-flushed-eq1
returns-else-flushed-eq1 c = not-flushed c.args.state _ c.if-flushed-eq1.false
