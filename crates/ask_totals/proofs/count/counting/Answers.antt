-- `counting` meets its contract. Assumes nothing.
use Rattle.ask_totals.proofs.CountLaws.{counts, counts_not}
use Rattle.ask_totals.proofs.count.counting.Goals as goal

pub returns-then-counts : goal.returns-then-counts
returns-then-counts c = counts _ _ c.if-counts.true

pub returns : goal.returns
returns c = counts_not _ _ c.if-counts.false
