-- `one_more` meets its contract. Assumes nothing.
use Rattle.pick_append.proofs.RowLaws.{one_more, none_more}
use borrow.Author.Rules.{rules}
use Rattle.pick_scan.proofs.found.one_more.Goals as goal

pub returns-then-counts : goal.returns-then-counts
returns-then-counts c = one_more _ _ c.if-counts.true

pub returns-else-counts : goal.returns-else-counts
returns-else-counts c = none_more _ _ c.if-counts.false
