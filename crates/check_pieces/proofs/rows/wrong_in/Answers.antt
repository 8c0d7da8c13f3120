-- `check_pieces::wrong_in` meets its contract: what is joined is 0 exactly where each part is. Assumes nothing.
use Rattle.check_pieces.proofs.RowLaws.{wrong_is}
use borrow.Author.Rules.{rules}
use Rattle.check_pieces.proofs.rows.wrong_in.Goals as goal

pub returns : goal.returns
returns c = wrong_is _ _ _ _ _ _ _ c.requires c.saturating_sub.ensures c.saturating_sub-2.ensures c.flushed_at_work.ensures
