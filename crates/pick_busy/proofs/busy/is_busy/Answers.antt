-- `is_busy` meets its contract. Assumes nothing.
use Rattle.pick_busy.proofs.BusyLaws.{busy_says}
use borrow.Author.Rules.{rules}
use Rattle.pick_busy.proofs.busy.is_busy.Goals as goal

pub returns : goal.returns
returns c = busy_says _ _ _ c.same_peer-same.ensures
