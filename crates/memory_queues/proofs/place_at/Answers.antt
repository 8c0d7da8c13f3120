-- `place_at` meets its contract. Assumes nothing.
use borrow.Author.Rules.{rules}
use Rattle.model.specs.Lists.{nth}
use Rattle.memory_queues.proofs.place_at.Goals as goal

pub returns : goal.returns
unfolding nth
returns c = c.u16_to_usize.ensures
