-- `requested` meets its contract. Assumes nothing.
use borrow.Author.Rules.{rules}
use Rattle.memory_counts.proofs.CountedLaws.{requested_says}
use Rattle.memory_counts.proofs.requested.Goals as goal

pub returns : goal.returns
returns c = requested_says _ _
