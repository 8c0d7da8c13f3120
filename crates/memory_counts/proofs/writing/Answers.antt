-- `writing` meets its contract. Assumes nothing.
use borrow.Author.Rules.{rules}
use Rattle.memory_counts.proofs.CountedLaws.{writing_says}
use Rattle.memory_counts.proofs.writing.Goals as goal

pub returns : goal.returns
returns c = writing_says _ _
