-- `finished` meets its contract. Assumes nothing.
use borrow.Author.Rules.{rules}
use Rattle.memory_counts.proofs.CountedLaws.{finished_says}
use Rattle.memory_counts.proofs.finished.Goals as goal

pub returns : goal.returns
returns c = finished_says _ _
