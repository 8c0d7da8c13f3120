-- `pm_check` meets its contract: the answer is the number of the test's verdict. Assumes nothing.
use borrow.Author.Rules.{rules}
use Rattle.link_memory.proofs.AnswerLaws.{answered}
use Rattle.link_memory.proofs.pm_check.Goals as goal

pub returns : goal.returns
returns c = answered _ _ _ _ _ _ c.check_memory.ensures _ c.number.ensures
