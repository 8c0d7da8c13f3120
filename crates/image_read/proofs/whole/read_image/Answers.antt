-- `read_image` meets its contract: nothing is written before all is judged. Assumes nothing.
use mathlib.Core.Path.{sym, ◌∙◌}
use Rattle.image_read.specs.Reading.{ImageTold}
use Rattle.image_read.proofs.ReadLaws.{judged_image, fault_told}
use borrow.Author.Rules.{rules}
use Rattle.image_read.proofs.whole.read_image.Goals as goal

pub read_accepted-requires : goal.read_accepted-requires
read_accepted-requires c = (judged_image _ (sym c.in-Ok.is ∙ c.judge_image.ensures), c.requires)

pub returns-in-Ok : goal.returns-in-Ok
returns-in-Ok c = c.read_accepted.ensures

pub returns-in-Err : goal.returns-in-Err
unfolding ImageTold
returns-in-Err c = fault_told _ _ _ _ _ _ (sym c.in-Err.is ∙ c.judge_image.ensures)
