-- `dirty` meets its contract. Assumes nothing.
use mathlib.Core.Path.{ap}
use borrow.Author.Rules.{rules}
use Rattle.model.specs.ask.Questions.{reply_picker, flag}
use Rattle.ask_picker.proofs.dirty.Goals as goal

pub returns : goal.returns
unfolding reply_picker
returns c = record { is = λ records cells. ap flag (c.is_dirty.ensures.is records cells) }
