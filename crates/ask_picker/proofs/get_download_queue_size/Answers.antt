-- `get_download_queue_size` meets its contract. Assumes nothing.
use mathlib.Core.Path.{ap}
use borrow.Author.Rules.{rules}
use Rattle.model.specs.ask.Questions.{reply_picker, one}
use Rattle.ask_picker.proofs.get_download_queue_size.Goals as goal

pub returns : goal.returns
unfolding reply_picker
returns c = record { is = λ records cells. ap one (c.num_partials.ensures.1.is records cells) }
