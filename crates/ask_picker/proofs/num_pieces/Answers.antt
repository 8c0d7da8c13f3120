-- `num_pieces` meets its contract. Assumes nothing.
use mathlib.Core.Path.{sym, ap}
use Rattle.model.specs.ask.Questions.{reply_picker, one}
use Rattle.memory_layout.proofs.Meanings.{pieces_number}
use Rattle.ask_picker.proofs.num_pieces.Goals as goal

pub returns : goal.returns
unfolding reply_picker
returns c = record { is = λ records words cells q. ap one (sym (pieces_number _ records words cells q)) }
