-- `blocks_per_piece` meets its contract. Assumes nothing.
use mathlib.Core.Path.{ap}
use Rattle.model.specs.State.{blocks_per_piece}
use Rattle.model.specs.ask.Questions.{reply_picker, one}
use Rattle.memory_layout.specs.Decode.{blocks_on}
use Rattle.ask_picker.proofs.blocks_per_piece.Goals as goal

pub returns : goal.returns
unfolding reply_picker blocks_per_piece blocks_on
returns c = record { is = λ records words cells q. ap one q.blocks }
