-- `piece_priority` meets its contract. Assumes nothing.
use mathlib.Core.Path.{ap}
use borrow.Author.Rules.{rules}
use Rattle.model.specs.ask.Questions.{reply_piece, one}
use Rattle.ask_piece.proofs.fields.piece_priority.Goals as goal

pub returns : goal.returns
unfolding reply_piece
returns c = record { is = λ records words q. ap one (c.priority.ensures.is records words q) }
