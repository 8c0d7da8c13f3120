-- `peer_count` meets its contract. Assumes nothing.
use mathlib.Core.Path.{ap}
use borrow.Author.Rules.{rules}
use Rattle.model.specs.ask.Questions.{reply_piece, one}
use Rattle.ask_piece.proofs.fields.peer_count.Goals as goal

pub returns : goal.returns
unfolding reply_piece
returns c = record { is = λ records words q. ap one (c.peer_count.ensures.is records words q) }
