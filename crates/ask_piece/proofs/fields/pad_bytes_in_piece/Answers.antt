-- `pad_bytes_in_piece` meets its contract. Assumes nothing.
use mathlib.Core.Path.{ap}
use borrow.Author.Rules.{rules}
use Rattle.model.specs.ask.Questions.{reply_piece, one}
use Rattle.ask_piece.proofs.fields.pad_bytes_in_piece.Goals as goal

pub returns : goal.returns
unfolding reply_piece
returns c = record { is = λ records cells q. ap one (c.pad_bytes.ensures.is records cells q) }
