-- `is_piece_flushed` meets its contract. Assumes nothing.
use mathlib.Core.Path.{ap}
use borrow.Author.Rules.{rules}
use Rattle.model.specs.ask.Questions.{reply_piece, flag}
use Rattle.ask_piece.proofs.fields.is_piece_flushed.Goals as goal

pub returns : goal.returns
unfolding reply_piece
returns c = record { is = λ records words q. ap flag (c.flushed.ensures.is records words q) }
