-- `is_downloading` meets its contract. Assumes nothing.
use mathlib.Core.Path.{ap}
use mathlib.Core.Bool.{not}
use Prim.Native.Nat.{ℕ}
use lib.Dec.{eqb}
use borrow.Author.Rules.{rules}
use Rattle.model.specs.State.{is_open, same_queue}
use Rattle.model.specs.ask.Questions.{reply_piece, flag}
use Rattle.ask_piece.proofs.fields.is_downloading.Goals as goal

pub returns : goal.returns
unfolding reply_piece is_open same_queue
returns c = record { is = λ records words q. ap (λ (n : ℕ). flag (not (eqb n 4))) (c.state.ensures.is records words q) }
