-- `num_want_left` meets its contract. Assumes nothing.
use mathlib.Core.Bool.{beq}
use borrow.Author.Rules.{rules}
use Rattle.ask_totals.proofs.TotalLaws.{counted_same}
use Rattle.ask_progress.proofs.ClassLaws.{left_is}
use Rattle.ask_progress.proofs.num_want_left.Goals as goal

pub returns : goal.returns
returns c = left_is _ _ (counted_same _ _ _ (c.of-kinds.ensures.computed (λ h f. beq h f) (λ h f r p. search rules)) c.counted.ensures).pieces
