-- `have_want` meets its contract. Assumes nothing.
use mathlib.Core.Bool.{not, ◌&&◌}
use borrow.Author.Rules.{rules}
use Rattle.model.specs.ask.Questions.{reply_picker}
use Rattle.ask_totals.proofs.CountLaws.{count_reply_lem}
use Rattle.ask_totals.proofs.TotalLaws.{counted_same}
use Rattle.ask_totals.proofs.totals.have_want.Goals as goal

pub returns : goal.returns
unfolding reply_picker
returns c = count_reply_lem _ _ _ (counted_same _ _ _ (c.of-kinds.ensures.computed (λ h f. h && not f) (λ h f r p. search rules)) c.counted.ensures)
