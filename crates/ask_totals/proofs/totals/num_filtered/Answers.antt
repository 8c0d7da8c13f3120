-- `num_filtered` meets its contract. Assumes nothing.
use mathlib.Core.Path.{ap}
use mathlib.Core.Bool.{not, ◌&&◌}
use borrow.Author.Rules.{rules}
use Rattle.model.specs.ask.Questions.{reply_picker, one, num_filtered}
use Rattle.ask_totals.proofs.TotalLaws.{counted_same}
use Rattle.ask_totals.proofs.totals.num_filtered.Goals as goal

pub returns : goal.returns
unfolding reply_picker num_filtered
returns c = ap one (counted_same _ _ _ (c.of-kinds.ensures.computed (λ h f. f && not h) (λ h f r p. search rules)) c.counted.ensures).pieces
