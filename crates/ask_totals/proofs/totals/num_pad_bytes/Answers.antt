-- `num_pad_bytes` meets its contract. Assumes nothing.
use mathlib.Core.Path.{ap}
use mathlib.Core.Bool.{true}
use borrow.Author.Rules.{rules}
use Rattle.model.specs.ask.Questions.{reply_picker, one}
use Rattle.ask_totals.proofs.TotalLaws.{counted_same}
use Rattle.ask_totals.proofs.totals.num_pad_bytes.Goals as goal

pub returns : goal.returns
unfolding reply_picker
returns c = ap one (counted_same _ _ _ (c.of-kinds.ensures.computed (λ h f. true) (λ h f r p. search rules)) c.counted.ensures).pad_bytes
