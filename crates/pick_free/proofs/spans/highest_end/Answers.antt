-- `highest_end` meets its contract. Assumes nothing.
use mathlib.Core.Path.{refl, ◌∙◌}
use borrow.Author.Rules.{rules}
use Rattle.pick_state.proofs.LeastLaws.{min_least}
use Rattle.pick_free.proofs.spans.highest_end.Goals as goal

pub returns-then-aligned : goal.returns-then-aligned
returns-then-aligned c = c.min.ensures ∙ min_least _ _ ∙ rw c.if-aligned.true refl

pub returns : goal.returns
returns c = c.min-2.ensures ∙ min_least _ _ ∙ rw c.if-aligned.false refl
