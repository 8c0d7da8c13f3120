-- `first_used` meets its contract. Assumes nothing.
use Rattle.pick_partial.proofs.AddingLaws.{first_zero, first_run}
use mathlib.Core.Path.{sym, ◌∙◌}
use borrow.Author.Rules.{rules}
use Rattle.pick_partial.proofs.adding.first_used.Goals as goal

pub returns-then-contiguous_is_zero : goal.returns-then-contiguous_is_zero
returns-then-contiguous_is_zero c = first_zero _ _ (sym c.contiguous_is_zero.ensures ∙ c.if-contiguous_is_zero.true)

pub returns : goal.returns
returns c = first_run _ _ (sym c.contiguous_is_zero.ensures ∙ c.if-contiguous_is_zero.false)
