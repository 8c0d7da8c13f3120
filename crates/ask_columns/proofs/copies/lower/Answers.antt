-- `lower` meets its contract: a new least, or the same one. Assumes nothing.
use mathlib.Core.Path.{◌∙◌}
use native.Mathlib.Omega.{arith}
use borrow.Author.Rules.{rules}
use Rattle.ask_columns.proofs.LeastLaws.{lowered_new, lowered_same, least_few}
use Rattle.ask_columns.proofs.copies.lower.Goals as goal

pub returns-then-lowest-before : goal.returns-then-lowest-before
returns-then-lowest-before c = let e = c.u16_to_usize-more.ensures ∙ c.more_from.ensures in
    lowered_new _ _ c.args.i c.args.many c.args.before c.requires.least_in _ _ c.least_from-lowest.ensures e c.if-lowest-before.true

pub overflow_add-result-2 : goal.overflow_add-result-2
overflow_add-result-2 c = omega (arith, c.requires.cells_span.sizes.many, c.requires.many_bound, least_few c.args.cells.now c.args.s.pieces c.args.i c.args.before c.requires.least_in)

pub returns : goal.returns
returns c = let e = c.u16_to_usize-more.ensures ∙ c.more_from.ensures in
    lowered_same _ _ c.args.i c.args.many c.args.before c.requires.least_in _ _ c.least_from-lowest.ensures e (omega (arith, c.if-lowest-before.false))
