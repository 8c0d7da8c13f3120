-- `append_blocks` meets its contract. Assumes nothing.
use Rattle.pick_append.proofs.AppendLaws.{least_both, append_is}
use mathlib.Core.Path.{◌∙◌}
use native.Mathlib.Omega.{arith}
use Rattle.pick_state.proofs.LeastLaws.{min_least}
use borrow.Author.Rules.{rules}
use Rattle.pick_append.proofs.aside.append_blocks.Goals as goal

pub copy_blocks-requires : goal.copy_blocks-requires
copy_blocks-requires c = let u = least_both _ _ _ (c.min-n.ensures ∙ min_least _ _) in
    (omega (arith, c.requires.0, u.1), omega (arith, c.requires.1, u.0))

pub overflow_sub-result : goal.overflow_sub-result
overflow_sub-result c = omega (arith, (least_both _ _ _ (c.min-n.ensures ∙ min_least _ _)).1)

pub overflow_add-result : goal.overflow_add-result
overflow_add-result c = omega (arith, (least_both _ _ _ (c.min-n.ensures ∙ min_least _ _)).1, c.requires.0)

pub returns : goal.returns
returns c = append_is c.args.t _ _ _ _ (c.min-n.ensures ∙ min_least _ _) c.requires.0 c.requires.1 c.copy_blocks.ensures
