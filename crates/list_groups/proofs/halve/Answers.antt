-- `halve` meets its contract. The invariant: the first word above `top` stands within `size` places from `low` on. Assumes nothing.
use borrow.Author.Rules.{rules}
use Rattle.list_groups.proofs.Searching.{Halves, halves_start, halves_next, halves_end}
use Rattle.list_groups.proofs.halve.Goals as goal

pub loop-size-init : goal.loop-size-init
loop-size-init c = halves_start _ _ _ _ c.requires.from_le_end

pub loop-size-preserved : goal.loop-size-preserved
loop-size-preserved c = halves_next c.requires.splits c.loop-size.invariant
    c.loop-size-test.true _ c.up_to-low.ensures.value c.up_to-low.ensures.value_2

pub returns : goal.returns
returns c = halves_end c.loop-size.invariant c.loop-size-test.false
