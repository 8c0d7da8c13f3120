-- `gallop` meets its contract. The invariant: before `low` stand words up to `top`. Assumes nothing.
use borrow.Author.Rules.{rules}
use Prim.Native.Nat.{◌-◌}
use Rattle.list_groups.proofs.Searching.{Gallops, gallops_start, gallops_next, gallops_stop}
use Rattle.list_groups.proofs.gallop.Goals as goal

pub loop-step-init : goal.loop-step-init
loop-step-init c = gallops_start _ _ _ _ _ c.requires.from_le_end c.requires.near_nonzero

pub returns-then-top-list : goal.returns-then-top-list
returns-then-top-list c = gallops_stop c.requires.splits c.loop-step.invariant
    c.loop-step-test.true c.if-top-list.true

pub loop-step-preserved : goal.loop-step-preserved
loop-step-preserved c = gallops_next c.requires.splits c.loop-step.invariant
    c.loop-step-test.true c.if-top-list.false

pub returns : goal.returns
returns c = c.loop-step.invariant.seen
