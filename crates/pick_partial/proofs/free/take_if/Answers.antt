-- `take_if` meets its contract. Assumes nothing.
use Rattle.pick_partial.proofs.FreeLaws.{took-free, took_not}
use borrow.Author.Rules.{rules}
use Rattle.pick_partial.proofs.free.take_if.Goals as goal

pub returns-then-free : goal.returns-then-free
returns-then-free c = took-free _ c.if-free.true _ _ c.take.ensures

pub returns : goal.returns
returns c = took_not _ c.if-free.false _ _ _ _
