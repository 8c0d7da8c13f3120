-- `put_aside_if` meets its contract. Assumes nothing.
use Rattle.pick_partial.proofs.FreeLaws.{put_free, put_not}
use borrow.Author.Rules.{rules}
use Rattle.pick_partial.proofs.free.put_aside_if.Goals as goal

pub returns-then-free : goal.returns-then-free
returns-then-free c = put_free _ c.if-free.true _ _ c.put_aside.ensures

pub returns : goal.returns
returns c = put_not _ c.if-free.false _ _ _ _
