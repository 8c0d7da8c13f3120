-- `last_wanted` meets its contract. Assumes nothing.
use Rattle.pick_partial.proofs.FreeLaws.{below_two}
use borrow.Author.Rules.{rules}
use Rattle.pick_partial.proofs.free.last_wanted.Goals as goal

pub returns : goal.returns
returns c = rw (c.contiguous_above-above.ensures, below_two)
