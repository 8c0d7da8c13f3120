-- `is_wanted` meets its contract. Assumes nothing.
use borrow.Author.Rules.{rules}
use Rattle.pick_free.proofs.pieces.is_wanted.Goals as goal

pub returns : goal.returns
returns c = record {
  is = λ records words b. rw (c.flushed-had.ensures.is records words b, c.priority-wish.ensures.is records words b);
}
