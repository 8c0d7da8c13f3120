-- `onward` meets its contract. Assumes nothing.
use Rattle.pick_partial.proofs.RoundLaws.{next_up, next_round}
use borrow.Author.Rules.{rules}
use Rattle.pick_partial.proofs.free.onward.Goals as goal

pub returns-then-next-many : goal.returns-then-next-many
returns-then-next-many c = next_up _ _ c.if-next-many.true

pub returns : goal.returns
returns c = next_round _ _ c.requires.0 c.if-next-many.false
