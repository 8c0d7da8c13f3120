-- `aq_locked` asks what `locked` asks, and hands its answer on as a kind and a number. Assumes nothing.
use borrow.Author.Rules.{rules}
use Rattle.link_piece_questions.proofs.flags.aq_locked.Goals as goal

pub returns : goal.returns
returns c = rw c.from.ensures c.locked.ensures
