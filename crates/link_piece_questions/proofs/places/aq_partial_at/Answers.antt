-- `aq_partial_at` asks what `partial_at` asks, and hands its answer on as a kind and a number. Assumes nothing.
use borrow.Author.Rules.{rules}
use Rattle.link_piece_questions.proofs.places.aq_partial_at.Goals as goal

pub returns : goal.returns
returns c = rw c.from.ensures c.partial_at.ensures
