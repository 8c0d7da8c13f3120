-- `aq_recent_extent` asks what `recent_extent` asks, and hands its answer on as a kind and a number. Assumes nothing.
use borrow.Author.Rules.{rules}
use Rattle.link_piece_questions.proofs.places.aq_recent_extent.Goals as goal

pub returns : goal.returns
returns c = let k = rw c.from-s.ensures at c.recent_extent.ensures in rw c.from.ensures k
