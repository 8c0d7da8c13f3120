-- `aq_list_place` asks what `list_place` asks, and hands its answer on as a kind and a number. Assumes nothing.
use borrow.Author.Rules.{rules}
use Rattle.link_piece_questions.proofs.places.aq_list_place.Goals as goal

pub returns : goal.returns
returns c = let k = rw c.from-s.ensures at c.list_place.ensures in rw c.from.ensures k
