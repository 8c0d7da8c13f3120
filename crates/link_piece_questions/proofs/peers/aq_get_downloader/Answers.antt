-- `aq_get_downloader` asks what `get_downloader` asks, and hands its answer on as a kind and a number. Assumes nothing.
use borrow.Author.Rules.{rules}
use Rattle.link_piece_questions.proofs.peers.aq_get_downloader.Goals as goal

pub returns : goal.returns
returns c = rw c.from.ensures c.get_downloader.ensures
