-- `aq_block_peer` asks what `block_peer` asks, and hands its answer on as a kind and a number. Assumes nothing.
use borrow.Author.Rules.{rules}
use Rattle.link_piece_questions.proofs.peers.aq_block_peer.Goals as goal

pub returns : goal.returns
returns c = rw c.from.ensures c.block_peer.ensures
