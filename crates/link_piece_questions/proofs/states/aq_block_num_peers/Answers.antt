-- `aq_block_num_peers` asks what `block_num_peers` asks, and hands its answer on as a kind and a number. Assumes nothing.
use borrow.Author.Rules.{rules}
use Rattle.link_piece_questions.proofs.states.aq_block_num_peers.Goals as goal

pub returns : goal.returns
returns c = rw c.from.ensures c.block_num_peers.ensures
