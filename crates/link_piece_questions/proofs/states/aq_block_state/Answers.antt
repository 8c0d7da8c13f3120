-- `aq_block_state` asks what `block_state` asks, and hands its answer on as a kind and a number. Assumes nothing.
use borrow.Author.Rules.{rules}
use Rattle.link_piece_questions.proofs.states.aq_block_state.Goals as goal

pub returns : goal.returns
returns c = rw c.from.ensures c.block_state.ensures
