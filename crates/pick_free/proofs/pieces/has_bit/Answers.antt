-- `has_bit` meets its contract. Assumes nothing.
use borrow.Author.Rules.{rules}
use Rattle.model.specs.pick.Blocks.{has_bit}
use Rattle.bitfield.specs.Bitfield.{get_bit}
use Rattle.pick_state.specs.Requests.{request_of}
use Rattle.pick_free.proofs.pieces.has_bit.Goals as goal

pub returns : goal.returns
unfolding has_bit request_of get_bit
returns c = c.get_bit.ensures
