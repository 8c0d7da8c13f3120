-- `same_named` meets its contract. Assumes nothing.
use Rattle.memory_blocks.proofs.PeerLaws.{same_named}
use Rattle.memory_blocks.proofs.peers.same_named.Goals as goal

pub returns : goal.returns
returns c = same_named c.args.has_peer c.args.peer c.args.has_other c.args.other
