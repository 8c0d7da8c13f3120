-- `same_peer` meets its contract. Assumes nothing.
use mathlib.Core.Path.{◌∙◌}
use borrow.Author.Rules.{rules}
use Rattle.memory_blocks.proofs.PeerLaws.{same_is}
use Rattle.memory_blocks.proofs.peers.same_peer.Goals as goal

pub returns : goal.returns
returns c = c.same_named.ensures ∙ same_is c.args.b c.args.has_peer c.args.peer
