-- `release` meets its contract. Assumes nothing.
use mathlib.Core.Path.{refl}
use native.Mathlib.Omega.{arith}
use borrow.Author.Rules.{rules}
use Rattle.memory_blocks.proofs.PeerLaws.{release_is}
use Rattle.memory_blocks.proofs.peers.release.Goals as goal

pub overflow_sub-result : goal.overflow_sub-result
overflow_sub-result c = omega (arith, c.requires)

pub returns : goal.returns
returns c = (refl, release_is c.args.b c.args.has_peer c.args.peer c.same_named-same.result c.same_named-same.ensures)
