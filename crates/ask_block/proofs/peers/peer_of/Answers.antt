-- `peer_of` meets its contract. Assumes nothing.
use Rattle.ask_block.specs.Blocks.{peer_found}
use Rattle.memory_blocks.specs.Blocks.{block_of}
use mathlib.Core.Bool.{Bool, cond}
use mathlib.Core.Option.{none, some}
use mathlib.Core.Path.{sym, ap}
use Rattle.ask_block.proofs.peers.peer_of.Goals as goal

pub returns-then-x : goal.returns-then-x
unfolding peer_found block_of
returns-then-x c = ap (λ (t : Bool). peer_found (cond t (some c.args.x.peer) none)) (sym c.if-x.true)

pub returns : goal.returns
unfolding peer_found block_of
returns c = ap (λ (t : Bool). peer_found (cond t (some c.args.x.peer) none)) (sym c.if-x.false)
