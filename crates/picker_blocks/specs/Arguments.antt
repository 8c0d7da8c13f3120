-- The definition's numbers of what a call of a block takes. Assumes nothing.
use Rattle.std.proofs.Math.Option.{Option}
use Rattle.std.specs.Prelude.{ℕ}
use Rattle.types.specs.Piece.{number_of}
use Rattle.types.specs.Peer.{named_peer}
use Rattle.model.specs.list.Order.{Draws}
use Rattle.model.specs.Calls.{Action, do_mark_as_downloading}
use Rattle.picker_blocks.specs.declared.arguments.BlockPeer.{BlockPeer}
use Rattle.picker_blocks.specs.declared.arguments.BlockRequest.{BlockRequest}

-- the call of this block and peer with these draws
abbrev pub on_block : (call : (piece block : ℕ) (peer : Option ℕ) (draws : Draws) → Action) (a : BlockPeer) (draws : Draws) → Action
on_block call a draws =
    call (number_of a.block.piece_index.0) (number_of a.block.block_index) (named_peer a.has_peer a.peer) draws

-- the mark of this request with these draws
abbrev pub downloading : (a : BlockRequest) (draws : Draws) → Action
downloading a draws =
    do_mark_as_downloading (number_of a.block.piece_index.0) (number_of a.block.block_index) (named_peer a.has_peer a.peer)
    a.options.0 draws
