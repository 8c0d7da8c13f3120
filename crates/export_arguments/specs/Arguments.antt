-- What the public calls take, of the numbers that C gives. Assumes nothing.
use Rattle.std.specs.Prelude.{ltb, ℤ}
use Rattle.types.specs.declared.piece.PieceIndex.{PieceIndex}
use Rattle.types.specs.declared.piece.PieceBlock.{PieceBlock}
use Rattle.picker_flags.specs.declared.priorities.PiecePriority.{PiecePriority}
use Rattle.picker_blocks.specs.declared.arguments.BlockPeer.{BlockPeer}
use Rattle.picker_blocks.specs.declared.arguments.BlockRequest.{BlockRequest}
use Rattle.pick_judge.specs.declared.arguments.PickInput.{PickInput}
use Rattle.export_arguments.specs.declared.pieces.PriorityOf.{PriorityOf}
use Rattle.export_arguments.specs.declared.blocks.BlockPlace.{BlockPlace}
use Rattle.export_arguments.specs.declared.blocks.NamedBlock.{NamedBlock}
use Rattle.export_arguments.specs.declared.blocks.RequestedBlock.{RequestedBlock}
use Rattle.export_arguments.specs.declared.picks.PickAsked.{PickAsked}

-- the piece of a number
abbrev pub piece_of : (z : ℤ) → PieceIndex
piece_of z = record { 0 = z }

-- a piece's priority
abbrev pub priority_of : (x : PriorityOf) → PiecePriority
priority_of x = record { piece = record { 0 = x.piece }; priority = record { 0 = x.priority } }

-- a block of a piece
abbrev pub block_of : (x : BlockPlace) → PieceBlock
block_of x = record { piece_index = record { 0 = x.piece }; block_index = x.block }

-- a block and a peer: none for a flag of 0
abbrev pub named_block : (x : NamedBlock) → BlockPeer
named_block x =
    record {
      block = record { piece_index = record { 0 = x.piece }; block_index = x.block };
      has_peer = ltb 0 x.has_peer;
      peer = x.peer;
    }

-- the same with options
abbrev pub requested_block : (x : RequestedBlock) → BlockRequest
requested_block x =
    record {
      block = record { piece_index = record { 0 = x.piece }; block_index = x.block };
      has_peer = ltb 0 x.has_peer;
      peer = x.peer;
      options = record { 0 = x.options };
    }

-- what a pick is asked
abbrev pub pick_asked : (x : PickAsked) → PickInput
pick_asked x =
    record {
      options = record { 0 = x.options };
      num_blocks = x.num_blocks;
      prefer_contiguous_blocks = x.prefer_contiguous_blocks;
      num_peers = x.num_peers;
      has_peer = ltb 0 x.has_peer;
      peer = x.peer;
      bits = x.bits;
      end = x.end;
    }
