-- The arguments of the calls of a block: what their types say of the peer. Assumes nothing.
use mathlib.Core.List.{List}
use Prim.Native.Nat.{◌<◌, ◌^◌}
use mir.Val.{Val}
use denote.Laws.{Is}
use denote.Struct.Laws as LL
use Rattle.picker_blocks.specs.declared.arguments.BlockPeer.{BlockPeer}
use Rattle.picker_blocks.specs.declared.arguments.BlockRequest.{BlockRequest}
use Rattle.picker_blocks.specs.contracts.arguments.BlockPeer as P
use Rattle.picker_blocks.proofs.arguments.BlockPeer.TheLaws as P'
use Rattle.picker_blocks.specs.contracts.arguments.BlockRequest as R
use Rattle.picker_blocks.proofs.arguments.BlockRequest.TheLaws as R'

-- the peer of each has 64 bits
pub peer_wide : (a : BlockPeer) (vs : List Val) → Is P.the_row a vs → a.peer < 2 ^ 64
peer_wide a vs p = (LL.owed P.the_type P'.the_laws a vs p).1.1.0.1

pub request_wide : (a : BlockRequest) (vs : List Val) → Is R.the_row a vs → a.peer < 2 ^ 64
request_wide a vs p = (LL.owed R.the_type R'.the_laws a vs p).1.1.0.1
