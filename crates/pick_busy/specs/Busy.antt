-- The blocks that another peer was asked for, in a row of numbers. Assumes nothing.
use Rattle.std.specs.Prelude.{ℕ, ◌≤◌, ◌<◌, ◌≡◌, Bool, not, ◌&&◌, List, length, get_or, take}
use Rattle.std.proofs.Math.Option.{Option}
use Rattle.types.specs.declared.block.BlockState.TheVariants.{Requested}
use Rattle.model.specs.Lists.{from, filter}
use Rattle.model.specs.State.{Block, DownloadingPiece, same_block_state, same_peer}
use Rattle.model.specs.pick.Pick.{busy_blocks}
use Rattle.memory_layout.specs.declared.shape.Shape.{Shape}
use Rattle.memory_layout.specs.Decode.{block_held}
use Rattle.memory_blocks.specs.declared.info.BlockInfo.{BlockInfo}
use Rattle.memory_blocks.specs.Blocks.{BlockIs}
use Rattle.pick_state.specs.declared.request.PickRequest.{PickRequest}
use Rattle.pick_state.specs.Requests.{request_of}

-- a block that is requested, and that not this peer asked for last
unfoldable pub is_busy : (peer : Option ℕ) (b : Block) → Bool
is_busy peer b = same_block_state b.state Requested && not (same_peer b.peer peer)

-- whichever block has these numbers
pub record BusySays (peer : Option ℕ) (b : BlockInfo) (r : Bool) : Type 0 where
  pub is : (y : Block) → BlockIs b y → r ≡ is_busy peer y

-- of the first blocks of place p, the first n of the row
pub record BusyAt (words cells : List ℕ) (s : Shape) (p many : ℕ) (peer : Option ℕ) (n : ℕ) (row : List ℕ) : Type 0 where
  pub is : take n row ≡ filter (λ j. is_busy peer (block_held words cells s.pieces s.blocks p j)) (from 0 many)
  pub few : n ≤ many
  pub long : length row ≡ 512

-- of a partial: the definition's, whatever bitfield the peer has
pub record BusyIn (q : PickRequest) (d : DownloadingPiece) (n : ℕ) (row : List ℕ) : Type 0 where
  pub is : (bytes : List ℕ) → take n row ≡ busy_blocks (request_of q bytes) d
  pub few : n ≤ 256
  pub low : (j : ℕ) → j < n → get_or row j 0 < 256
  pub long : length row ≡ 512
