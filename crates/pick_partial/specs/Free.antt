-- The states of a partial's blocks as a column of numbers. Assumes nothing.
use Rattle.std.specs.Prelude.{ℕ, ◌≤◌, ◌<◌, ◌≡◌, false, List, length, get_or}
use Rattle.std.proofs.Math.Option.{none}
use Rattle.types.specs.Block.{block_state_number}
use Rattle.model.specs.Lists.{each, len}
use Rattle.model.specs.State.{Block, DownloadingPiece}
use Rattle.model.specs.change.Partials.{block_at}
use Rattle.memory_layout.specs.Decode.{state_from}

-- each number is a state's
pub record PlainStates (states : List ℕ) : Type 0 where
  pub plain : (j : ℕ) → j < length states → get_or states j 0 ≤ 3

-- a block in a state
unfoldable pub block_by : (state : ℕ) → Block
block_by state = record { state = state_from state; num_peers = 0; peer = none }

-- a partial of piece i whose blocks are in these states: taking and setting aside look at nothing else
unfoldable pub partial_by : (i : ℕ) (states : List ℕ) → DownloadingPiece
partial_by i states =
    record { piece = i; passed_hash_check = false; locked = false; hashing = false; blocks = each block_by states }

-- the partial d of piece i has its blocks in these states
pub record StatesOf (d : DownloadingPiece) (i : ℕ) (states : List ℕ) : Type 0 where
  pub piece : d.piece ≡ i
  pub long : len d.blocks ≡ length states
  pub state : (j : ℕ) → j < length states → block_state_number (block_at d j).state ≡ get_or states j 0
