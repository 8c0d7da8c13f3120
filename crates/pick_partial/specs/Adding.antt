-- A step on the output or on the blocks set aside, what it relies on, and what the free blocks of a partial add. Assumes nothing.
use Rattle.std.specs.Prelude.{ℕ, ◌+◌, ◌≤◌, ◌<◌, ◌≡◌, Bool, not, ◌||◌, List, length}
use Rattle.types.specs.Bits.{meets}
use Rattle.types.specs.Peer.{named_peer}
use Rattle.model.specs.Lists.{when}
use Rattle.model.specs.State.{DownloadingPiece, Picker}
use Rattle.model.specs.Options.{on_parole}
use Rattle.model.specs.pick.Blocks.{PickState, requested_from, use_free}
use Rattle.memory_layout.specs.declared.shape.Shape.{Shape}
use Rattle.memory_layout.specs.Tables.{tabulate}
use Rattle.memory_layout.specs.Decode.{block_cell, block_held}
use Rattle.pick_state.specs.declared.request.PickRequest.{PickRequest}
use Rattle.pick_state.specs.declared.numbers.PickNumbers.{PickNumbers}
use Rattle.pick_state.specs.PickStates.{Did}

-- room for a piece's blocks in the output, and among those set aside where not enough are there
pub record HasRoom (t : PickNumbers) (out aside : List ℕ) : Type 0 where
  pub room : t.end + 256 ≤ length out
  pub given : t.given ≤ 65536
  pub backup : t.aside < length aside
  pub wide : t.left + 256 ≤ length aside

-- `step` was made on both, whatever stands beside them; at most 256 blocks were appended
pub record BlocksDid (step : PickState → PickState) (t r : PickNumbers) (out aside out' aside' : List ℕ) : Type 0 where
  pub is : (d : Picker) (ignored : List Bool) (loops : List ℕ) → Did step d t r out aside ignored loops out' aside' ignored loops
  pub few : r.end ≤ t.end + 256

-- the states of the first blocks of place p are numbers of states
pub record PlainAt (s : Shape) (cells : List ℕ) (p many : ℕ) : Type 0 where
  pub plain : (j : ℕ) → j < many → block_cell cells s.pieces s.blocks 0 p j ≤ 3

-- what the free blocks of each partial of piece i with the first blocks of place p add; on parole only where no other peer touched it
pub record FreeDid (words cells : List ℕ) (s : Shape) (q : PickRequest) (i p many : ℕ) (t r : PickNumbers) (out aside out' aside' : List ℕ)
    : Type 0 where
  pub is : (d : DownloadingPiece) → d.piece ≡ i → d.blocks ≡ tabulate many (block_held words cells s.pieces s.blocks p)
      → BlocksDid (when (not (meets q.options.0 on_parole) || (requested_from (named_peer q.has_peer q.peer) d).exclusive)
      (use_free d (requested_from (named_peer q.has_peer q.peer) d))) t r out aside out' aside'
