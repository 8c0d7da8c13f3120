-- What a pick has to know of a partial to use its free blocks. Assumes nothing.
use Rattle.std.specs.Prelude.{ℕ, ◌-◌, ◌≤◌, ◌≡◌, not, ◌||◌, List}
use Rattle.types.specs.Bits.{meets}
use Rattle.types.specs.Peer.{named_peer}
use Rattle.model.specs.State.{DownloadingPiece}
use Rattle.model.specs.Options.{on_parole}
use Rattle.model.specs.pick.Blocks.{PickState, requested_from, use_free}
use Rattle.memory_layout.specs.declared.shape.Shape.{Shape}
use Rattle.memory_layout.specs.Tables.{tabulate}
use Rattle.memory_layout.specs.Decode.{block_held}
use Rattle.pick_state.specs.declared.request.PickRequest.{PickRequest}
use Rattle.pick_state.specs.declared.numbers.PickNumbers.{PickNumbers}
use Rattle.pick_state.specs.PickStates.{contiguous_of}
use Rattle.pick_requested.specs.declared.requested.RequestedFrom.{RequestedFrom}
use Rattle.pick_requested.specs.Requested.{found_is}

-- for a partial with the first blocks of place p it is as good as `requested_from`: on parole it says whether another touched it, and with
-- the run of t the free blocks are used alike; its numbers are in range
pub record Known (words cells : List ℕ) (s : Shape) (p many : ℕ) (q : PickRequest) (t : PickNumbers) (r : RequestedFrom) : Type 0 where
  pub exclusive : (d : DownloadingPiece) → d.blocks ≡ tabulate many (block_held words cells s.pieces s.blocks p)
      → (not (meets q.options.0 on_parole) || r.exclusive)
      ≡ (not (meets q.options.0 on_parole) || (requested_from (named_peer q.has_peer q.peer) d).exclusive)
  pub uses : (d : DownloadingPiece) → d.blocks ≡ tabulate many (block_held words cells s.pieces s.blocks p) → (w : PickState)
      → w.contiguous ≡ contiguous_of t → use_free d (found_is r) w ≡ use_free d (requested_from (named_peer q.has_peer q.peer) d) w
  pub longest : r.longest ≤ many
  pub first : r.first ≤ many - 1
