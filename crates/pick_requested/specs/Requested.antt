-- What a pass over the blocks of a partial finds, and what it has come to before block j. Assumes nothing.
use Rattle.std.specs.Prelude.{ℕ, suc, ◌-◌, ◌≤◌, ◌≡◌, Bool, not, ◌&&◌, ◌||◌, List, ◌∷◌}
use Rattle.std.proofs.Math.Option.{Option}
use Rattle.types.specs.declared.block.BlockState.TheVariants.{Requested as RequestedState}
use Rattle.model.specs.Lists.{any}
use Rattle.model.specs.State.{Block, DownloadingPiece, same_block_state, has_peer}
use Rattle.model.specs.pick.Blocks.{RequestedFrom, FreeRun, longer, longest_free, by_another, requested_from}
use Rattle.memory_layout.specs.declared.shape.Shape.{Shape}
use Rattle.memory_layout.specs.Tables.{tabulate}
use Rattle.memory_layout.specs.Decode.{block_held}
use Rattle.memory_blocks.specs.declared.info.BlockInfo.{BlockInfo}
use Rattle.memory_blocks.specs.Blocks.{BlockIs}
use Rattle.pick_requested.specs.declared.requested.RequestedFrom.{RequestedFrom as Numbers}
use Rattle.pick_requested.specs.declared.requested.Scan.{Scan}

-- the definition's answer
unfoldable pub found_is : (r : Numbers) → RequestedFrom
found_is r = record { exclusive = r.exclusive; active = r.active; longest = r.longest; first = r.first }

-- the longest run of free blocks so far
unfoldable pub run_of : (x : Scan) → FreeRun
run_of x = record { longest = x.longest; first = x.first }

-- the run right before block j is over
unfoldable pub run_ended : (j : ℕ) (x : Scan) → Scan
run_ended j x =
    record {
      exclusive = x.exclusive;
      active = x.active;
      longest = (longer j x.now (run_of x)).longest;
      first = (longer j x.now (run_of x)).first;
      now = 0;
    }

-- another peer has a request
unfoldable pub at_work : (peer : Option ℕ) (b : Block) → Bool
at_work peer b = by_another peer b && (same_block_state b.state RequestedState && has_peer b.peer)

-- what a pass that has come to x answers, with the blocks `bs` left from block j on
unfoldable pub found_from : (peer : Option ℕ) (j : ℕ) (x : Scan) (bs : List Block) → RequestedFrom
found_from peer j x bs =
    record {
      exclusive = x.exclusive && not (any (by_another peer) bs);
      active = x.active || any (at_work peer) bs;
      longest = (longest_free j x.now (run_of x) bs).longest;
      first = (longest_free j x.now (run_of x) bs).first;
    }

-- its numbers are in range
pub record Within (x : Scan) (j : ℕ) : Type 0 where
  pub now : x.now ≤ j
  pub longest : x.longest ≤ j
  pub first : x.first ≤ j - 1

-- block j was passed: whichever block has these numbers, the pass answers the same from the next one on
pub record PassedOver (peer : Option ℕ) (j : ℕ) (x : Scan) (b : BlockInfo) (r : Scan) : Type 0 where
  pub is : (y : Block) (bs : List Block) → BlockIs b y → found_from peer j x (y ∷ bs) ≡ found_from peer (suc j) r bs

-- the answer of each partial with the first blocks of place p, its numbers in range
pub record Requested (words cells : List ℕ) (s : Shape) (p many : ℕ) (peer : Option ℕ) (r : Numbers) : Type 0 where
  pub is : (d : DownloadingPiece) → d.blocks ≡ tabulate many (block_held words cells s.pieces s.blocks p)
      → found_is r ≡ requested_from peer d
  pub longest : r.longest ≤ many
  pub first : r.first ≤ many - 1
