-- A block of a standing partial that is on disk, and the flush that it can cause. Assumes nothing.
use Rattle.std.specs.Prelude.{ℕ, ◌≡◌, Bool, true, List}
use Rattle.types.specs.declared.block.BlockState.TheVariants.{Finished}
use Rattle.types.specs.Peer.{named_peer}
use Rattle.model.specs.State.{Block}
use Rattle.model.specs.list.Order.{Draws}
use Rattle.model.specs.change.Partials.{blocks_in_state}
use Rattle.model.specs.change.Changes.{finished_by, finished_peer, mark_finished_in}
use Rattle.model.specs.image.WellFormed.{well_formed}
use Rattle.memory_records.specs.declared.record.DownloadingPiece.{DownloadingPiece as Record}
use Rattle.memory_records.specs.declared.edits.Edit.{Edit}
use Rattle.memory_layout.specs.declared.shape.Shape.{Shape}
use Rattle.memory_layout.specs.Decode.{record_at, decode}
use Rattle.memory_layout.specs.Changes.{partial_in}
use Rattle.memory_blocks.specs.declared.info.BlockInfo.{BlockInfo}
use Rattle.memory_blocks.specs.Blocks.{block_of}
use Rattle.change_state.specs.declared.states.Tally.{Tally}
use Rattle.change_blocks.specs.Replacing.{TallyAt}
use Rattle.change_returns.specs.Giving.{PartialChanged}

-- ---- before
-- record k is the partial of piece i at place p in a well-formed picker; it has these flags, its blocks the numbers of t, and so many of
-- them are on disk
pub record FinishAt (s : Shape) (records : List Record) (words cells : List ℕ) (i p j : ℕ) (t : Tally) (flags finished k : ℕ)
    : Type 0 where
  pub there : TallyAt s records words cells i p j t k
  pub sound : well_formed (decode records words cells) ≡ true
  pub flagged : (record_at records k).flags ≡ flags
  pub counted : finished ≡ blocks_in_state Finished (partial_in (decode records words cells) k)

-- it is so with some records beside these words and cells
pub record FinishBeside (s : Shape) (words cells : List ℕ) (i p j : ℕ) (t : Tally) (flags finished : ℕ) : Type 0 where
  pub records : List Record
  pub k : ℕ
  pub placed : FinishAt s records words cells i p j t flags finished k

-- ---- after
-- the numbers of block b once it is on disk
pub record FinishedInfo (b : BlockInfo) (has : Bool) (peer : ℕ) (x : BlockInfo) : Type 0 where
  pub state : x.state ≡ 3
  pub is : (y : Block) → block_of b ≡ y → block_of x ≡ finished_by (finished_peer (named_peer has peer) y) y.num_peers

-- the definition's `mark_finished_in` of a standing partial
abbrev pub BlockFinished : (s : Shape) (draws : Draws) (i p j : ℕ) (has : Bool) (peer : ℕ) (t : Tally) (flags finished : ℕ)
    (words cells : List ℕ) (used : ℕ) (words' cells' : List ℕ) (edit : Edit) (next : ℕ) → Type 0
BlockFinished s draws i p j has peer t flags finished words cells used words' cells' edit next =
    PartialChanged s (λ found w. mark_finished_in draws i found j (named_peer has peer) w) i
    (λ records k. FinishAt s records words cells i p j t flags finished k) words cells used words' cells' edit next
