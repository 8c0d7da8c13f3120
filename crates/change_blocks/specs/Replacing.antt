-- A block of a standing partial replaced, and the numbers of its blocks after that. Assumes nothing.
use Rattle.std.specs.Prelude.{ℕ, ◌<◌, ◌≡◌, true, List}
use Rattle.types.specs.Block.{block_state_number}
use Rattle.model.specs.Lists.{len, set_nth}
use Rattle.model.specs.State.{Block, DownloadingPiece, with_blocks}
use Rattle.model.specs.list.Order.{Draws}
use Rattle.model.specs.change.Partials.{block_at}
use Rattle.model.specs.change.Changes.{set_block}
use Rattle.model.specs.image.Sound.{partials_from}
use Rattle.memory_records.specs.declared.record.DownloadingPiece.{DownloadingPiece as Record}
use Rattle.memory_layout.specs.declared.shape.Shape.{Shape}
use Rattle.memory_layout.specs.Decode.{head_word, record_at, blocks_of, decode}
use Rattle.memory_layout.specs.Changes.{partial_in}
use Rattle.memory_blocks.specs.declared.info.BlockInfo.{BlockInfo}
use Rattle.memory_blocks.specs.Blocks.{block_of}
use Rattle.change_steps.specs.Working.{Works, Went}
use Rattle.change_state.specs.declared.states.Tally.{Tally}
use Rattle.change_state.specs.Numbers.{IsTally}

-- ---- the numbers
-- block j replaced
unfoldable pub with_block_at : (j : ℕ) (b : Block) (d : DownloadingPiece) → DownloadingPiece
with_block_at j b d = with_blocks (set_nth j b d.blocks) d

-- t' has the numbers after a block of the state with number `old` is replaced by one of that with `new`
pub record Retallied (t : Tally) (old new : ℕ) (t' : Tally) : Type 0 where
  pub is : (d : DownloadingPiece) (j : ℕ) (b : Block) → IsTally t d → j < len d.blocks → old ≡ block_state_number (block_at d j).state
      → new ≡ block_state_number b.state → IsTally t' (with_block_at j b d)

-- ---- the block
-- record k is live, of piece i at place p, the piece has a block j, and the partials rise by piece
pub record PartialAt (s : Shape) (records : List Record) (words cells : List ℕ) (i p j k : ℕ) : Type 0 where
  pub works : Works s records words cells
  pub rising : partials_from 0 (decode records words cells).partials ≡ true
  pub low : k < head_word words 7
  pub index : (record_at records k).index ≡ i
  pub place : (record_at records k).info_idx ≡ p
  pub block : j < blocks_of words i

-- it is so with some records beside these words and cells
pub record PartialBeside (s : Shape) (words cells : List ℕ) (i p j : ℕ) : Type 0 where
  pub records : List Record
  pub k : ℕ
  pub stands : PartialAt s records words cells i p j k

-- and its blocks have the numbers of t
pub record TallyAt (s : Shape) (records : List Record) (words cells : List ℕ) (i p j : ℕ) (t : Tally) (k : ℕ) : Type 0 where
  pub stands : PartialAt s records words cells i p j k
  pub tally : IsTally t (partial_in (decode records words cells) k)

-- the same, with some records
pub record TallyBeside (s : Shape) (words cells : List ℕ) (i p j : ℕ) (t : Tally) : Type 0 where
  pub records : List Record
  pub k : ℕ
  pub there : TallyAt s records words cells i p j t k

-- the definition's `set_block`, with whichever records stand beside, of the partial at place p
pub record BlockSet (s : Shape) (draws : Draws) (i p j : ℕ) (x : BlockInfo) (t : Tally) (words cells : List ℕ) (used : ℕ)
    (words' cells' : List ℕ) (next : ℕ) : Type 0 where
  pub went : (records : List Record) (k : ℕ) → PartialAt s records words cells i p j k
      → IsTally t (with_block_at j (block_of x) (partial_in (decode records words cells) k))
      → Went s (set_block draws i (partial_in (decode records words cells) k) j (block_of x)) records words cells used
      records words' cells' next
