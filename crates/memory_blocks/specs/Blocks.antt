-- What the numbers of a block mean, read from its place and stored there. Assumes nothing.
use Rattle.std.specs.Prelude.{ℕ, ◌<◌, ◌≡◌, ◌≢◌, List}
use Rattle.std.proofs.Math.Option.{none}
use Rattle.types.specs.Block.{block_state_number}
use Rattle.types.specs.Peer.{named_peer}
use Rattle.model.specs.Lists.{bit}
use Rattle.model.specs.State.{Block}
use Rattle.model.specs.change.Partials.{block_at}
use Rattle.memory_records.specs.declared.record.DownloadingPiece.{DownloadingPiece as Record}
use Rattle.memory_layout.specs.declared.shape.Shape.{Shape}
use Rattle.memory_layout.specs.Decode.{head_word, peer_word, record_at, blocks_of, state_from, block_held, decode}
use Rattle.memory_layout.specs.Changes.{partial_in, with_partial, with_block}
use Rattle.memory_layout.specs.Bounds.{InBounds, PlainBlock}
use Rattle.memory_layout.specs.Stores.{Became, ListKept}
use Rattle.memory_layout.specs.Frames.{BlockPut}
use Rattle.memory_blocks.specs.declared.info.BlockInfo.{BlockInfo}

-- the block of these numbers: without a peer its number means nothing
unfoldable pub block_of : (x : BlockInfo) → Block
block_of x = record { state = state_from x.state; num_peers = x.num_peers; peer = named_peer x.has_peer x.peer }

-- the numbers are the block's, with its state's number
pub record BlockIs (x : BlockInfo) (y : Block) : Type 0 where
  pub is : block_of x ≡ y
  pub state : x.state ≡ block_state_number y.state

-- record k is live, has place p, and its piece has a block j
pub record Live (records : List Record) (words : List ℕ) (k p j : ℕ) : Type 0 where
  pub low : k < head_word words 7
  pub place : (record_at records k).info_idx ≡ p
  pub block : j < blocks_of words (record_at records k).index

-- ---- read
-- the numbers are those at place p, and block j of the partial of every live record that has the place
pub record BlockRead (s : Shape) (words cells : List ℕ) (p j : ℕ) (x : BlockInfo) : Type 0 where
  pub held : BlockIs x (block_held words cells s.pieces s.blocks p j)
  pub live : (records : List Record) (k : ℕ) → InBounds s records words cells → Live records words k p j
      → BlockIs x (block_at (partial_in (decode records words cells) k) j)

-- ---- stored
-- the numbers stand at place p and nothing else moved; the partial of a live record that has the place has the block, and where no live
-- record has it the picker is as it was
pub record BlockStored (s : Shape) (words cells words' cells' : List ℕ) (p j : ℕ) (x : BlockInfo) : Type 0 where
  pub put : BlockPut s words cells words' cells' p j x.state x.num_peers (bit x.has_peer) x.peer
  pub list : ListKept s words words'
  pub live : (records : List Record) (k : ℕ) → InBounds s records words cells → k < head_word words 7 → (record_at records k).info_idx ≡ p
      → Became s (with_partial k (with_block j (block_of x))) records words cells words' cells'
  pub elsewhere : (records : List Record) → InBounds s records words cells
      → ((k : ℕ) → k < head_word words 7 → (record_at records k).info_idx ≢ p)
      → Became s (λ d. d) records words cells words' cells'

-- a block in a state, with no peers, stands at place p beside any words, its numbers plain; where no live record has the place the picker
-- is as it was
pub record BlockFresh (s : Shape) (cells cells' : List ℕ) (p j state : ℕ) : Type 0 where
  pub put : (words : List ℕ) → BlockPut s words cells words cells' p j state 0 0 (peer_word words s.pieces s.blocks p j)
  pub held : (words : List ℕ) → block_held words cells' s.pieces s.blocks p j ≡ record {
    state = state_from state;
    num_peers = 0;
    peer = none;
  }
  pub plain : PlainBlock s.pieces s.blocks cells' p j
  pub elsewhere : (records : List Record) (words : List ℕ) → InBounds s records words cells
      → ((k : ℕ) → k < head_word words 7 → (record_at records k).info_idx ≢ p)
      → Became s (λ d. d) records words cells words cells'
