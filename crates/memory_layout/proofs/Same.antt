-- What one store leaves the same. Assumes nothing.
use mathlib.Core.Path.{◌≡◌, sym}
use mathlib.Core.Logic.{◌≢◌}
use mathlib.Core.List.{List}
use Prim.Native.Nat.{ℕ, ◌+◌, ◌*◌, ◌≤◌, ◌<◌}
use native.Mathlib.Omega.{arith}
use native.Mathlib.Decide.{ℕ_discrete}
use lib.ListN.{length, get_or, set}
use lib.Seq.{get_or-set_same, get_or-set_other}
use Rattle.memory_layout.specs.Tables.{choose}
use Rattle.memory_layout.specs.Offsets.{places_for, piece_word_at, peer_at, piece_cell_at, block_cell_at}
use Rattle.memory_layout.specs.Decode.{head_word, piece_word, peer_word, piece_cell, block_cell}
use Rattle.memory_layout.specs.Frames.{SameHead, SameColumn, SamePeers, SameFields, SameBlocks, SameFrom}
use Rattle.memory_layout.proofs.TableLaws.{choose_same, choose_other}
use Rattle.memory_layout.proofs.OffsetLaws.{piece_word_from, piece_word_below, piece_word_column, piece_word_piece, peer_from}
use Rattle.memory_layout.proofs.OffsetLaws.{peer_place, peer_block, piece_cell_below, piece_cell_column, piece_cell_piece}
use Rattle.memory_layout.proofs.OffsetLaws.{block_cell_from, block_cell_column, block_cell_place, block_cell_block}

-- a store below the need leaves what lies beyond
pub beyond_same : (need : ℕ) (xs : List ℕ) (a v : ℕ) → a < need → SameFrom need xs (set xs a v)
beyond_same need xs a v h k l = get_or-set_other xs a k v 0 (λ e. omega arith)

-- ---- a store into the words, at offset a
module _ (words : List ℕ) (a v : ℕ) where
  -- a word of the head that stands elsewhere
  pub head_other : (k : ℕ) → k ≢ a → head_word (set words a v) k ≡ head_word words k
  unfolding head_word
  head_other k ne = get_or-set_other words a k v 0 ne

  -- a store behind the head leaves it
  pub head_same : 16 ≤ a → SameHead words (set words a v)
  head_same h k l = head_other k (λ e. omega arith)

  -- each word of the head after a store in it
  pub head_stored : a < length words → (k : ℕ) → head_word (set words a v) k ≡ choose a k v (head_word words k)
  unfolding head_word
  head_stored h k = elim (ℕ_discrete a k) [
    | yes e ↦ rw (← e, choose_same a v (get_or words a 0)) (get_or-set_same words a v 0 h)
    | no m ↦ rw (choose_other a k v (get_or words k 0) m) (get_or-set_other words a k v 0 (λ e. m (sym e)))
  ]

  module _ (n : ℕ) where
    -- a word of a piece that stands elsewhere
    pub piece_word_other : (f i : ℕ) → piece_word_at n f i ≢ a → piece_word (set words a v) n f i ≡ piece_word words n f i
    unfolding piece_word
    piece_word_other f i ne = get_or-set_other words a (piece_word_at n f i) v 0 ne

    -- a store in the head leaves the columns
    pub column_below : a < 16 → (f : ℕ) → SameColumn n f words (set words a v)
    column_below h f i l = piece_word_other f i (λ e. omega (arith, piece_word_from n f i))

    -- a store into the peers does
    pub column_above : 16 + 2 * n ≤ a → (f : ℕ) → f < 2 → SameColumn n f words (set words a v)
    column_above h f m i l = piece_word_other f i (λ e. omega (arith, piece_word_below n f i m l))

    module _ (b : ℕ) where
      -- a peer that stands elsewhere
      pub peer_other : (p j : ℕ) → peer_at n b p j ≢ a → peer_word (set words a v) n b p j ≡ peer_word words n b p j
      unfolding peer_word
      peer_other p j ne = get_or-set_other words a (peer_at n b p j) v 0 ne

      -- a store in front of the peers leaves them
      pub peers_below : a < 16 + 2 * n → SamePeers n b words (set words a v)
      peers_below h p j l m = peer_other p j (λ e. omega (arith, peer_from n b p j))

-- ---- a store into word column f, at piece i
module _ (n : ℕ) (words : List ℕ) (f i v : ℕ) (hi : i < n) where
  -- another column stays
  pub column_other : (g : ℕ) → f ≢ g → SameColumn n g words (set words (piece_word_at n f i) v)
  column_other g m j l = piece_word_other words (piece_word_at n f i) v n g j (λ e. m (sym (piece_word_column n g f j i l hi e)))

  -- each number of that column
  pub column_stored : piece_word_at n f i < length words → piece_word (set words (piece_word_at n f i) v) n f i ≡ v
  unfolding piece_word
  column_stored h = get_or-set_same words (piece_word_at n f i) v 0 h

  -- another piece stays
  pub column_others : (g j : ℕ) → j < n → j ≢ i → piece_word (set words (piece_word_at n f i) v) n g j ≡ piece_word words n g j
  column_others g j l m = piece_word_other words (piece_word_at n f i) v n g j (λ e. m (piece_word_piece n g f j i l hi e))

-- ---- a store into the peers, at block j of place p
module _ (n b : ℕ) (words : List ℕ) (p j v : ℕ) (hj : j < b) where
  -- the peer itself
  pub peer_stored : peer_at n b p j < length words → peer_word (set words (peer_at n b p j) v) n b p j ≡ v
  unfolding peer_word
  peer_stored h = get_or-set_same words (peer_at n b p j) v 0 h

  -- any other block
  pub peer_others : (q i : ℕ) → i < b → (q ≡ p → i ≡ j → ⊥) → peer_word (set words (peer_at n b p j) v) n b q i ≡ peer_word words n b q i
  peer_others q i hi ne = peer_other words (peer_at n b p j) v n b q i (λ e. ne (peer_place n b q p i j hi hj e)
      (peer_block n b q p i j hi hj e))

-- ---- a store into the cells, at offset a
module _ (cells : List ℕ) (a v n : ℕ) where
  -- a cell of a piece that stands elsewhere
  pub piece_cell_other : (f i : ℕ) → piece_cell_at n f i ≢ a → piece_cell (set cells a v) n f i ≡ piece_cell cells n f i
  unfolding piece_cell
  piece_cell_other f i ne = get_or-set_other cells a (piece_cell_at n f i) v 0 ne

  -- a store into the blocks leaves the pieces
  pub fields_above : 4 * n ≤ a → SameFields n cells (set cells a v)
  fields_above h f i l m = piece_cell_other f i (λ e. omega (arith, piece_cell_below n f i l m))

  module _ (b : ℕ) where
    -- a cell of a block that stands elsewhere
    pub block_cell_other : (f p j : ℕ) → block_cell_at n b f p j ≢ a → block_cell (set cells a v) n b f p j ≡ block_cell cells n b f p j
    unfolding block_cell
    block_cell_other f p j ne = get_or-set_other cells a (block_cell_at n b f p j) v 0 ne

    -- a store into the pieces leaves the blocks
    pub blocks_below : a < 4 * n → SameBlocks n b cells (set cells a v)
    blocks_below h f p j l m o = block_cell_other f p j (λ e. omega (arith, block_cell_from n b f p j))

-- ---- a store into cell column f, at piece i
module _ (n : ℕ) (cells : List ℕ) (f i v : ℕ) (hi : i < n) where
  -- each field of the piece
  pub field_stored : piece_cell_at n f i < length cells → (g : ℕ) → piece_cell (set cells (piece_cell_at n f i) v) n g i
      ≡ choose f g v (piece_cell cells n g i)
  unfolding piece_cell
  field_stored h g = elim (ℕ_discrete f g) [
    | yes e ↦ rw (← e, choose_same f v (get_or cells (piece_cell_at n f i) 0)) (get_or-set_same cells (piece_cell_at n f i) v 0 h)
    | no m ↦ (
        rw (choose_other f g v (get_or cells (piece_cell_at n g i) 0) m)
        (piece_cell_other cells (piece_cell_at n f i) v n g i (λ e. m (sym (piece_cell_column n g f i i hi hi e))))
        )
  ]

  -- another piece stays
  pub field_others : (g j : ℕ) → j < n → j ≢ i → piece_cell (set cells (piece_cell_at n f i) v) n g j ≡ piece_cell cells n g j
  field_others g j l m = piece_cell_other cells (piece_cell_at n f i) v n g j (λ e. m (piece_cell_piece n g f j i l hi e))

-- ---- a store into a block's column f, at block j of place p
module _ (n b : ℕ) (cells : List ℕ) (f p j v : ℕ) (hp : p < places_for n) (hj : j < b) where
  -- each cell of the block
  pub block_stored : block_cell_at n b f p j < length cells → (g : ℕ) → block_cell (set cells (block_cell_at n b f p j) v) n b g p j
      ≡ choose f g v (block_cell cells n b g p j)
  unfolding block_cell
  block_stored l g = elim (ℕ_discrete f g) [
    | yes e ↦ rw (← e, choose_same f v (get_or cells (block_cell_at n b f p j) 0)) (get_or-set_same cells (block_cell_at n b f p j) v 0 l)
    | no m ↦ (
        rw (choose_other f g v (get_or cells (block_cell_at n b g p j) 0) m)
        (block_cell_other cells (block_cell_at n b f p j) v n b g p j (λ e. m (sym (block_cell_column n b g f p p j j hp hp hj hj e))))
        )
  ]

  -- any other block
  pub block_others : (g q i : ℕ) → q < places_for n → i < b → (q ≡ p → i ≡ j → ⊥) → block_cell (set cells (block_cell_at n b f p j) v) n b g q i
      ≡ block_cell cells n b g q i
  block_others g q i hq hi ne =
      block_cell_other cells (block_cell_at n b f p j) v n b g q i (λ e. ne (block_cell_place n b g f q p i j hq hp hi hj e)
      (block_cell_block n b g f q p i j hq hp hi hj e))
