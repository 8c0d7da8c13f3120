-- What a store leaves the same, region by region, and the four numbers of one block stored. Assumes nothing.
use Rattle.std.specs.Prelude.{◌≡◌, List, ℕ, ◌≤◌, ◌<◌, get_or}
use Rattle.memory_layout.specs.declared.shape.Shape.{Shape}
use Rattle.memory_layout.specs.Offsets.{places_for}
use Rattle.memory_layout.specs.Decode.{head_word, piece_word, peer_word, piece_cell, block_cell}
use Rattle.memory_layout.specs.Stores.{WordsKept, CellsKept}

-- ---- regions in which two buffers hold the same numbers
-- the head
abbrev pub SameHead : (words words' : List ℕ) → Type 0
SameHead words words' = (k : ℕ) → k < 16 → head_word words' k ≡ head_word words k

-- word column f of n pieces
abbrev pub SameColumn : (n f : ℕ) (words words' : List ℕ) → Type 0
SameColumn n f words words' = (i : ℕ) → i < n → piece_word words' n f i ≡ piece_word words n f i

-- the peers of all places
abbrev pub SamePeers : (n b : ℕ) (words words' : List ℕ) → Type 0
SamePeers n b words words' = (p j : ℕ) → p < places_for n → j < b → peer_word words' n b p j ≡ peer_word words n b p j

-- the cells of n pieces
abbrev pub SameFields : (n : ℕ) (cells cells' : List ℕ) → Type 0
SameFields n cells cells' = (f i : ℕ) → f < 4 → i < n → piece_cell cells' n f i ≡ piece_cell cells n f i

-- the cells of all places
abbrev pub SameBlocks : (n b : ℕ) (cells cells' : List ℕ) → Type 0
SameBlocks n b cells cells' = (f p j : ℕ) → f < 3 → p < places_for n → j < b → block_cell cells' n b f p j ≡ block_cell cells n b f p j

-- all from a need on
abbrev pub SameFrom : (need : ℕ) (xs xs' : List ℕ) → Type 0
SameFrom need xs xs' = (k : ℕ) → need ≤ k → get_or xs' k 0 ≡ get_or xs k 0

-- ---- the four numbers of one block
-- block j of place p has these numbers, and all else is as it was
pub record BlockPut (s : Shape) (words cells words' cells' : List ℕ) (p j state num_peers has peer : ℕ) : Type 0 where
  pub words_kept : WordsKept s words words'
  pub cells_kept : CellsKept s cells cells'
  pub head : SameHead words words'
  pub columns : (f : ℕ) → f < 2 → SameColumn s.pieces f words words'
  pub fields : SameFields s.pieces cells cells'
  pub state_is : block_cell cells' s.pieces s.blocks 0 p j ≡ state
  pub num_peers_is : block_cell cells' s.pieces s.blocks 1 p j ≡ num_peers
  pub has_is : block_cell cells' s.pieces s.blocks 2 p j ≡ has
  pub peer_is : peer_word words' s.pieces s.blocks p j ≡ peer
  pub other_cells : (f q i : ℕ) → q < places_for s.pieces → i < s.blocks → (q ≡ p → i ≡ j → ⊥)
      → block_cell cells' s.pieces s.blocks f q i ≡ block_cell cells s.pieces s.blocks f q i
  pub other_peers : (q i : ℕ) → q < places_for s.pieces → i < s.blocks → (q ≡ p → i ≡ j → ⊥) → peer_word words' s.pieces s.blocks q i
      ≡ peer_word words s.pieces s.blocks q i
