-- The records of an image by the numbers in their fields. Assumes nothing.
use Rattle.std.specs.Prelude.{ℕ, List, ◌∷◌, ◌++◌}
use Rattle.model.specs.image.Image.{head_kind, piece_kind, partial_kind, block_kind, bytes_of}

-- a head of these fields
unfoldable pub head_fields : (total_size piece_size seeds cursor reverse_cursor dirty : ℕ) → List ℕ
head_fields total_size piece_size seeds cursor reverse_cursor dirty =
    head_kind
    ∷ (bytes_of 8 total_size
    ++ (bytes_of 4 piece_size ++ (bytes_of 2 seeds ++ (bytes_of 4 cursor ++ (bytes_of 4 reverse_cursor ++ bytes_of 1 dirty)))))

-- a piece
unfoldable pub piece_fields : (peer_count state priority flushed pad_bytes : ℕ) → List ℕ
piece_fields peer_count state priority flushed pad_bytes =
    piece_kind ∷ (bytes_of 2 peer_count ++ (bytes_of 1 state ++ (bytes_of 1 priority ++ (bytes_of 1 flushed ++ bytes_of 4 pad_bytes))))

-- a partial without its blocks
unfoldable pub partial_fields : (piece flags : ℕ) → List ℕ
partial_fields piece flags = partial_kind ∷ (bytes_of 4 piece ++ bytes_of 1 flags)

-- a block
unfoldable pub block_fields : (state num_peers has peer : ℕ) → List ℕ
block_fields state num_peers has peer = block_kind ∷ (bytes_of 1 state ++ (bytes_of 2 num_peers ++ (bytes_of 1 has ++ bytes_of 8 peer)))
