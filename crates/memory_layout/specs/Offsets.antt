-- Where each number of a picker of n pieces of b blocks stands in the three lent buffers, and how long they have to be: the model's needs,
-- under the names that this layout has for them. Assumes nothing.
--
--   words, of 64 bits          cells, of 16 bits                  partials, records by rising piece
--   0        head               0     peer count of each piece     0   the live ones: index, info_idx, flags
--   16       pad bytes, n       n     state, n
--   16 + n   list, n            2·n   priority, n
--   16 + 2·n peers, m·b         3·n   flushed, n
--                               4·n   state of each block, m·b
--                               ..    num_peers, m·b; has-peer, m·b
--
-- m is the number of partials there can be, `places_for n`. Blocks stand by place: block j of place p is number p·b + j of its column.
use Rattle.std.specs.Prelude.{ℕ, ◌+◌, ◌*◌}
pub use Rattle.model.specs.Memory.{head_length}
unfoldable pub use Rattle.model.specs.Memory.{partials_needed as places_for, words_needed as words_for, cells_needed as cells_for}

-- number i of column f, where each column has w numbers
unfoldable pub cell : (w f i : ℕ) → ℕ
cell w f i = f * w + i

-- ---- words
-- of the head: 0 total size, 1 piece size, 2 seeds, 3 cursor, 4 reverse cursor, 5 dirty, 6 list length, 7 number of partials, 8 number of
-- extents, 9 to 13 the extents

-- column f of the words of pieces: 0 pad bytes, 1 the list
unfoldable pub piece_word_at : (n f i : ℕ) → ℕ
piece_word_at n f i = head_length + cell n f i

-- the peer of block j of place p
unfoldable pub peer_at : (n b p j : ℕ) → ℕ
peer_at n b p j = head_length + 2 * n + cell b p j

-- ---- cells
-- column f of pieces: 0 peer count, 1 state, 2 priority, 3 flushed
unfoldable pub piece_cell_at : (n f i : ℕ) → ℕ
piece_cell_at n f i = cell n f i

-- column f of blocks: 0 state, 1 num_peers, 2 has-peer
unfoldable pub block_cell_at : (n b f p j : ℕ) → ℕ
block_cell_at n b f p j = 4 * n + cell (places_for n * b) f (cell b p j)
