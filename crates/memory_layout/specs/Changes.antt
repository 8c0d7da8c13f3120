-- What a store of one number changes in the picker, where the model has no name for it. Assumes nothing.
use Rattle.std.specs.Prelude.{ℕ}
use Rattle.model.specs.Lists.{nth, set_nth}
use Rattle.model.specs.State.{Piece, Block, DownloadingPiece, Picker, with_blocks, with_partials}
use Rattle.model.specs.pick.Pick.{no_partial}
use Rattle.memory_layout.specs.Tables.{choose}
use Rattle.memory_layout.specs.Decode.{queue_from, yes?}

-- the field of cell column f replaced by what a number means: 0 peer count, 1 state, 2 priority, 3 flushed
unfoldable pub with_cell : (f v : ℕ) (p : Piece) → Piece
with_cell f v p =
    record {
      peer_count = choose f 0 v p.peer_count;
      state = choose f 1 (queue_from v) p.state;
      priority = choose f 2 v p.priority;
      flushed = choose f 3 (yes? v) p.flushed;
      pad_bytes = p.pad_bytes;
    }

-- other pad bytes
unfoldable pub with_pad_bytes : (v : ℕ) (p : Piece) → Piece
with_pad_bytes v p =
    record { peer_count = p.peer_count; state = p.state; priority = p.priority; flushed = p.flushed; pad_bytes = v }

-- a word of the head replaced: 2 seeds, 3 cursor, 4 reverse cursor
unfoldable pub with_head : (k v : ℕ) (d : Picker) → Picker
with_head k v d =
    record {
      total_size = d.total_size;
      piece_size = d.piece_size;
      seeds = choose k 2 v d.seeds;
      cursor = choose k 3 v d.cursor;
      reverse_cursor = choose k 4 v d.reverse_cursor;
      pieces = d.pieces;
      partials = d.partials;
      recent_extents = d.recent_extents;
      listing = d.listing;
    }

-- ---- a partial by its place among the partials
unfoldable pub partial_in : (d : Picker) (k : ℕ) → DownloadingPiece
partial_in d k = nth no_partial d.partials k

-- partial k changed
unfoldable pub with_partial : (k : ℕ) (f : DownloadingPiece → DownloadingPiece) (d : Picker) → Picker
with_partial k f d = with_partials (set_nth k (f (partial_in d k)) d.partials) d

-- block j replaced
unfoldable pub with_block : (j : ℕ) (x : Block) (d : DownloadingPiece) → DownloadingPiece
with_block j x d = with_blocks (set_nth j x d.blocks) d
