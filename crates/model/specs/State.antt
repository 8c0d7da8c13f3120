-- The picker's state: exactly the fields of its image, and nothing that can be computed from others. Assumes nothing.
use Rattle.std.specs.Prelude.{ℕ, ◌+◌, ◌-◌, ◌*◌, ◌/◌, Bool, true, false, cond, ◌&&◌, List, [], replicate, eqb, leb}
use Rattle.std.proofs.Math.Option.{Option, none, some}
use Rattle.types.specs.declared.queue.DownloadQueue.{DownloadQueue}
use Rattle.types.specs.declared.queue.DownloadQueue.TheVariants.{Open}
use Rattle.types.specs.declared.block.BlockState.{BlockState}
use Rattle.types.specs.declared.block.BlockState.TheVariants.{None}
use Rattle.types.specs.Queue.{queue_number}
use Rattle.types.specs.Block.{block_state_number}
use Rattle.model.specs.Lists.{least, nth, len, set_nth}
use Rattle.model.specs.Bep3.{num_pieces, piece_length, block_length, whole_piece_blocks, piece_blocks}

-- ---- limits of document 01
abbrev pub max_pieces : ℕ
max_pieces = 4096

-- of a piece, in bytes
abbrev pub max_piece_size : ℕ
max_piece_size = 4194304

-- of a piece's peers with the seeds, of a block's peers, and of the peers that a pick is told of
abbrev pub max_peers : ℕ
max_peers = 1000

-- of partials
abbrev pub max_partials : ℕ
max_partials = 512

-- of recent extents
abbrev pub max_extents : ℕ
max_extents = 5

-- the highest priority, the Rust's `TOP`
abbrev pub top_priority : ℕ
top_priority = 7

-- of a priority
abbrev pub max_priority : ℕ
max_priority = top_priority

-- the Rust's `DEFAULT`: the priority of each piece of a new picker
abbrev pub default_priority : ℕ
default_priority = 4

-- of blocks that a pick may want: document 01's N
abbrev pub max_wanted : ℕ
max_wanted = 2048

-- of blocks that a pick may want in a row: document 01's P
abbrev pub max_contiguous : ℕ
max_contiguous = 2048

-- of blocks in the pieces of the Downloading queue: with more a pick takes from these first. A limit of its own, though it is also 2,048
abbrev pub max_partial_blocks : ℕ
max_partial_blocks = 2048

-- of pieces suggested to a pick
abbrev pub max_suggestions : ℕ
max_suggestions = 256

-- output places that a pick needs beside N + P: the blocks of a piece but one
abbrev pub spare_output : ℕ
spare_output = 255

-- of words lent to a call that may draw, at least
abbrev pub min_draws : ℕ
min_draws = 4352

-- ---- the fields
-- `priority` is document 01's wish, 0 to 7, and `flushed` its had
pub record Piece : Type 0 where
  pub peer_count : ℕ
  pub state : DownloadQueue
  pub priority : ℕ
  pub flushed : Bool
  pub pad_bytes : ℕ

-- `peer` asked for it last
pub record Block : Type 0 where
  pub state : BlockState
  pub num_peers : ℕ
  pub peer : Option ℕ

-- a piece that is being downloaded: whether its hash passed, whether it is locked, whether it is being hashed, and its blocks
pub record DownloadingPiece : Type 0 where
  pub piece : ℕ
  pub passed_hash_check : Bool
  pub locked : Bool
  pub hashing : Bool
  pub blocks : List Block

-- the bucket list: dirty, or the pieces in its order
pub data Listing : Type 0 where
  dirty : Listing
  fresh : List ℕ → Listing

-- partials by rising piece, extents oldest first
pub record Picker : Type 0 where
  pub total_size : ℕ
  pub piece_size : ℕ
  pub seeds : ℕ
  pub cursor : ℕ
  pub reverse_cursor : ℕ
  pub pieces : List Piece
  pub partials : List DownloadingPiece
  pub recent_extents : List ℕ
  pub listing : Listing

-- ---- tests on the kinds of state
unfoldable pub same_queue : (q other : DownloadQueue) → Bool
same_queue q other = eqb (queue_number q) (queue_number other)

-- no partial stands for the piece
unfoldable pub is_open : (q : DownloadQueue) → Bool
is_open q = same_queue q Open

-- two blocks in one state
unfoldable pub same_block_state : (state other : BlockState) → Bool
same_block_state state other = eqb (block_state_number state) (block_state_number other)

-- two peers, or none of both
unfoldable pub same_peer : (peer other : Option ℕ) → Bool
same_peer none none = true
same_peer none (some n) = false
same_peer (some m) none = false
same_peer (some m) (some n) = eqb m n

-- there is a peer
unfoldable pub has_peer : (peer : Option ℕ) → Bool
has_peer none = false
has_peer (some n) = true

-- the list has to be rebuilt
unfoldable pub is_dirty : (listing : Listing) → Bool
is_dirty dirty = true
is_dirty (fresh l) = false

-- the pieces of a list, none of a dirty one
unfoldable pub list_of : (listing : Listing) → List ℕ
list_of dirty = []
list_of (fresh l) = l

-- ---- what stands where nothing is
unfoldable pub no_piece : Piece
no_piece = record { peer_count = 0; state = Open; priority = 0; flushed = false; pad_bytes = 0 }

-- a block past the last
unfoldable pub no_block : Block
no_block = record { state = None; num_peers = 0; peer = none }

-- ---- a field replaced
unfoldable pub with_peer_count : (n : ℕ) (p : Piece) → Piece
with_peer_count n p = record { peer_count = n; state = p.state; priority = p.priority; flushed = p.flushed; pad_bytes = p.pad_bytes }

-- the piece in another state
unfoldable pub with_state : (q : DownloadQueue) (p : Piece) → Piece
with_state q p = record { peer_count = p.peer_count; state = q; priority = p.priority; flushed = p.flushed; pad_bytes = p.pad_bytes }

-- with another priority
unfoldable pub with_priority : (n : ℕ) (p : Piece) → Piece
with_priority n p = record { peer_count = p.peer_count; state = p.state; priority = n; flushed = p.flushed; pad_bytes = p.pad_bytes }

-- flushed from here on
unfoldable pub with_flushed : (p : Piece) → Piece
with_flushed p = record { peer_count = p.peer_count; state = p.state; priority = p.priority; flushed = true; pad_bytes = p.pad_bytes }

-- the block with another peer that asked for it last, or with none
unfoldable pub with_peer : (peer : Option ℕ) (b : Block) → Block
with_peer peer b = record { state = b.state; num_peers = b.num_peers; peer = peer }

-- the partial with other blocks
unfoldable pub with_blocks : (bs : List Block) (d : DownloadingPiece) → DownloadingPiece
with_blocks bs d = record { piece = d.piece; passed_hash_check = d.passed_hash_check; locked = d.locked; hashing = d.hashing; blocks = bs }

-- passed and locked, or not
unfoldable pub with_flags : (passed locked : Bool) (d : DownloadingPiece) → DownloadingPiece
with_flags passed locked d = record { piece = d.piece; passed_hash_check = passed; locked = locked; hashing = d.hashing; blocks = d.blocks }

-- the picker with another number of seeds
unfoldable pub with_seeds : (n : ℕ) (s : Picker) → Picker
with_seeds n s =
    record {
      total_size = s.total_size;
      piece_size = s.piece_size;
      seeds = n;
      cursor = s.cursor;
      reverse_cursor = s.reverse_cursor;
      pieces = s.pieces;
      partials = s.partials;
      recent_extents = s.recent_extents;
      listing = s.listing;
    }

-- with other cursors
unfoldable pub with_cursors : (cursor reverse_cursor : ℕ) (s : Picker) → Picker
with_cursors cursor reverse_cursor s =
    record {
      total_size = s.total_size;
      piece_size = s.piece_size;
      seeds = s.seeds;
      cursor = cursor;
      reverse_cursor = reverse_cursor;
      pieces = s.pieces;
      partials = s.partials;
      recent_extents = s.recent_extents;
      listing = s.listing;
    }

-- with other pieces
unfoldable pub with_pieces : (ps : List Piece) (s : Picker) → Picker
with_pieces ps s =
    record {
      total_size = s.total_size;
      piece_size = s.piece_size;
      seeds = s.seeds;
      cursor = s.cursor;
      reverse_cursor = s.reverse_cursor;
      pieces = ps;
      partials = s.partials;
      recent_extents = s.recent_extents;
      listing = s.listing;
    }

-- with other partials
unfoldable pub with_partials : (ds : List DownloadingPiece) (s : Picker) → Picker
with_partials ds s =
    record {
      total_size = s.total_size;
      piece_size = s.piece_size;
      seeds = s.seeds;
      cursor = s.cursor;
      reverse_cursor = s.reverse_cursor;
      pieces = s.pieces;
      partials = ds;
      recent_extents = s.recent_extents;
      listing = s.listing;
    }

-- with other recent extents
unfoldable pub with_recent_extents : (es : List ℕ) (s : Picker) → Picker
with_recent_extents es s =
    record {
      total_size = s.total_size;
      piece_size = s.piece_size;
      seeds = s.seeds;
      cursor = s.cursor;
      reverse_cursor = s.reverse_cursor;
      pieces = s.pieces;
      partials = s.partials;
      recent_extents = es;
      listing = s.listing;
    }

-- with another list
unfoldable pub with_listing : (listing : Listing) (s : Picker) → Picker
with_listing listing s =
    record {
      total_size = s.total_size;
      piece_size = s.piece_size;
      seeds = s.seeds;
      cursor = s.cursor;
      reverse_cursor = s.reverse_cursor;
      pieces = s.pieces;
      partials = s.partials;
      recent_extents = s.recent_extents;
      listing = listing;
    }

-- ---- a piece of the picker
unfoldable pub piece_at : (s : Picker) (i : ℕ) → Piece
piece_at s i = nth no_piece s.pieces i

-- piece i changed
unfoldable pub with_piece : (i : ℕ) (f : Piece → Piece) (s : Picker) → Picker
with_piece i f s = with_pieces (set_nth i (f (piece_at s i)) s.pieces) s

-- how many pieces
unfoldable pub pieces_in : (s : Picker) → ℕ
pieces_in s = len s.pieces

-- the list is dirty from here on
unfoldable pub mark_dirty : (s : Picker) → Picker
mark_dirty s = with_listing dirty s

-- ---- lengths of the picker's torrent
unfoldable pub piece_size_at : (s : Picker) (i : ℕ) → ℕ
piece_size_at s i = piece_length s.total_size s.piece_size i

-- blocks of a whole piece: document 01's b
unfoldable pub blocks_per_piece : (s : Picker) → ℕ
blocks_per_piece s = whole_piece_blocks s.piece_size

-- blocks of piece i
unfoldable pub blocks_in_piece : (s : Picker) (i : ℕ) → ℕ
blocks_in_piece s i = piece_blocks s.total_size s.piece_size i

-- blocks that hold more than pad bytes
unfoldable pub payload_blocks_in_piece : (s : Picker) (i : ℕ) → ℕ
payload_blocks_in_piece s i = blocks_in_piece s i - (piece_at s i).pad_bytes / block_length s.piece_size

-- ---- extents: runs of pieces of 256 blocks, none where a piece has as many
abbrev pub extent_blocks : ℕ
extent_blocks = 256

-- pieces of an extent, where a piece has b blocks
unfoldable pub extent_size : (blocks : ℕ) → ℕ
extent_size blocks = extent_blocks / blocks

-- how many extents n pieces of b blocks have
unfoldable pub num_extents : (n blocks : ℕ) → ℕ
num_extents n blocks = cond (eqb blocks extent_blocks) 0 ((n + extent_size blocks - 1) / extent_size blocks)

-- the extent of piece i
unfoldable pub extent_for : (s : Picker) (i : ℕ) → ℕ
extent_for s i = i / extent_size (blocks_per_piece s)

-- its first piece
unfoldable pub extent_start : (s : Picker) (e : ℕ) → ℕ
extent_start s e = e * extent_size (blocks_per_piece s)

-- one past its last piece
unfoldable pub extent_end : (s : Picker) (e : ℕ) → ℕ
extent_end s e = least (extent_start s e + extent_size (blocks_per_piece s)) (pieces_in s)

-- ---- a new picker
-- total and piece size that make one
unfoldable pub valid_geometry : (total_size piece_size : ℕ) → Bool
valid_geometry total_size piece_size =
    leb 1 total_size && (leb 1 piece_size && (leb piece_size max_piece_size && leb (num_pieces total_size piece_size) max_pieces))

-- a piece that nobody has, at the default priority
unfoldable pub fresh_piece : Piece
fresh_piece = record { peer_count = 0; state = Open; priority = default_priority; flushed = false; pad_bytes = 0 }

-- `new`: no seeds, cursors at both ends, the list to be built
unfoldable pub new : (total_size piece_size : ℕ) → Picker
new total_size piece_size =
    record {
      total_size = total_size;
      piece_size = piece_size;
      seeds = 0;
      cursor = 0;
      reverse_cursor = num_pieces total_size piece_size;
      pieces = replicate (num_pieces total_size piece_size) fresh_piece;
      partials = [];
      recent_extents = [];
      listing = dirty;
    }
