-- The picker that stands in the three lent buffers. Assumes nothing.
-- What is not read means nothing: words 14 and 15, extents past their number, the list past its length, records behind the last, a peer
-- beside a has-peer other than 1, blocks of a place that no record has, and what lies beyond the needs.
use Rattle.std.specs.Prelude.{ℕ, ◌+◌, Bool, cond, List, get_or, eqb}
use Rattle.std.proofs.Math.Option.{Option, none, some}
use Rattle.types.specs.declared.queue.DownloadQueue.{DownloadQueue}
use Rattle.types.specs.declared.queue.DownloadQueue.TheVariants.{Open}
use Rattle.types.specs.declared.block.BlockState.{BlockState}
use Rattle.types.specs.declared.block.BlockState.TheVariants.{None}
use Rattle.types.specs.Queue.{queues}
use Rattle.types.specs.Block.{block_states}
use Rattle.model.specs.Lists.{nth}
use Rattle.model.specs.Bep3.{num_pieces, whole_piece_blocks, piece_blocks, bit_of}
use Rattle.model.specs.State.{Piece, Block, DownloadingPiece, Listing, dirty, fresh, Picker}
use Rattle.list_entries.specs.Words.{listed_piece}
use Rattle.memory_records.specs.declared.record.DownloadingPiece.{DownloadingPiece as Record}
use Rattle.memory_records.specs.Records.{no_record}
use Rattle.memory_layout.specs.Tables.{tabulate}
use Rattle.memory_layout.specs.Offsets.{piece_word_at, peer_at, piece_cell_at, block_cell_at}

-- ---- numbers by field
unfoldable pub head_word : (words : List ℕ) (k : ℕ) → ℕ
head_word words k = get_or words k 0

-- column f of piece i: 0 pad bytes, 1 the list
unfoldable pub piece_word : (words : List ℕ) (n f i : ℕ) → ℕ
piece_word words n f i = get_or words (piece_word_at n f i) 0

-- the peer of block j of place p
unfoldable pub peer_word : (words : List ℕ) (n b p j : ℕ) → ℕ
peer_word words n b p j = get_or words (peer_at n b p j) 0

-- column f of piece i: 0 peer count, 1 state, 2 priority, 3 flushed
unfoldable pub piece_cell : (cells : List ℕ) (n f i : ℕ) → ℕ
piece_cell cells n f i = get_or cells (piece_cell_at n f i) 0

-- column f of block j of place p: 0 state, 1 num_peers, 2 has-peer
unfoldable pub block_cell : (cells : List ℕ) (n b f p j : ℕ) → ℕ
block_cell cells n b f p j = get_or cells (block_cell_at n b f p j) 0

-- record k
unfoldable pub record_at : (records : List Record) (k : ℕ) → Record
record_at records k = get_or records k no_record

-- ---- what a number means
-- how many pieces
unfoldable pub pieces_on : (words : List ℕ) → ℕ
pieces_on words = num_pieces (head_word words 0) (head_word words 1)

-- blocks of a whole piece
unfoldable pub blocks_on : (words : List ℕ) → ℕ
blocks_on words = whole_piece_blocks (head_word words 1)

-- blocks of piece i
unfoldable pub blocks_of : (words : List ℕ) (i : ℕ) → ℕ
blocks_of words i = piece_blocks (head_word words 0) (head_word words 1) i

-- a number that no state has is read as the state in which nothing is under way
unfoldable pub queue_from : (number : ℕ) → DownloadQueue
queue_from number = nth Open queues number

-- the same, of a block
unfoldable pub state_from : (number : ℕ) → BlockState
state_from number = nth None block_states number

-- 1 is yes
unfoldable pub yes? : (number : ℕ) → Bool
yes? number = eqb number 1

-- a flag and a number
unfoldable pub peer_from : (has peer : ℕ) → Option ℕ
peer_from has peer = cond (yes? has) (some peer) none

-- ---- the parts of the picker
unfoldable pub piece_held : (words cells : List ℕ) (n i : ℕ) → Piece
piece_held words cells n i =
    record {
      peer_count = piece_cell cells n 0 i;
      state = queue_from (piece_cell cells n 1 i);
      priority = piece_cell cells n 2 i;
      flushed = yes? (piece_cell cells n 3 i);
      pad_bytes = piece_word words n 0 i;
    }

-- a block of these numbers
unfoldable pub block_from : (state num_peers has peer : ℕ) → Block
block_from state num_peers has peer =
    record { state = state_from state; num_peers = num_peers; peer = peer_from has peer }

-- block j of place p
unfoldable pub block_held : (words cells : List ℕ) (n b p j : ℕ) → Block
block_held words cells n b p j =
    block_from (block_cell cells n b 0 p j) (block_cell cells n b 1 p j) (block_cell cells n b 2 p j) (peer_word words n b p j)

-- as many blocks as piece i has, from place p
unfoldable pub blocks_held : (words cells : List ℕ) (n b i p : ℕ) → List Block
blocks_held words cells n b i p = tabulate (blocks_of words i) (block_held words cells n b p)

-- flag bits: 1 passed, 2 locked, 4 hashing
unfoldable pub partial_from : (i flags : ℕ) (blocks : List Block) → DownloadingPiece
partial_from i flags blocks =
    record { piece = i; passed_hash_check = bit_of flags 0; locked = bit_of flags 1; hashing = bit_of flags 2; blocks = blocks }

-- the partial of a record
unfoldable pub partial_held : (words cells : List ℕ) (n b : ℕ) (r : Record) → DownloadingPiece
partial_held words cells n b r = partial_from r.index r.flags (blocks_held words cells n b r.index r.info_idx)

-- all pieces
unfoldable pub pieces_held : (words cells : List ℕ) (n : ℕ) → List Piece
pieces_held words cells n = tabulate n (piece_held words cells n)

-- the live records
unfoldable pub partials_held : (records : List Record) (words cells : List ℕ) (n b : ℕ) → List DownloadingPiece
partials_held records words cells n b = tabulate (head_word words 7) (λ k. partial_held words cells n b (record_at records k))

-- the extents
unfoldable pub extents_held : (words : List ℕ) → List ℕ
extents_held words = tabulate (head_word words 8) (λ k. head_word words (9 + k))

-- the pieces of the list
unfoldable pub list_held : (words : List ℕ) (n : ℕ) → List ℕ
list_held words n = tabulate (head_word words 6) (λ k. listed_piece (piece_word words n 1 k))

-- the list, or dirty
unfoldable pub listing_held : (words : List ℕ) (n : ℕ) → Listing
listing_held words n = cond (yes? (head_word words 5)) dirty (fresh (list_held words n))

-- ---- the picker
-- for n pieces of b blocks
abbrev pub decode_at : (n b : ℕ) (records : List Record) (words cells : List ℕ) → Picker
decode_at n b records words cells =
    record {
      total_size = head_word words 0;
      piece_size = head_word words 1;
      seeds = head_word words 2;
      cursor = head_word words 3;
      reverse_cursor = head_word words 4;
      pieces = pieces_held words cells n;
      partials = partials_held records words cells n b;
      recent_extents = extents_held words;
      listing = listing_held words n;
    }

-- of the geometry in the head
abbrev pub decode : (records : List Record) (words cells : List ℕ) → Picker
decode records words cells = decode_at (pieces_on words) (blocks_on words) records words cells
