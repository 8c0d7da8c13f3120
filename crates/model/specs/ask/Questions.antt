-- The questions: the Rust's getters, then one for each field of the image that no getter shows by itself. Totals are counted from the
-- fields. Assumes nothing.
use Rattle.std.specs.Prelude.{ℕ, ◌+◌, ◌-◌, ◌*◌, ◌/◌, Bool, true, false, cond, not, ◌&&◌, ◌||◌, List, [], ◌∷◌, ◌++◌, replicate, eqb, ltb, leb}
use Rattle.std.proofs.Math.Option.{Option, none, some}
use Rattle.std.proofs.Math.ListN.{get_elem?}
use Rattle.types.specs.declared.queue.DownloadQueue.TheVariants.{Downloading, Full, Finished as FinishedQueue, ZeroPrio}
use Rattle.types.specs.declared.block.BlockState.TheVariants.{None, Requested, Writing, Finished}
use Rattle.types.specs.Queue.{queue_number}
use Rattle.types.specs.Block.{block_state_number}
use Rattle.model.specs.Lists.{bit, least, count, each, concat_map, from, len, filter}
use Rattle.model.specs.Bep3.{block_length}
use Rattle.model.specs.State.{Piece, Block, DownloadingPiece, Picker, Listing, dirty, fresh, is_open, is_dirty, same_block_state, piece_at}
use Rattle.model.specs.State.{pieces_in, piece_size_at, blocks_per_piece, blocks_in_piece, payload_blocks_in_piece}
use Rattle.model.specs.list.Order.{bucket}
use Rattle.model.specs.change.Partials.{partial_of, block_at, blocks_in_state, in_queue}
use Rattle.model.specs.change.Changes.{received}

-- ---- what is asked
-- of the picker
pub data OfPicker : Type 0 where
  num_pieces block_size ask_blocks_per_piece num_pad_bytes cursor? reverse_cursor? : OfPicker
  ask_num_have ask_num_filtered ask_num_have_filtered num_seeds is_finished is_seeding num_want_left : OfPicker
  get_download_queue_size get_download_queue_sizes distributed_copies : OfPicker
  want have_want have all_pieces : OfPicker
  total_size full_piece_size dirty? : OfPicker

-- of the picker, a record for each piece or partial
pub data ListOfPicker : Type 0 where
  get_availability_vec piece_priorities get_download_queue : ListOfPicker

-- of a piece
pub data OfPiece : Type 0 where
  ask_blocks_in_piece ask_payload_blocks_in_piece piece_size pad_bytes_in_piece : OfPiece
  get_availability ask_have_piece is_piece_finished is_downloading is_hashing is_piece_flushed piece_priority : OfPiece
  piece_stats piece_info : OfPiece
  peer_count download_state passed_hash_check locked? hashing? : OfPiece

-- of a piece, a record for each block
pub data ListOfPiece : Type 0 where
  get_downloaders blocks_for_piece : ListOfPiece

-- of a block
pub data OfBlock : Type 0 where
  num_peers_block is_requested is_downloaded is_finished_block get_downloader : OfBlock
  block_state block_num_peers block_peer : OfBlock

-- a question with its arguments; `room` are the places lent for records. The last three ask for what stands at a place: a partial by
-- rising piece, an extent, a piece of the list
pub data Question : Type 0 where
  of_picker : OfPicker → Question
  list_of_picker : ListOfPicker → (room : ℕ) → Question
  of_piece : OfPiece → (piece : ℕ) → Question
  list_of_piece : ListOfPiece → (piece room : ℕ) → Question
  of_block : OfBlock → (piece block : ℕ) → Question
  partial_at recent_extent ask_list_place : (place : ℕ) → Question

-- ---- what is told
-- numbers, `none` standing for no peer and for document 01's bucket −1; nothing, where what is asked of is not there; or the list is dirty
pub data Reply : Type 0 where
  numbers : List (Option ℕ) → Reply
  nothing : Reply
  stale_list : Reply

-- numbers, each of them there
unfoldable pub plain : (ns : List ℕ) → Reply
plain ns = numbers (each (λ n. some n) ns)

-- one number
unfoldable pub one : (n : ℕ) → Reply
one n = plain (n ∷ [])

-- 1 or 0
unfoldable pub flag : (truth : Bool) → Reply
flag truth = one (bit truth)

-- ---- totals
-- a partial stands, and its hash passed
unfoldable pub passed_in : (found : Option DownloadingPiece) → Bool
passed_in none = false
passed_in (some d) = d.passed_hash_check

-- `have_piece`: flushed, or passed while still a partial
unfoldable pub have_piece : (s : Picker) (i : ℕ) → Bool
have_piece s i = (piece_at s i).flushed || passed_in (partial_of s i)

-- `filtered`: the piece is left out
unfoldable pub filtered : (s : Picker) (i : ℕ) → Bool
filtered s i = eqb (piece_at s i).priority 0

-- the pieces that pass a test
unfoldable pub pieces_where : (s : Picker) (test : ℕ → Bool) → List ℕ
pieces_where s test = filter test (from 0 (pieces_in s))

-- how many they are
unfoldable pub count_where : (s : Picker) (test : ℕ → Bool) → ℕ
count_where s test = len (pieces_where s test)

-- of a list of numbers
unfoldable pub sum : (l : List ℕ) → ℕ
sum [] = 0
sum (x ∷ xs) = x + sum xs

-- their pad bytes
unfoldable pub pad_bytes_where : (s : Picker) (test : ℕ → Bool) → ℕ
pad_bytes_where s test = sum (each (λ i. (piece_at s i).pad_bytes) (pieces_where s test))

-- `num_have`
unfoldable pub num_have : (s : Picker) → ℕ
num_have s = count_where s (have_piece s)

-- `num_filtered`: left out, and not one that `have_piece` counts
unfoldable pub num_filtered : (s : Picker) → ℕ
num_filtered s = count_where s (λ i. filtered s i && not (have_piece s i))

-- `num_have_filtered`: left out, and one that it counts
unfoldable pub num_have_filtered : (s : Picker) → ℕ
num_have_filtered s = count_where s (λ i. filtered s i && have_piece s i)

-- the Rust's `PieceCount`: pieces, their pad bytes, and whether the last piece is among them
unfoldable pub counted : (s : Picker) (test : ℕ → Bool) → Reply
counted s test = plain (count_where s test ∷ pad_bytes_where s test ∷ bit (test (pieces_in s - 1)) ∷ [])

-- the peers of a piece, a flushed one counting once more
unfoldable pub copies : (p : Piece) → ℕ
copies p = p.peer_count + bit p.flushed

-- the least of n and of the copies of these
unfoldable pub lowest : (n : ℕ) (ps : List Piece) → ℕ
lowest n [] = n
lowest n (p ∷ ps) = lowest (least n (copies p)) ps

-- `MAX_PEER_COUNT`, where the search for the least copies starts: no count comes near it
abbrev pub max_peer_count : ℕ
max_peer_count = 65535

-- `distributed_copies`: the least copies with the seeds, and how many pieces have more, in thousandths
unfoldable pub distributed : (s : Picker) → Reply
distributed s =
    let k = lowest max_peer_count s.pieces in
    plain ((k + s.seeds) ∷ (count (λ p. ltb k (copies p)) s.pieces * 1000 / pieces_in s) ∷ [])

-- ---- records
-- piece, finished, passed, writing, locked, requested, hashing
unfoldable pub info : (d : DownloadingPiece) → List ℕ
info d =
    d.piece
    ∷ blocks_in_state Finished d
    ∷ bit d.passed_hash_check ∷ blocks_in_state Writing d ∷ bit d.locked ∷ blocks_in_state Requested d ∷ bit d.hashing ∷ []

-- `piece_info`: without a partial, all blocks of a flushed piece are finished
unfoldable pub info_of : (s : Picker) (i : ℕ) (found : Option DownloadingPiece) → List ℕ
info_of s i none = i ∷ (bit (piece_at s i).flushed * blocks_in_piece s i) ∷ 0 ∷ 0 ∷ 0 ∷ 0 ∷ 0 ∷ []
info_of s i (some d) = info d

-- `get_download_queue`: the partials of the four queues
unfoldable pub queue_info : (s : Picker) → List ℕ
queue_info s = concat_map info (in_queue Downloading s ++ (in_queue Full s ++ (in_queue FinishedQueue s ++ in_queue ZeroPrio s)))

-- `get_download_queue_sizes`: how many each has
unfoldable pub queue_sizes : (s : Picker) → List ℕ
queue_sizes s =
    len (in_queue Downloading s) ∷ len (in_queue Full s) ∷ len (in_queue FinishedQueue s) ∷ len (in_queue ZeroPrio s) ∷ []

-- `get_availability`: peers with the seeds
unfoldable pub availability : (s : Picker) (p : Piece) → ℕ
availability s p = p.peer_count + s.seeds

-- ---- the answers
-- of the picker
unfoldable pub reply_picker : (s : Picker) (q : OfPicker) → Reply
reply_picker s num_pieces = one (pieces_in s)
reply_picker s block_size = one (block_length s.piece_size)
reply_picker s ask_blocks_per_piece = one (blocks_per_piece s)
reply_picker s num_pad_bytes = one (pad_bytes_where s (λ i. true))
reply_picker s cursor? = one s.cursor
reply_picker s reverse_cursor? = one s.reverse_cursor
reply_picker s ask_num_have = one (num_have s)
reply_picker s ask_num_filtered = one (num_filtered s)
reply_picker s ask_num_have_filtered = one (num_have_filtered s)
reply_picker s num_seeds = one s.seeds
reply_picker s is_finished = flag (leb (pieces_in s - num_filtered s) (num_have s))
reply_picker s is_seeding = flag (eqb (num_have s) (pieces_in s))
reply_picker s num_want_left = one (pieces_in s - num_have s - num_filtered s + num_have_filtered s)
reply_picker s get_download_queue_size = one (len s.partials)
reply_picker s get_download_queue_sizes = plain (queue_sizes s)
reply_picker s distributed_copies = distributed s
reply_picker s want = counted s (λ i. not (filtered s i))
reply_picker s have_want = counted s (λ i. have_piece s i && not (filtered s i))
reply_picker s have = counted s (have_piece s)
reply_picker s all_pieces = counted s (λ i. true)
reply_picker s total_size = one s.total_size
reply_picker s full_piece_size = one s.piece_size
reply_picker s dirty? = flag (is_dirty s.listing)

-- a record for each piece or partial
unfoldable pub list_picker : (s : Picker) (q : ListOfPicker) → Reply
list_picker s get_availability_vec = plain (each (availability s) s.pieces)
list_picker s piece_priorities = plain (each (λ p. p.priority) s.pieces)
list_picker s get_download_queue = plain (queue_info s)

-- what a partial tells, if one stands
unfoldable pub of_partial : (reply : DownloadingPiece → Reply) (found : Option DownloadingPiece) → Reply
of_partial reply none = nothing
of_partial reply (some d) = reply d

-- `is_hashing`: a partial stands that is being hashed
unfoldable pub hashing_in : (found : Option DownloadingPiece) → Bool
hashing_in none = false
hashing_in (some d) = d.hashing

-- `is_piece_finished`: every block being written or on disk
unfoldable pub finished_in : (s : Picker) (i : ℕ) (found : Option DownloadingPiece) → Bool
finished_in s i none = (piece_at s i).flushed
finished_in s i (some d) = leb (blocks_in_piece s i) (blocks_in_state Finished d + blocks_in_state Writing d)

-- `get_downloaders`: each block's peer
unfoldable pub peers_in : (s : Picker) (i : ℕ) (found : Option DownloadingPiece) → List (Option ℕ)
peers_in s i none = replicate (blocks_in_piece s i) none
peers_in s i (some d) = each (λ b. b.peer) d.blocks

-- state, peers, peer
unfoldable pub block_info : (b : Block) → List (Option ℕ)
block_info b = some (block_state_number b.state) ∷ some b.num_peers ∷ b.peer ∷ []

-- `piece_stats`: peers with the seeds, bucket, flushed, downloading
unfoldable pub stats : (s : Picker) (p : Piece) → Reply
stats s p =
    numbers (some (availability s p) ∷ bucket s.seeds p ∷ some (bit p.flushed) ∷ some (bit (not (is_open p.state))) ∷ [])

-- of piece i
unfoldable pub reply_piece : (s : Picker) (i : ℕ) (q : OfPiece) → Reply
reply_piece s i ask_blocks_in_piece = one (blocks_in_piece s i)
reply_piece s i ask_payload_blocks_in_piece = one (payload_blocks_in_piece s i)
reply_piece s i piece_size = one (piece_size_at s i)
reply_piece s i pad_bytes_in_piece = one (piece_at s i).pad_bytes
reply_piece s i get_availability = one (availability s (piece_at s i))
reply_piece s i ask_have_piece = flag (have_piece s i)
reply_piece s i is_piece_finished = flag (finished_in s i (partial_of s i))
reply_piece s i is_downloading = flag (not (is_open (piece_at s i).state))
reply_piece s i is_hashing = flag (hashing_in (partial_of s i))
reply_piece s i is_piece_flushed = flag (piece_at s i).flushed
reply_piece s i piece_priority = one (piece_at s i).priority
reply_piece s i piece_stats = stats s (piece_at s i)
reply_piece s i piece_info = plain (info_of s i (partial_of s i))
reply_piece s i peer_count = one (piece_at s i).peer_count
reply_piece s i download_state = one (queue_number (piece_at s i).state)
reply_piece s i passed_hash_check = of_partial (λ d. flag d.passed_hash_check) (partial_of s i)
reply_piece s i locked? = of_partial (λ d. flag d.locked) (partial_of s i)
reply_piece s i hashing? = of_partial (λ d. flag d.hashing) (partial_of s i)

-- a record for each block
unfoldable pub list_piece : (s : Picker) (i : ℕ) (q : ListOfPiece) → Reply
list_piece s i get_downloaders = numbers (peers_in s i (partial_of s i))
list_piece s i blocks_for_piece = of_partial (λ d. numbers (concat_map block_info d.blocks)) (partial_of s i)

-- the block of a partial, if one stands
unfoldable pub block_in : (found : Option DownloadingPiece) (j : ℕ) → Option Block
block_in none j = none
block_in (some d) j = some (block_at d j)

-- a block stands and passes a test
unfoldable pub block_test : (test : Block → Bool) (found : Option Block) → Bool
block_test test none = false
block_test test (some b) = test b

-- what a block tells, if its partial stands
unfoldable pub of_block_there : (reply : Block → Reply) (found : Option Block) → Reply
of_block_there reply none = nothing
of_block_there reply (some b) = reply b

-- `num_peers_block`: 0 without a partial
unfoldable pub num_peers_of : (found : Option Block) → ℕ
num_peers_of none = 0
num_peers_of (some b) = b.num_peers

-- `get_downloader`: none for a free block
unfoldable pub downloader_of : (found : Option Block) → Option ℕ
downloader_of none = none
downloader_of (some b) = cond (same_block_state b.state None) none b.peer

-- of a block of piece i
unfoldable pub reply_block : (s : Picker) (i : ℕ) (found : Option Block) (q : OfBlock) → Reply
reply_block s i found num_peers_block = one (num_peers_of found)
reply_block s i found is_requested = flag (block_test (λ x. same_block_state x.state Requested) found)
reply_block s i found is_downloaded = flag ((piece_at s i).flushed || block_test received found)
reply_block s i found is_finished_block = flag ((piece_at s i).flushed || block_test (λ x. same_block_state x.state Finished) found)
reply_block s i found get_downloader = numbers (downloader_of found ∷ [])
reply_block s i found block_state = of_block_there (λ x. one (block_state_number x.state)) found
reply_block s i found block_num_peers = of_block_there (λ x. one x.num_peers) found
reply_block s i found block_peer = of_block_there (λ x. numbers (x.peer ∷ [])) found

-- what stands at a place, if anything does
unfoldable pub place_in : (found : Option ℕ) → Reply
place_in none = nothing
place_in (some x) = one x

-- a place of the list
unfoldable pub list_place : (listing : Listing) (k : ℕ) → Reply
list_place dirty k = stale_list
list_place (fresh l) k = place_in (get_elem? l k)

-- every question
unfoldable pub reply : (s : Picker) (q : Question) → Reply
reply s (of_picker q) = reply_picker s q
reply s (list_of_picker q room) = list_picker s q
reply s (of_piece q i) = reply_piece s i q
reply s (list_of_piece q i room) = list_piece s i q
reply s (of_block q i j) = reply_block s i (block_in (partial_of s i) j) q
reply s (partial_at k) = place_in (get_elem? (each (λ d. d.piece) s.partials) k)
reply s (recent_extent k) = place_in (get_elem? s.recent_extents k)
reply s (ask_list_place k) = list_place s.listing k
