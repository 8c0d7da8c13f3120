-- The rules of a well-formed picker, each on one record of the image with those before it, and all of them together. Assumes nothing.
use Rattle.std.specs.Prelude.{ℕ, suc, ◌+◌, ◌^◌, Bool, true, false, cond, not, ◌&&◌, ◌||◌, List, [], ◌∷◌, ◌++◌, eqb, ltb, leb}
use Rattle.std.proofs.Math.Option.{Option, none, some}
use Rattle.types.specs.declared.queue.DownloadQueue.TheVariants.{Open}
use Rattle.types.specs.Queue.{unreverse}
use Rattle.model.specs.Lists.{every, len, member, last_or}
use Rattle.model.specs.Bep3.{num_pieces}
use Rattle.model.specs.State.{Piece, Block, DownloadingPiece, Picker, Listing, dirty, fresh, max_peers, max_partials, max_extents}
use Rattle.model.specs.State.{max_priority, same_queue, is_open, valid_geometry, pieces_in, piece_size_at, blocks_per_piece, blocks_in_piece}
use Rattle.model.specs.State.{num_extents}
use Rattle.model.specs.list.Order.{rank, with_bucket}
use Rattle.model.specs.change.Partials.{progress, new_state}

-- ---- record by record
-- the head: geometry, seeds, and each cursor from 0 to the number of pieces
unfoldable pub head_ok : (s : Picker) → Bool
head_ok s =
    valid_geometry s.total_size s.piece_size
    && (leb s.seeds max_peers
    && (leb s.cursor (num_pieces s.total_size s.piece_size) && leb s.reverse_cursor (num_pieces s.total_size s.piece_size)))

-- piece i: peers, priority and pad bytes in range; a flushed piece is Open
unfoldable pub piece_ok : (s : Picker) (i : ℕ) (p : Piece) → Bool
piece_ok s i p =
    leb (p.peer_count + s.seeds) max_peers
    && (leb p.priority max_priority && ((not p.flushed || is_open p.state) && leb p.pad_bytes (piece_size_at s i)))

-- a peer is a number of 64 bits
unfoldable pub peer_ok : (peer : Option ℕ) → Bool
peer_ok none = true
peer_ok (some n) = ltb n (2 ^ 64)

-- peers and peer in range
unfoldable pub block_ok : (b : Block) → Bool
block_ok b = leb b.num_peers max_peers && peer_ok b.peer

-- the state is the one that blocks and priority give, plain or reverse. A piece above priority 0 with no block at work may stand in any,
-- since the Rust leaves it where it was
unfoldable pub state_ok : (p : Piece) (d : DownloadingPiece) → Bool
state_ok p d =
    (ltb 0 p.priority && eqb (progress d) 0) || same_queue (unreverse p.state) (new_state d p.priority Open)

-- the partial of piece i, where n partials stand before it
unfoldable pub partial_ok : (s : Picker) (i n : ℕ) (p : Piece) (d : DownloadingPiece) → Bool
partial_ok s i n p d =
    eqb d.piece i
    && (ltb n max_partials && (eqb (len d.blocks) (blocks_in_piece s i) && (every block_ok d.blocks && state_ok p d)))

-- an extent after others
unfoldable pub extent_ok : (s : Picker) (before : List ℕ) (e : ℕ) → Bool
extent_ok s before e =
    ltb (len before) max_extents && (ltb e (num_extents (pieces_in s) (blocks_per_piece s)) && not (member e before))

-- a list place after others: a piece with a bucket, not listed before, of no lower bucket than the one before it
unfoldable pub place_ok : (s : Picker) (before : List ℕ) (i : ℕ) → Bool
place_ok s before i =
    ltb i (pieces_in s) && (ltb 0 (rank s i) && (not (member i before) && leb (rank s (last_or i before)) (rank s i)))

-- ---- the picker
-- every piece
unfoldable pub pieces_ok : (s : Picker) (i : ℕ) (ps : List Piece) → Bool
pieces_ok s i [] = true
pieces_ok s i (p ∷ ps) = piece_ok s i p && pieces_ok s (suc i) ps

-- a partial for each piece that is not Open, and for no other
unfoldable pub partials_ok : (s : Picker) (i n : ℕ) (ps : List Piece) (ds : List DownloadingPiece) → Bool
partials_ok s i n [] [] = true
partials_ok s i n [] (d ∷ ds) = false
partials_ok s i n (p ∷ ps) [] = is_open p.state && partials_ok s (suc i) n ps []
partials_ok s i n (p ∷ ps) (d ∷ ds) =
    cond (is_open p.state) (partials_ok s (suc i) n ps (d ∷ ds)) (partial_ok s i n p d && partials_ok s (suc i) (suc n) ps ds)

-- extents one after another
unfoldable pub extents_ok : (s : Picker) (before l : List ℕ) → Bool
extents_ok s before [] = true
extents_ok s before (e ∷ es) = extent_ok s before e && extents_ok s (before ++ (e ∷ [])) es

-- list places one after another
unfoldable pub order_ok : (s : Picker) (before l : List ℕ) → Bool
order_ok s before [] = true
order_ok s before (i ∷ is) = place_ok s before i && order_ok s (before ++ (i ∷ [])) is

-- each piece with a bucket once, unless the list is dirty
unfoldable pub listing_ok : (s : Picker) (listing : Listing) → Bool
listing_ok s dirty = true
listing_ok s (fresh l) = eqb (len l) (len (with_bucket s)) && order_ok s [] l

-- the whole picker
unfoldable pub well_formed : (s : Picker) → Bool
well_formed s =
    head_ok s
    && (eqb (pieces_in s) (num_pieces s.total_size s.piece_size)
    && (pieces_ok s 0 s.pieces
    && (partials_ok s 0 0 s.pieces s.partials && (extents_ok s [] s.recent_extents && listing_ok s s.listing))))
