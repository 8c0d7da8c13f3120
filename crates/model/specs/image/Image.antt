-- The image of a picker: its bytes, and a reader that accepts them or gives the place of the first fault. Assumes nothing.
-- Each record is one byte of kind and a body whose length the kind fixes; numbers have their high byte first.
use Rattle.std.specs.Prelude.{ℕ, zero, suc, ◌+◌, ◌-◌, ◌*◌, ◌/◌, ◌%◌, ◌^◌, Bool, true, false, cond, ◌&&◌, ◌||◌, List, [], ◌∷◌, ◌++◌, take, drop, eqb, ltb, leb}
use Rattle.std.proofs.Math.Option.{Option, none, some}
use Rattle.types.specs.declared.queue.DownloadQueue.TheVariants.{Open}
use Rattle.types.specs.declared.block.BlockState.TheVariants.{None}
use Rattle.types.specs.Queue.{queue_number, queues}
use Rattle.types.specs.Block.{block_state_number, block_states}
use Rattle.model.specs.Lists.{bit, nth, len, every, concat_map}
use Rattle.model.specs.Bep3.{num_pieces}
use Rattle.model.specs.State.{Piece, Block, DownloadingPiece, Picker, Listing, dirty, fresh, max_partials, max_extents, is_open, is_dirty}
use Rattle.model.specs.State.{list_of, with_pieces, with_partials, with_recent_extents, with_listing, blocks_in_piece}
use Rattle.model.specs.list.Order.{with_bucket}
use Rattle.model.specs.image.WellFormed.{head_ok, piece_ok, block_ok, state_ok, extent_ok, place_ok}

-- ---- kinds
-- body lengths: head, piece, partial, block, extent, list place, pick
abbrev pub body_lengths : List ℕ
body_lengths = 23 ∷ 9 ∷ 5 ∷ 12 ∷ 4 ∷ 4 ∷ 17 ∷ []

-- of a kind
unfoldable pub body_length : (kind : ℕ) → ℕ
body_length kind = nth 0 body_lengths (kind - 1)

-- document 01's numbers of the kinds
abbrev pub head_kind : ℕ
head_kind = 1

abbrev pub piece_kind : ℕ
piece_kind = 2

abbrev pub partial_kind : ℕ
partial_kind = 3

abbrev pub block_kind : ℕ
block_kind = 4

abbrev pub extent_kind : ℕ
extent_kind = 5

abbrev pub place_kind : ℕ
place_kind = 6

abbrev pub pick_kind : ℕ
pick_kind = 7

-- ---- writer
-- a number in w bytes
unfoldable pub bytes_of : (w n : ℕ) → List ℕ
bytes_of zero n = []
bytes_of (suc w) n = (n / 256 ^ w % 256) ∷ bytes_of w n

-- total, piece size, seeds, cursors, whether the list is dirty
unfoldable pub head_record : (s : Picker) → List ℕ
head_record s =
    head_kind
    ∷ (bytes_of 8 s.total_size
    ++ (bytes_of 4 s.piece_size
    ++ (bytes_of 2 s.seeds ++ (bytes_of 4 s.cursor ++ (bytes_of 4 s.reverse_cursor ++ bytes_of 1 (bit (is_dirty s.listing)))))))

-- peers, state, priority, flushed, pad bytes
unfoldable pub piece_record : (p : Piece) → List ℕ
piece_record p =
    piece_kind
    ∷ (bytes_of 2 p.peer_count
    ++ (bytes_of 1 (queue_number p.state) ++ (bytes_of 1 p.priority ++ (bytes_of 1 (bit p.flushed) ++ bytes_of 4 p.pad_bytes))))

-- a flag and a number; none is nine zero bytes
unfoldable pub peer_bytes : (peer : Option ℕ) → List ℕ
peer_bytes none = bytes_of 1 0 ++ bytes_of 8 0
peer_bytes (some n) = bytes_of 1 1 ++ bytes_of 8 n

-- state, peers, peer
unfoldable pub block_record : (b : Block) → List ℕ
block_record b = block_kind ∷ (bytes_of 1 (block_state_number b.state) ++ (bytes_of 2 b.num_peers ++ peer_bytes b.peer))

-- 1 passed, 2 locked, 4 hashing
unfoldable pub flags_of : (d : DownloadingPiece) → ℕ
flags_of d = bit d.passed_hash_check + 2 * bit d.locked + 4 * bit d.hashing

-- piece and flags, then the blocks
unfoldable pub partial_records : (d : DownloadingPiece) → List ℕ
partial_records d = partial_kind ∷ (bytes_of 4 d.piece ++ (bytes_of 1 (flags_of d) ++ concat_map block_record d.blocks))

-- a record of one number
unfoldable pub number_record : (kind n : ℕ) → List ℕ
number_record kind n = kind ∷ bytes_of 4 n

-- head, pieces, partials, extents, list places
unfoldable pub image : (s : Picker) → List ℕ
image s =
    head_record s
    ++ (concat_map piece_record s.pieces
    ++ (concat_map partial_records s.partials
    ++ (concat_map (number_record extent_kind) s.recent_extents ++ concat_map (number_record place_kind) (list_of s.listing))))

-- ---- readers
-- what a reader finds: a value and the bytes after it, or a fault and the bytes from the record at fault on
pub data Got (A : Type 0) : Type 0 where
  got : A → List ℕ → Got A
  fault : List ℕ → Got A

-- a reader of bytes
abbrev pub Reader : (A : Type 0) → Type 0
Reader A = List ℕ → Got A

-- a reader that takes nothing
abbrev pub ret : {A : Type 0} → (a : A) → Reader A
ret a = λ bs. got a bs

-- what follows a value; a fault stays
unfoldable pub next : {A B : Type 0} → (found : Got A) (then : A → Reader B) → Got B
next (got a rest) then = then a rest
next (fault rest) then = fault rest

-- one reader after another
abbrev pub ◌>>=◌ : {A B : Type 0} → Reader A → (A → Reader B) → Reader B
◌>>=◌ r f = λ bs. next (r bs) f

-- the number of bytes, the high one first
unfoldable pub number_of : (n : ℕ) (l : List ℕ) → ℕ
number_of n [] = n
number_of n (b ∷ bs) = number_of (n * 256 + b) bs

-- the number in w bytes of a body, from place k on
unfoldable pub field : (k w : ℕ) (body : List ℕ) → ℕ
field k w body = number_of 0 (take w (drop k body))

-- a record of this kind stands in front, whole
unfoldable pub starts_with : (kind : ℕ) (l : List ℕ) → Bool
starts_with kind [] = false
starts_with kind (b ∷ bs) = eqb b kind && (leb (body_length kind) (len bs) && every (λ c. ltb c 256) (take (body_length kind) bs))

-- a value, or the record `here` is at fault
unfoldable pub given : {A : Type 0} → (here rest : List ℕ) (value : Option A) → Got A
given here rest none = fault here
given here rest (some a) = got a rest

-- a value read from a record's body, if it obeys its rule; else the record is at fault
unfoldable pub judged : {A : Type 0} → (kind : ℕ) (read : List ℕ → Option A) → Reader A
judged kind read = λ bs.
    elim (starts_with kind bs) [
      | true ↦ given bs (drop (suc (body_length kind)) bs) (read (take (body_length kind) (drop 1 bs)))
      | false ↦ fault bs
    ]

-- the value where a rule holds
unfoldable pub obeying : {A : Type 0} → (test : Bool) (a : A) → Option A
obeying true a = some a
obeying false a = none

-- ---- bodies
-- a picker of head fields alone
unfoldable pub head_of : (body : List ℕ) → Picker
head_of body =
    record {
      total_size = field 0 8 body;
      piece_size = field 8 4 body;
      seeds = field 12 2 body;
      cursor = field 14 4 body;
      reverse_cursor = field 18 4 body;
      pieces = [];
      partials = [];
      recent_extents = [];
      listing = cond (eqb (field 22 1 body) 1) dirty (fresh []);
    }

-- a head that obeys its rule
unfoldable pub read_head : (body : List ℕ) → Option Picker
read_head body = obeying (leb (field 22 1 body) 1 && head_ok (head_of body)) (head_of body)

-- the highest number of a state of a piece, of a state of a block, and of a partial's flags
abbrev pub last_queue : ℕ
last_queue = 6

abbrev pub last_block_state : ℕ
last_block_state = 3

abbrev pub all_flags : ℕ
all_flags = 7

-- a piece's fields
unfoldable pub piece_of : (body : List ℕ) → Piece
piece_of body =
    record {
      peer_count = field 0 2 body;
      state = nth Open queues (field 2 1 body);
      priority = field 3 1 body;
      flushed = eqb (field 4 1 body) 1;
      pad_bytes = field 5 4 body;
    }

-- a piece that obeys its rule
unfoldable pub read_piece : (s : Picker) (i : ℕ) (body : List ℕ) → Option Piece
read_piece s i body = obeying (leb (field 2 1 body) last_queue && (leb (field 4 1 body) 1 && piece_ok s i (piece_of body))) (piece_of body)

-- a flag, and a number that is 0 without it
unfoldable pub peer_fits : (has n : ℕ) → Bool
peer_fits has n = eqb has 1 || (eqb has 0 && eqb n 0)

-- that peer, or none
unfoldable pub peer_of : (has n : ℕ) → Option ℕ
peer_of has n = cond (eqb has 1) (some n) none

-- a block's fields
unfoldable pub block_of : (body : List ℕ) → Block
block_of body =
    record { state = nth None block_states (field 0 1 body); num_peers = field 1 2 body; peer = peer_of (field 3 1 body) (field 4 8 body) }

-- a block that obeys its rule
unfoldable pub read_block : (body : List ℕ) → Option Block
read_block body = obeying (leb (field 0 1 body) last_block_state && (peer_fits (field 3 1 body) (field 4 8 body) && block_ok (block_of body))) (block_of body)

-- the whole list of blocks fits
unfoldable pub last_fits : (fits : List Block → Bool) (before : List Block) (found : Option Block) → Option Block
last_fits fits before none = none
last_fits fits before (some x) = obeying (fits (before ++ (x ∷ []))) x

-- the last block of a partial: the partial's state is judged with it
unfoldable pub read_last_block : (fits : List Block → Bool) (before : List Block) (body : List ℕ) → Option Block
read_last_block fits before body = last_fits fits before (read_block body)

-- the flags of partial i, where n partials stand before it
unfoldable pub read_partial : (i n : ℕ) (body : List ℕ) → Option ℕ
read_partial i n body = obeying (eqb (field 0 4 body) i && (leb (field 4 1 body) all_flags && ltb n max_partials)) (field 4 1 body)

-- ---- the parts of an image
-- n pieces from i on
unfoldable pub get_pieces : (s : Picker) (i n : ℕ) → Reader (List Piece)
get_pieces s i zero = ret []
get_pieces s i (suc n) = do
  p ← judged piece_kind (read_piece s i)
  ps ← get_pieces s (suc i) n
  ret (p ∷ ps)

-- n blocks more, the last of them judged
unfoldable pub get_blocks : (fits : List Block → Bool) (before : List Block) (zero : ℕ) → Reader (List Block)
get_blocks fits before zero = ret before
get_blocks fits before (suc zero) = do
  b ← judged block_kind (read_last_block fits before)
  ret (before ++ (b ∷ []))
get_blocks fits before (suc (suc n)) = do
  b ← judged block_kind read_block
  get_blocks fits (before ++ (b ∷ [])) (suc n)

-- a partial's fields
unfoldable pub partial_with : (i flags : ℕ) (blocks : List Block) → DownloadingPiece
partial_with i flags blocks =
    record { piece = i; passed_hash_check = eqb (flags % 2) 1; locked = eqb (flags / 2 % 2) 1; hashing = eqb (flags / 4 % 2) 1; blocks = blocks }

-- a partial and its blocks
unfoldable pub get_partial : (s : Picker) (i n : ℕ) (p : Piece) → Reader DownloadingPiece
get_partial s i n p = do
  flags ← judged partial_kind (read_partial i n)
  blocks ← get_blocks (λ blocks. state_ok p (partial_with i flags blocks)) [] (blocks_in_piece s i)
  ret (partial_with i flags blocks)

-- a partial for each piece that is not Open
unfoldable pub get_partials : (s : Picker) (i n : ℕ) (ps : List Piece) → Reader (List DownloadingPiece)
get_partials s i n [] = ret []
get_partials s i n (p ∷ ps) =
    elim (is_open p.state) [
      | true ↦ get_partials s (suc i) n ps
      | false ↦ do
        d ← get_partial s i n p
        ds ← get_partials s (suc i) (suc n) ps
        ret (d ∷ ds)
    ]

-- an extent that obeys its rule
unfoldable pub read_extent : (s : Picker) (before body : List ℕ) → Option ℕ
read_extent s before body = obeying (extent_ok s before (field 0 4 body)) (field 0 4 body)

-- the next record is of this kind, or would be
unfoldable pub comes : (kind : ℕ) (l : List ℕ) → Bool
comes kind [] = false
comes kind (b ∷ bs) = eqb b kind

-- extents as long as records of that kind come; one more than are allowed is at fault
unfoldable pub get_extents : (s : Picker) (n : ℕ) (before : List ℕ) → Reader (List ℕ)
get_extents s zero before = λ bs. cond (comes extent_kind bs) (fault bs) (got before bs)
get_extents s (suc n) before = λ bs.
    elim (comes extent_kind bs) [
      | true ↦ next (judged extent_kind (read_extent s before) bs) (λ e. get_extents s n (before ++ (e ∷ [])))
      | false ↦ got before bs
    ]

-- a list place that obeys its rule
unfoldable pub read_place : (s : Picker) (before body : List ℕ) → Option ℕ
read_place s before body = obeying (place_ok s before (field 0 4 body)) (field 0 4 body)

-- n list places more
unfoldable pub get_order : (s : Picker) (n : ℕ) (before : List ℕ) → Reader (List ℕ)
get_order s zero before = ret before
get_order s (suc n) before = do
  i ← judged place_kind (read_place s before)
  get_order s n (before ++ (i ∷ []))

-- a list that is not dirty
unfoldable pub get_listing : (s : Picker) (listing : Listing) → Reader Listing
get_listing s dirty = ret dirty
get_listing s (fresh l) = do
  is ← get_order s (len (with_bucket s)) []
  ret (fresh is)

-- the picker whose image stands in front
unfoldable pub get_picker : Reader Picker
get_picker = do
  h ← judged head_kind read_head
  ps ← get_pieces h 0 (num_pieces h.total_size h.piece_size)
  ds ← get_partials h 0 0 ps
  let s = with_partials ds (with_pieces ps h)
  es ← get_extents s max_extents []
  l ← get_listing s h.listing
  ret (with_listing l (with_recent_extents es s))

-- ---- the whole
-- what was read, or the place of the first fault
pub data Read (A : Type 0) : Type 0 where
  accepted : A → Read A
  fault_at : ℕ → Read A

-- left-over bytes count as a record
unfoldable pub whole : {A : Type 0} → (n : ℕ) (found : Got A) → Read A
whole n (got a []) = accepted a
whole n (got a (b ∷ bs)) = fault_at (n - len (b ∷ bs))
whole n (fault bs) = fault_at (n - len bs)

-- an image and nothing else
unfoldable pub read_image : (bs : List ℕ) → Read Picker
read_image bs = whole (len bs) (get_picker bs)
