-- The pieces of an image by their numbers; piece i stands at 24 + 10 * i. Assumes nothing.
use Rattle.std.specs.Prelude.{ℕ, ◌+◌, ◌*◌, ◌-◌, ◌≤◌, ◌<◌, ◌≡◌, Bool, not, ◌&&◌, ◌||◌, List, ◌++◌, eqb, leb, length, get_or, drop, Err, None, Ok, Option, Result, Some}
use Rattle.types.specs.Queue.{queue_number}
use Rattle.model.specs.State.{Piece as PieceRecord, Picker, max_peers, max_priority, piece_size_at}
use Rattle.model.specs.list.Order.{bucket, rank_of}
use Rattle.model.specs.image.Image.{piece_kind, Got, got, fault, ret, next, field, judged, last_queue, piece_of, read_piece, get_pieces}
use Rattle.memory_layout.specs.Tables.{tabulate}
use Rattle.image_records.specs.Records.{body_at}
use Rattle.image_pieces.specs.declared.head.Head.{Head}
use Rattle.image_pieces.specs.declared.piece.Piece.{Piece}
use Rattle.image_pieces.specs.Places.{Failed}
use Rattle.image_pieces.specs.Heads.{head_picker}

-- ---- one piece
-- its rule, where it has `long` bytes; 4 is Open
unfoldable pub piece_test : (count state priority flushed pad seeds long : ℕ) → Bool
piece_test count state priority flushed pad seeds long =
    leb state last_queue
    && (leb flushed 1 && (leb (count + seeds) max_peers && (leb priority max_priority &&
    ((not (eqb flushed 1) || eqb state 4) && leb pad long))))

-- its numbers
unfoldable pub piece_numbers : (p : PieceRecord) → Piece
piece_numbers p =
    record {
      peer_count = p.peer_count;
      state = queue_number p.state;
      priority = p.priority;
      flushed = p.flushed;
      pad_bytes =
          p.pad_bytes;
    }

-- the piece found
unfoldable pub piece_step : (found : Got PieceRecord) → Option Piece
piece_step (got p rest) = Some (piece_numbers p)
piece_step (fault rest) = None

-- for every picker and piece of these numbers
abbrev pub PieceJudged : (seeds long at : ℕ) (bytes : List ℕ) (r : Option Piece) → Type 0
PieceJudged seeds long at bytes r =
    (s : Picker) (i : ℕ) → s.seeds ≡ seeds → piece_size_at s i ≡ long → r ≡ piece_step (judged piece_kind (read_piece s i) (drop at bytes))

-- r is the rank of every piece with these numbers
abbrev pub RankBy : (seeds : ℕ) (x : Piece) (r : ℕ) → Type 0
RankBy seeds x r = (p : PieceRecord) → piece_numbers p ≡ x → r ≡ rank_of (bucket seeds p)

-- ---- all pieces
-- where piece i stands
abbrev pub piece_place : (i : ℕ) → ℕ
piece_place i = 24 + 10 * i

-- the body of piece i
unfoldable pub piece_body : (bytes : List ℕ) (i : ℕ) → List ℕ
piece_body bytes i = body_at piece_kind (piece_place i) bytes

-- piece i
unfoldable pub piece_in : (bytes : List ℕ) (i : ℕ) → PieceRecord
piece_in bytes i = piece_of (piece_body bytes i)

-- the first n pieces
unfoldable pub first_pieces : (bytes : List ℕ) (n : ℕ) → List PieceRecord
first_pieces bytes n = tabulate n (piece_in bytes)

-- piece k as its record was judged: its state is one, and its rank is kept
pub record PieceRanked (seeds : ℕ) (bytes ranks : List ℕ) (k : ℕ) : Type 0 where
  pub state : field 2 1 (piece_body bytes k) ≤ last_queue
  pub rank : get_or ranks k 0 ≡ rank_of (bucket seeds (piece_in bytes k))

-- n pieces stand behind the head
pub record PiecesStand (head : Head) (n : ℕ) (bytes ranks : List ℕ) : Type 0 where
  pub is : get_pieces (head_picker head) 0 n (drop 24 bytes) ≡ got (first_pieces bytes n) (drop (piece_place n) bytes)
  pub room : piece_place n ≤ length bytes
  pub ranked : (k : ℕ) → k < n → PieceRanked head.seeds bytes ranks k

-- the first i are read, and what is left decides
abbrev pub LeftDecides : (head : Head) (n : ℕ) (bytes : List ℕ) (i : ℕ) → Type 0
LeftDecides head n bytes i =
    get_pieces (head_picker head) 0 n (drop 24 bytes)
    ≡ next (get_pieces (head_picker head) i (n - i) (drop (piece_place i) bytes)) (λ ps. ret (first_pieces bytes i ++ ps))

-- and each of them has its rank; of w ranks
pub record Reading (head : Head) (n w : ℕ) (bytes ranks : List ℕ) (i : ℕ) : Type 0 where
  pub within : i ≤ n
  pub room : piece_place i ≤ length bytes
  pub left : LeftDecides head n bytes i
  pub ranked : (k : ℕ) → k < i → PieceRanked head.seeds bytes ranks k
  pub long : n ≤ w
  pub wide : length ranks ≡ w

-- they do, or one is at fault
unfoldable pub PiecesRead : (head : Head) (n : ℕ) (bytes ranks : List ℕ) (r : Result ℕ ℕ) → Type 0
PiecesRead head n bytes ranks (Ok k) = (k ≡ piece_place n) × PiecesStand head n bytes ranks
PiecesRead head n bytes ranks (Err k) = Failed (get_pieces (head_picker head) 0 n (drop 24 bytes)) bytes k
