-- The twelve worked cases of document 01 as a table: what is asked of the definitions, and what they are to give. Assumes nothing.
use Rattle.std.specs.Prelude.{ℕ, ◌-◌, ◌*◌, false, List, [], ◌∷◌, replicate}
use Rattle.std.proofs.Math.Option.{Option, none, some}
use Rattle.types.specs.declared.queue.DownloadQueue.{DownloadQueue}
use Rattle.types.specs.declared.queue.DownloadQueue.TheVariants.{Downloading, Open, DownloadingReverse}
use Rattle.model.specs.Lists.{bit, filter, each, from}
use Rattle.model.specs.Bep3.{num_pieces, piece_blocks, bit_at}
use Rattle.model.specs.State.{Piece, Picker, with_pieces, extent_for, extent_start, extent_end, new}
use Rattle.model.specs.list.Order.{bucket, draw, rebuilt}
use Rattle.model.specs.Options.{align_expanded_pieces}
use Rattle.model.specs.pick.Blocks.{PickRequest, Span, whole_pieces, span_of}
use Rattle.model.specs.pick.Pick.{forced}

-- ---- what a case asks
pub data Query : Type 0 where
  -- the bucket of a piece with this count, state and priority, under so many seeds
  bucket_of : (seeds peer_count : ℕ) → DownloadQueue → (priority : ℕ) → Query
  -- the pieces of a torrent, and the blocks of the last one
  geometry_of : (total_size piece_size : ℕ) → Query
  -- whether D partials of b blocks are too many for the peers
  forced_by : (partials b peers : ℕ) → Query
  -- the extent of a piece, with its first piece and its last, among n pieces of b blocks
  extent_of : (n b piece : ℕ) → Query
  -- the first and the last piece of a run P around a piece, among n Open pieces of b blocks; `given` blocks of the run are gone
  run_around : (n b options run given piece : ℕ) → Query
  -- the pieces that a bitfield of these bytes has, among n
  pieces_in : (n : ℕ) → List ℕ → Query
  -- the list of two Open pieces of these counts and priorities, rebuilt
  list_of : (peer_count priority count' wish' : ℕ) → Query
  -- the draw of a word with a limit
  draw_of : (word limit : ℕ) → Query

-- ---- how it is asked
unfoldable pub piece_of : ℕ → DownloadQueue → ℕ → Piece
piece_of peer_count state priority = record { peer_count = peer_count; state = state; priority = priority; flushed = false; pad_bytes = 0 }

-- n Open pieces of b blocks
unfoldable pub open_picker : ℕ → ℕ → Picker
open_picker n b = new (n * b * 16384) (b * 16384)

unfoldable pub request_of : ℕ → ℕ → ℕ → PickRequest
request_of n options run =
    record {
      options = options;
      wanted = 1;
      contiguous = run;
      peers = 0;
      peer = none;
      bits = n;
      bytes = replicate n 255;
      suggestions = [];
    }

unfoldable pub span_around : ℕ → ℕ → ℕ → ℕ → ℕ → ℕ → Span
span_around n b options run given piece =
    span_of (request_of n options run) (open_picker n b) piece (whole_pieces b (record { asked = run; given = given }))

unfoldable pub numbers : List ℕ → List (Option ℕ)
numbers ns = each (λ n. some n) ns

-- what the definitions give; none is document 01's −1
unfoldable pub give : Query → List (Option ℕ)
give (bucket_of seeds peer_count state priority) = bucket seeds (piece_of peer_count state priority) ∷ []
give (geometry_of total_size piece_size) =
    numbers (num_pieces total_size piece_size ∷ piece_blocks total_size piece_size (num_pieces total_size piece_size - 1) ∷ [])
give (forced_by partials b peers) = numbers (bit (forced partials b peers) ∷ [])
give (extent_of n b piece) =
    let s = open_picker n b in
    let e = extent_for s piece in
    numbers (e ∷ extent_start s e ∷ (extent_end s e - 1) ∷ [])
give (run_around n b options run given piece) =
    let x = span_around n b options run given piece in
    numbers (x.first ∷ (x.end - 1) ∷ [])
give (pieces_in n bytes) = numbers (filter (bit_at bytes) (from 0 n))
give (list_of peer_count priority count' wish') =
    numbers (rebuilt [] 0 (with_pieces (piece_of peer_count Open priority ∷ piece_of count' Open wish' ∷ []) (new 2 1)))
give (draw_of word limit) = numbers (draw (word ∷ []) 0 limit ∷ [])

-- ---- the table
pub record Case : Type 0 where
  pub number : ℕ
  pub query : Query
  pub due : List (Option ℕ)

abbrev case : ℕ → Query → List (Option ℕ) → Case
case n q d = record { number = n; query = q; due = d }

abbrev minus_one : List (Option ℕ)
minus_one = none ∷ []

unfoldable pub cases : List Case
cases =
    case 1 (bucket_of 0 1 Open 4) (numbers (22 ∷ []))
    ∷ case 1 (bucket_of 0 1 Downloading 4) (numbers (21 ∷ []))
    ∷ case 1 (bucket_of 0 1 DownloadingReverse 4) (numbers (23 ∷ []))
    ∷ case 2 (bucket_of 1 0 Downloading 7) (numbers (0 ∷ []))
    ∷ case 2 (bucket_of 0 0 Downloading 7) minus_one
    ∷ case 3 (bucket_of 0 1000 DownloadingReverse 1) (numbers (21020 ∷ []))
    ∷ case 4 (geometry_of 100000 32768) (numbers (4 ∷ 1 ∷ []))
    ∷ case 5 (forced_by 4 1 3) (numbers (0 ∷ []))
    ∷ case 5 (forced_by 5 1 3) (numbers (1 ∷ []))
    ∷ case 5 (forced_by 1 1 0) (numbers (1 ∷ []))
    ∷ case 6 (forced_by 8 256 1000) (numbers (0 ∷ []))
    ∷ case 6 (forced_by 9 256 1000) (numbers (1 ∷ []))
    ∷ case 7 (extent_of 40 16 37) (numbers (2 ∷ 32 ∷ 39 ∷ []))
    ∷ case 8 (run_around 8 4 align_expanded_pieces 6 0 7) (numbers (6 ∷ 7 ∷ []))
    ∷ case 9 (pieces_in 8 (0x81 ∷ [])) (numbers (0 ∷ 7 ∷ []))
    ∷ case 10 (bucket_of 0 9 Open 7) (numbers (28 ∷ []))
    ∷ case 10 (list_of 9 7 1 4) (numbers (1 ∷ 0 ∷ []))
    ∷ case 11 (draw_of 7 2) (numbers (1 ∷ []))
    ∷ case 12 (run_around 8 4 align_expanded_pieces 6 8 5) (numbers (5 ∷ 5 ∷ []))
    ∷ case 12 (run_around 8 4 0 6 8 5) (numbers (5 ∷ 5 ∷ []))
    ∷ []
