-- What the numbers of a judged image obey, as far as a store relies on it. Assumes nothing.
use Rattle.std.specs.Prelude.{ℕ, ◌+◌, ◌*◌, ◌≤◌, ◌<◌, ◌≡◌, true, false, List, length, get_or, drop}
use Rattle.model.specs.State.{DownloadingPiece, Picker, max_peers, max_priority, max_extents}
use Rattle.model.specs.list.Order.{bucket, rank_of}
use Rattle.model.specs.image.Image.{extent_kind, got, starts_with, field, last_queue, get_partials, accepted, read_image}
use Rattle.list_entries.specs.Words.{list_word}
use Rattle.image_pieces.specs.declared.head.Head.{Head}
use Rattle.image_pieces.specs.Heads.{head_picker}
use Rattle.image_pieces.specs.Pieces.{piece_place, piece_body, piece_in, first_pieces}
use Rattle.image_tail.specs.Extents.{extent_at}

-- ---- the whole
-- an image, and nothing else
pub record Image (bytes : List ℕ) : Type 0 where
  pub picker : Picker
  pub is : read_image bytes ≡ accepted picker

-- ---- pieces
-- the numbers of piece i
pub record PieceTold (bytes : List ℕ) (i : ℕ) : Type 0 where
  pub state : field 2 1 (piece_body bytes i) ≤ last_queue
  pub flushed : field 4 1 (piece_body bytes i) ≤ 1
  pub count : field 0 2 (piece_body bytes i) ≤ max_peers
  pub priority : field 3 1 (piece_body bytes i) ≤ max_priority

-- those of n pieces, which stand behind the head
pub record PiecesTold (n : ℕ) (bytes : List ℕ) : Type 0 where
  pub room : piece_place n ≤ length bytes
  pub told : (i : ℕ) → i < n → PieceTold bytes i

-- the rank of piece i
unfoldable pub rank_in : (seeds : ℕ) (bytes : List ℕ) (i : ℕ) → ℕ
rank_in seeds bytes i = rank_of (bucket seeds (piece_in bytes i))

-- ---- partials
-- all of them are found behind n pieces
pub record PartialsGot (head : Head) (n : ℕ) (bytes : List ℕ) : Type 0 where
  pub partials : List DownloadingPiece
  pub rest : List ℕ
  pub is : get_partials (head_picker head) 0 0 (first_pieces bytes n) (drop (piece_place n) bytes) ≡ got partials rest

-- ---- extents and list
-- so many extents stand from `at` on, and no more
pub record Extents (at : ℕ) (bytes : List ℕ) (many : ℕ) : Type 0 where
  pub most : many ≤ max_extents
  pub room : at + 5 * many ≤ length bytes
  pub come : (j : ℕ) → j < many → starts_with extent_kind (drop (at + 5 * j) bytes) ≡ true
  pub stop : many < max_extents → starts_with extent_kind (drop (at + 5 * many) bytes) ≡ false

-- the word of place j of a list that stands from `at` on: the piece and its rank
unfoldable pub place_word : (ranks : List ℕ) (at : ℕ) (bytes : List ℕ) (j : ℕ) → ℕ
place_word ranks at bytes j = list_word (get_or ranks (extent_at at bytes j) 0) (extent_at at bytes j)

-- a list of so many places of n pieces ends the bytes
pub record Places (at n : ℕ) (bytes : List ℕ) (many : ℕ) : Type 0 where
  pub few : many ≤ n
  pub fills : at + 5 * many ≡ length bytes
  pub low : (j : ℕ) → j < many → extent_at at bytes j < n

-- extents, and a list behind them
pub record Tail (at n : ℕ) (bytes : List ℕ) : Type 0 where
  pub extents : ℕ
  pub are : Extents at bytes extents
  pub places : ℕ
  pub list : Places (at + 5 * extents) n bytes places
