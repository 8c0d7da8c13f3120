-- The partials of an image as they are stored one after another. Assumes nothing.
use Rattle.std.specs.Prelude.{ℕ, ◌+◌, ◌-◌, ◌≤◌, ◌<◌, ◌≡◌, List, ◌++◌, length, drop}
use Rattle.model.specs.Bep3.{num_pieces, whole_piece_blocks}
use Rattle.model.specs.State.{Piece, DownloadingPiece}
use Rattle.model.specs.image.Image.{got, ret, next, get_partials}
use Rattle.memory_records.specs.Rows.{row_at}
use Rattle.memory_layout.specs.declared.shape.Shape.{Shape}
use Rattle.memory_layout.specs.Tables.{tabulate}
use Rattle.memory_layout.specs.Decode.{head_word, partial_held}
use Rattle.memory_layout.specs.Bounds.{Spans, PlainRecord}
use Rattle.image_pieces.specs.declared.head.Head.{Head}
use Rattle.image_pieces.specs.Heads.{head_picker, Headed}
use Rattle.image_pieces.specs.Pieces.{piece_place, piece_in, first_pieces}
use Rattle.image_columns.specs.Columns.{BlocksMoved}
use Rattle.image_store.specs.declared.partials.Walk.{Walk}
use Rattle.image_store.specs.Given.{PiecesTold}

-- the partials of the first k rows
unfoldable pub rows_held : (s : Shape) (k : ℕ) (rows words cells : List ℕ) → List DownloadingPiece
rows_held s k rows words cells = tabulate k (λ j. partial_held words cells s.pieces s.blocks (row_at rows j))

-- the pieces from i on
unfoldable pub pieces_from : (bytes : List ℕ) (i n : ℕ) → List Piece
pieces_from bytes i n = tabulate (n - i) (λ j. piece_in bytes (i + j))

-- the head stands in the words, and the pieces in the bytes
pub record Begun (head : Head) (s : Shape) (bytes words cells : List ℕ) : Type 0 where
  pub spans : Spans s words cells
  pub total_size : head_word words 0 ≡ head.total
  pub piece_size : head_word words 1 ≡ head.size
  pub pieces : s.pieces ≡ num_pieces head.total head.size
  pub blocks : s.blocks ≡ whole_piece_blocks head.size
  pub headed : Headed head bytes
  pub told : PiecesTold s.pieces bytes

-- the first rows are the partials of the pieces before i, each with its blocks at the place of its number, and those of the pieces from i
-- on are left
pub record Storing (head : Head) (s : Shape) (bytes rows words cells : List ℕ) (w : Walk) (i : ℕ) : Type 0 where
  pub within : i ≤ s.pieces
  pub few : w.many ≤ i
  pub most : w.many ≤ 512
  pub room : w.at ≤ length bytes
  pub left : get_partials (head_picker head) 0 0 (first_pieces bytes s.pieces) (drop (piece_place s.pieces) bytes)
      ≡ next (get_partials (head_picker head) i w.many (pieces_from bytes i s.pieces) (drop w.at bytes))
      (λ ds. ret (rows_held s w.many rows words cells ++ ds))
  pub placed : (j : ℕ) → j < w.many → (row_at rows j).info_idx ≡ j
  pub plain : (j : ℕ) → j < w.many → PlainRecord s.pieces s.blocks words cells (row_at rows j)

-- piece i is passed
pub record Passed (head : Head) (s : Shape) (bytes words cells rows words' cells' rows' : List ℕ) (w : Walk) (i : ℕ) : Type 0 where
  pub moved : BlocksMoved s words cells words' cells'
  pub rows_long : length rows' ≡ length rows
  pub storing : Storing head s bytes rows' words' cells' w i

-- all of them are found, and stand in the rows
pub record PartialsStored (head : Head) (s : Shape) (bytes words cells rows words' cells' rows' : List ℕ) (w : Walk) : Type 0 where
  pub moved : BlocksMoved s words cells words' cells'
  pub rows_long : length rows' ≡ length rows
  pub is : get_partials (head_picker head) 0 0 (first_pieces bytes s.pieces) (drop (piece_place s.pieces) bytes)
      ≡ got (rows_held s w.many rows' words' cells') (drop w.at bytes)
  pub few : w.many ≤ s.places
  pub room : w.at ≤ length bytes
  pub placed : (j : ℕ) → j < w.many → (row_at rows' j).info_idx ≡ j
  pub plain : (j : ℕ) → j < w.many → PlainRecord s.pieces s.blocks words' cells' (row_at rows' j)
