-- The fields of a piece: what a store makes of the picker. Assumes nothing.
use mathlib.Core.Path.{◌≡◌}
use mathlib.Core.List.{List}
use Prim.Native.Nat.{ℕ, ◌≤◌, ◌<◌}
use lib.ListN.{set}
use Rattle.model.specs.State.{with_piece}
use Rattle.memory_layout.specs.declared.shape.Shape.{Shape}
use Rattle.memory_layout.specs.Offsets.{piece_word_at, piece_cell_at}
use Rattle.memory_layout.specs.Changes.{with_cell, with_pad_bytes}
use Rattle.memory_layout.specs.Bounds.{WordsSpan, CellsSpan}
use Rattle.memory_layout.specs.Stores.{CellsBecame}
use Rattle.memory_layout.proofs.stores.PieceStores.{piece_cell_stored, pad_bytes_stored}
use Rattle.memory_layout.proofs.stores.ListFrames.{pad_list_kept}
use Rattle.memory_fields.specs.Storing.{WordsStored}

-- a cell, by its column
pub field_stored : (s : Shape) (cells cells' : List ℕ) → CellsSpan s cells → (f i v : ℕ) → f < 4 → i < s.pieces → (f ≡ 1 → v ≤ 6)
    → (f ≡ 3 → v ≤ 1)
    → cells' ≡ set cells (piece_cell_at s.pieces f i) v → CellsBecame s (with_piece i (with_cell f v)) cells cells'
field_stored s cells cells' r f i v hf hi state flag e = rw e (piece_cell_stored s cells r f i v hf hi state flag)

-- the pad bytes
pub pad_bytes_set : (s : Shape) (words words' : List ℕ) → WordsSpan s words → (i v : ℕ) → i < s.pieces
    → words' ≡ set words (piece_word_at s.pieces 0 i) v
    → WordsStored s (with_piece i (with_pad_bytes v)) words words'
pad_bytes_set s words words' r i v h e =
    rw e (record { became = pad_bytes_stored s words r i v h; list = pad_list_kept s words v i h })
