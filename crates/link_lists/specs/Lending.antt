-- The shape that a caller names, and the answer about a rank. Assumes nothing.
use Rattle.std.specs.Prelude.{◌≡◌, List, ℕ}
use Rattle.model.specs.list.Order.{rank}
use Rattle.memory_records.specs.declared.record.DownloadingPiece.{DownloadingPiece as Record}
use Rattle.memory_layout.specs.declared.shape.Shape.{Shape}
use Rattle.memory_layout.specs.Decode.{decode}

-- of so many pieces, blocks and places
abbrev pub shaped : (pieces blocks places : ℕ) → Shape
shaped pieces blocks places = record { pieces = pieces; blocks = blocks; places = places }

-- r is the rank of piece i, whatever records stand beside
abbrev pub RankOf : (words cells : List ℕ) (i r : ℕ) → Type 0
RankOf words cells i r = (records : List Record) → r ≡ rank (decode records words cells) i
