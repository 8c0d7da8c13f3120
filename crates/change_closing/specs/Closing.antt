-- A partial closed on the way through a change: given up, or its piece on disk. What is said holds with the records as they will be, that
-- of the piece taken out. Assumes nothing.
use Rattle.std.specs.Prelude.{ℕ, ◌≡◌, true, List}
use Rattle.std.proofs.Math.Option.{some}
use Rattle.model.specs.State.{DownloadingPiece}
use Rattle.model.specs.list.Order.{Draws, no_draw, rank}
use Rattle.model.specs.change.Partials.{partial_of, erase_download_piece, erase_and_update}
use Rattle.model.specs.change.Changes.{piece_flushed}
use Rattle.model.specs.image.Sound.{partials_from}
use Rattle.memory_records.specs.declared.record.DownloadingPiece.{DownloadingPiece as Record}
use Rattle.memory_records.specs.declared.edits.Edit.TheVariants.{Remove}
use Rattle.memory_records.specs.Records.{edited}
use Rattle.memory_layout.specs.declared.shape.Shape.{Shape}
use Rattle.memory_layout.specs.Decode.{head_word, decode}
use Rattle.change_steps.specs.Working.{Works, Went, Stored}

-- ---- before
-- piece i has a partial, among partials by rising piece
pub record HasPartial (s : Shape) (i : ℕ) (records : List Record) (words cells : List ℕ) : Type 0 where
  pub works : Works s records words cells
  pub rising : partials_from 0 (decode records words cells).partials ≡ true
  pub partial : DownloadingPiece
  pub found : partial_of (decode records words cells) i ≡ some partial

-- it has with some records beside these words and cells
pub record PartialBeside (s : Shape) (i : ℕ) (words cells : List ℕ) : Type 0 where
  pub records : List Record
  pub has : HasPartial s i records words cells

-- ---- after
-- the records with that of piece i taken out
abbrev pub without : (i : ℕ) (words : List ℕ) (records : List Record) → List Record
without i words records = edited (head_word words 7) (Remove i) records

-- the partial is gone and its piece Open, the list still to be mended
pub record Erased (s : Shape) (i : ℕ) (words cells words' cells' : List ℕ) : Type 0 where
  pub stored : (records : List Record) → HasPartial s i records words cells
      → Stored s (erase_download_piece i) records words cells (without i words records) words' cells'

-- the same, and the list mended
pub record ErasedAndUpdated (s : Shape) (draws : Draws) (i : ℕ) (words cells : List ℕ) (used : ℕ) (words' cells' : List ℕ) (next : ℕ)
    : Type 0 where
  pub went : (records : List Record) → HasPartial s i records words cells
      → Went s (erase_and_update draws i) records words cells used (without i words records) words' cells' next

-- the whole piece is on disk, and its partial goes. It had no bucket, so nothing has to be mended
pub record Flushed (s : Shape) (i : ℕ) (words cells words' cells' : List ℕ) : Type 0 where
  pub went : (records : List Record) → HasPartial s i records words cells → rank (decode records words cells) i ≡ 0 → (used : ℕ)
      → Went s (no_draw (piece_flushed i)) records words cells used (without i words records) words' cells' used
