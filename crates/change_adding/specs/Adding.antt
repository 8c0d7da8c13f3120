-- A piece opened: what it asks of the buffers and of the records beside them, and what stands once its record is put in. Assumes nothing.
use Rattle.std.specs.Prelude.{ℕ, ◌<◌, ◌≡◌, true, List, length, take}
use Rattle.std.proofs.Math.Option.{none}
use Rattle.model.specs.State.{Picker, blocks_in_piece, payload_blocks_in_piece}
use Rattle.model.specs.list.Order.{Drawing}
use Rattle.model.specs.change.Partials.{partial_of, fresh_partial}
use Rattle.model.specs.image.Sound.{partials_from}
use Rattle.memory_records.specs.declared.record.DownloadingPiece.{DownloadingPiece as Record}
use Rattle.memory_records.specs.declared.edits.Edit.TheVariants.{Insert}
use Rattle.memory_records.specs.Records.{edited}
use Rattle.memory_records.specs.Rows.{records_in}
use Rattle.memory_layout.specs.declared.shape.Shape.{Shape}
use Rattle.memory_layout.specs.Decode.{head_word, record_at, decode}
use Rattle.memory_layout.specs.Changes.{partial_in}
use Rattle.change_steps.specs.Working.{Works, Went}
use Rattle.change_state.specs.declared.states.Tally.{Tally}
use Rattle.change_state.specs.Numbers.{IsTally}
use Rattle.change_adding.specs.declared.adding.Opening.{Opening}

-- the numbers of a piece just opened that has so many blocks, of which `payload` hold more than pad bytes
pub record FreshTallied (many payload : ℕ) (t : Tally) : Type 0 where
  pub is : (d : Picker) (i : ℕ) → many ≡ blocks_in_piece d i → payload ≡ payload_blocks_in_piece d i → IsTally t (fresh_partial d i)

-- ---- before
-- the rows are the live records, with room for one more; the partials rise by piece, and none is of piece i
pub record Vacant (s : Shape) (i live : ℕ) (rows : List ℕ) (records : List Record) (words cells : List ℕ) : Type 0 where
  pub works : Works s records words cells
  pub rising : partials_from 0 (decode records words cells).partials ≡ true
  pub vacant : partial_of (decode records words cells) i ≡ none
  pub count : live ≡ head_word words 7
  pub rows_are : take live records ≡ records_in live rows
  pub fits : live < length records

-- it is so with some records beside these words and cells
pub record VacantBeside (s : Shape) (i live : ℕ) (rows words cells : List ℕ) : Type 0 where
  pub records : List Record
  pub stands : Vacant s i live rows records words cells

-- ---- after
-- record k is live, of piece i at place p, its partial has these numbers, and the partials rise by piece
pub record Held (i p : ℕ) (t : Tally) (records : List Record) (words cells : List ℕ) : Type 0 where
  pub k : ℕ
  pub rising : partials_from 0 (decode records words cells).partials ≡ true
  pub low : k < head_word words 7
  pub index : (record_at records k).index ≡ i
  pub place : (record_at records k).info_idx ≡ p
  pub tally : IsTally t (partial_in (decode records words cells) k)

-- with the record put in, the picker and the draws went through `step`, and the partial of piece i stands
pub record Added (s : Shape) (step : Drawing → Drawing) (i live : ℕ) (rows words cells : List ℕ) (used : ℕ) (words' cells' : List ℕ)
    (r : Opening) : Type 0 where
  pub went : (records : List Record) → Vacant s i live rows records words cells
      → Went s step records words cells used (edited live (Insert r.partial) records) words' cells' r.used
  pub held : (records : List Record) → Vacant s i live rows records words cells
      → Held i r.partial.info_idx r.tally (edited live (Insert r.partial) records) words' cells'
