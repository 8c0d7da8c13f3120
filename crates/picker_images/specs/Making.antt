-- The core of a call that makes a picker or takes its image sees the number of records lent, or rows in their place: what it says is said
-- of all records that these are. Assumes nothing.
use Rattle.std.specs.Prelude.{◌≡◌, List, ℕ, ◌≤◌, ℤ, length}
use Rattle.std.proofs.Math.Option.{Option}
use Rattle.types.specs.declared.refusal.Refusal.{Refusal}
use Rattle.memory_records.specs.declared.record.DownloadingPiece.{DownloadingPiece as Record}
use Rattle.picker_calls.specs.Cores.{lending}
use Rattle.memory_records.specs.Rows.{rows_of, packed}
use Rattle.picker_calls.specs.Starting.{NewCalled, ReadCalled, Written, ImageCalled}

-- with any records, so many of them, `new` is done once words and cells are these: the records stay
pub record NewDone (words cells : List ℕ) (lent : ℕ) (total_size piece_size : ℤ) (words' cells' : List ℕ) (r : Option Refusal) : Type 0 where
  pub done : (partials : List Record) → length partials ≡ lent
      → NewCalled (lending words cells partials) total_size piece_size (lending words' cells' partials) r

-- with any records, so many of them, an image is read once words and cells are these and so many rows are put into the first records
pub record ReadDone (words cells : List ℕ) (lent : ℕ) (bytes words' cells' rows' : List ℕ) (r : Option Refusal) (count : ℕ) : Type 0 where
  pub fits : (partials : List Record) → length partials ≡ lent → (count ≤ 512) × (count ≤ length partials)
  pub done : (partials : List Record) → length partials ≡ lent
      → ReadCalled (lending words cells partials) bytes (lending words' cells' (packed count rows' partials)) r

-- with any records that the rows are, the image is taken, or it is refused, once the bytes are these
pub record ImageDone (words cells rows : List ℕ) (lent : ℕ) (before after : List ℕ) (r : Written) : Type 0 where
  pub done : (partials : List Record) → length partials ≡ lent → rows ≡ rows_of words partials
      → ImageCalled (lending words cells partials) before after r
