-- A partial as it is told, and what its numbers are of the picker. Assumes nothing.
use Rattle.std.specs.Prelude.{ℕ, ◌<◌, ◌≡◌, List, [], ◌∷◌, length}
use Rattle.model.specs.Lists.{bit}
use Rattle.model.specs.ask.Questions.{Reply, plain, info}
use Rattle.memory_layout.specs.declared.shape.Shape.{Shape}
use Rattle.memory_layout.specs.Changes.{partial_in}
use Rattle.memory_rows.specs.Lookup.{LiveRows, picker_in}
use Rattle.check_partials.specs.Records.{CountsHeld}
use Rattle.ask_picker.specs.Asked.{Asked}
use Rattle.ask_partial.specs.declared.info.PieceInfo.{PieceInfo}

-- document 01's values of a `DownloadingPiece`, in the Rust's order
unfoldable pub info_numbers : (r : PieceInfo) → List ℕ
info_numbers r =
    r.index
    ∷ r.finished
    ∷ bit r.passed_hash_check ∷ r.writing ∷ bit r.locked ∷ r.requested ∷ bit r.hashing ∷ []

-- the answer that they are
unfoldable pub info_reply : (r : PieceInfo) → Reply
info_reply r = plain (info_numbers r)

-- the numbers are those of partial k, for any picker whose rows and counts stand there
pub record InfoSays (rows counts : List ℕ) (k : ℕ) (r : PieceInfo) : Type 0 where
  pub is : (s : Shape) (live : ℕ) (words cells : List ℕ) → LiveRows s live rows words cells
      → CountsHeld (picker_in live rows words cells) live counts → k < live
      → info_numbers r ≡ info (partial_in (picker_in live rows words cells) k)

-- a well-formed picker stands in the buffers, the rows are its live records, and the counts are those of its partials
pub record AskedCounts (s : Shape) (live : ℕ) (rows counts words cells : List ℕ) : Type 0 where
  pub asked : Asked s live rows words cells
  pub held : CountsHeld (picker_in live rows words cells) live counts
  pub wide : length counts ≡ 1536
