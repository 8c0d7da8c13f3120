-- How far a search comes that passes over several records at a time. Assumes nothing.
use Rattle.std.specs.Prelude.{ℕ, ◌<◌, ◌≤◌, List, get_or}
use Rattle.memory_records.specs.declared.record.DownloadingPiece.{DownloadingPiece}
use Rattle.memory_records.specs.Records.{no_record}

-- r is among the first n places, and the records before it are of lower pieces
abbrev pub Skipped : (n piece : ℕ) (ds : List DownloadingPiece) (r : ℕ) → Type 0
Skipped n piece ds r = (r ≤ n) × ((k : ℕ) → k < r → (get_or ds k no_record).index < piece)
