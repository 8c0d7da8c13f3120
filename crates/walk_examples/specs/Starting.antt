-- What the example of a change does: a record of a piece, put in where none is live, if one is lent. Assumes nothing.
use Rattle.std.specs.Prelude.{List, ℕ, zero, suc, length}
use Rattle.memory_records.specs.declared.record.DownloadingPiece.{DownloadingPiece}
use Rattle.memory_records.specs.declared.edits.Edit.{Edit}
use Rattle.memory_records.specs.declared.edits.Edit.TheVariants.{Keep, Insert}
use Rattle.memory_records.specs.Records.{edited}

-- nothing where no record is lent
abbrev pub start_edit : (lent a : ℕ) → Edit
start_edit zero a = Keep
start_edit (suc n) a = Insert record { index = a; info_idx = 0; flags = 0 }

abbrev pub started : (a : ℕ) (ds : List DownloadingPiece) → List DownloadingPiece
started a ds = edited 0 (start_edit (length ds) a) ds
