-- `hashing` meets its contract. Assumes nothing.
use Rattle.memory_records.specs.declared.record.DownloadingPiece.{DownloadingPiece as Record}
use mathlib.Core.Path.{ap}
use Rattle.model.specs.Bep3.{bit_of}
use Rattle.change_tally.proofs.hashing.Goals as goal

pub returns : goal.returns
unfolding bit_of
returns c = ap (λ (r : Record). bit_of r.flags 2) c.row-record.ensures
