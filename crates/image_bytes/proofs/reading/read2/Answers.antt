-- `read2` meets its contract. Assumes nothing.
use mathlib.Core.Path.{refl}
use Rattle.image_bytes.proofs.FieldLaws.{read_halves}
use Rattle.image_bytes.proofs.reading.read2.Goals as goal

pub returns : goal.returns
returns c = read_halves _ 1 _ _ _ _ c.requires c.read1.ensures c.read1-2.ensures refl
