-- `read4` meets its contract. Assumes nothing.
use mathlib.Core.Path.{refl}
use Rattle.image_bytes.proofs.FieldLaws.{read_halves}
use Rattle.image_bytes.proofs.reading.read4.Goals as goal

pub returns : goal.returns
returns c = read_halves _ 2 _ _ _ _ c.requires c.read2.ensures c.read2-2.ensures refl
