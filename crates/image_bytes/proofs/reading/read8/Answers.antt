-- `read8` meets its contract. Assumes nothing.
use mathlib.Core.Path.{refl}
use Rattle.image_bytes.proofs.FieldLaws.{read_pairs}
use Rattle.image_bytes.proofs.reading.read8.Goals as goal

pub returns : goal.returns
returns c = read_pairs _ _ _ _ _ _ _ c.requires c.read2.ensures c.read2-2.ensures
    c.read2-3.ensures c.read2-4.ensures refl
