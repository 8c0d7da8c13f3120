-- `read1` meets its contract. Assumes nothing.
use Rattle.image_bytes.proofs.FieldLaws.{read_one}
use native.Mathlib.Omega.{arith}
use Rattle.image_bytes.proofs.reading.read1.Goals as goal

pub returns : goal.returns
returns c = read_one _ _ _ c.requires c.from.ensures (omega arith)
