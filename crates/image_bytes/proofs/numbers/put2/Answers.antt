-- `put2` meets its contract. Assumes nothing.
use mathlib.Core.Path.{refl}
use Rattle.image_bytes.proofs.PutLaws.{put_halves}
use Rattle.image_bytes.proofs.numbers.put2.Goals as goal

pub returns : goal.returns
returns c = put_halves _ 1 _ _ _ _ _ refl c.put1.ensures c.put1-2.ensures
