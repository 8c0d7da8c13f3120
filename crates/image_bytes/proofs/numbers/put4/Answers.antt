-- `put4` meets its contract. Assumes nothing.
use mathlib.Core.Path.{refl}
use Rattle.image_bytes.proofs.PutLaws.{put_halves}
use Rattle.image_bytes.proofs.numbers.put4.Goals as goal

pub returns : goal.returns
returns c = put_halves _ 2 _ _ _ _ _ refl c.put2.ensures c.put2-2.ensures
