-- `put8` meets its contract. Assumes nothing.
use mathlib.Core.Path.{refl}
use Rattle.image_bytes.proofs.PutLaws.{put_halves}
use Rattle.image_bytes.proofs.numbers.put8.Goals as goal

pub returns : goal.returns
returns c = put_halves _ 4 _ _ _ _ _ refl c.put4.ensures c.put4-2.ensures
