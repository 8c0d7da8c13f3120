-- `put1` meets its contract. Assumes nothing.
use Rattle.image_bytes.proofs.PutLaws.{put_byte}
use Rattle.image_bytes.proofs.numbers.put1.Goals as goal

pub returns : goal.returns
returns c = put_byte _ _ _ _ c.requires c.low_byte.ensures
