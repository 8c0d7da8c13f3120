-- `put_number` meets its contract. Assumes nothing.
use mathlib.Core.Path.{refl}
use Rattle.model.specs.image.Image.{bytes_of, number_record}
use Rattle.image_bytes.proofs.PutLaws.{put_as}
use Rattle.image_put.proofs.Chain.{kind_byte, put_before}
use borrow.Author.Rules.{rules}
use Rattle.image_put.proofs.put_number.Goals as goal

pub returns : goal.returns
unfolding number_record bytes_of
returns c = put_as _ _ _ _ _ (put_before _ _ _ _ _ _ _ c.put4.ensures refl c.put1.ensures) (kind_byte _ _ c.requires.kind_bound)
