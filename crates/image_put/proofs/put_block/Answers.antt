-- `put_block` meets its contract. Assumes nothing.
use mathlib.Core.Path.{refl}
use Rattle.model.specs.image.Image.{bytes_of}
use Rattle.image_put.proofs.Chain.{put_next, put_kind, put_before}
use Rattle.image_put.specs.Fields.{block_fields}
use borrow.Author.Rules.{rules}
use native.Mathlib.Omega.{arith}
use Rattle.image_put.proofs.put_block.Goals as goal

pub returns : goal.returns
unfolding block_fields bytes_of
returns c = put_before _ _ _ _ _ _ _ c.put8.ensures refl
    (put_kind _ _ _ _ _ _ (omega arith) c.put1.ensures
    (put_next _ 1 1 _ _ _ _ _ c.put1-2.ensures
    (put_next _ 2 2 _ _ _ _ _ c.put2.ensures
    c.put1-3.ensures)))
