-- `put_partial` meets its contract. Assumes nothing.
use Rattle.image_put.proofs.Chain.{put_next, put_kind}
use Rattle.image_put.specs.Fields.{partial_fields}
use native.Mathlib.Omega.{arith}
use borrow.Author.Rules.{rules}
use Rattle.image_put.proofs.put_partial.Goals as goal

pub returns : goal.returns
unfolding partial_fields
returns c = put_kind _ _ _ _ _ _ (omega arith) c.put1.ensures
    (put_next _ 1 4 _ _ _ _ _ c.put4.ensures
    c.put1-2.ensures)
