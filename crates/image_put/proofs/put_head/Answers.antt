-- `put_head` meets its contract. Assumes nothing.
use Rattle.image_put.proofs.Chain.{put_next, put_kind}
use Rattle.image_put.specs.Fields.{head_fields}
use native.Mathlib.Omega.{arith}
use borrow.Author.Rules.{rules}
use Rattle.image_put.proofs.put_head.Goals as goal

pub returns : goal.returns
unfolding head_fields
returns c = put_kind 0 _ _ _ _ _ (omega arith) c.put1.ensures
    (put_next 0 1 8 _ _ _ _ _ c.put8.ensures
    (put_next 0 9 4 _ _ _ _ _ c.put4.ensures
    (put_next 0 13 2 _ _ _ _ _ c.put2.ensures
    (put_next 0 15 4 _ _ _ _ _ c.put4-2.ensures
    (put_next 0 19 4 _ _ _ _ _ c.put4-3.ensures
    c.put1-2.ensures)))))
