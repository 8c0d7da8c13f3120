-- `store_partials` meets its contract. The loop's invariant: the partials of the pieces so far are stored, and the others are left.
use mathlib.Core.Path.{◌∙◌}
use Prim.Native.Nat.{◌-◌}
use native.Mathlib.Omega.{arith}
use Rattle.image_store.proofs.StoreLaws.{begun_on, Walked, walked_start, walked_next, walked_end}
use borrow.Author.Rules.{rules}
use Rattle.image_store.proofs.partials.store_partials.Goals as goal

pub loop-i-init : goal.loop-i-init
loop-i-init c = walked_start _ _ _ _ _ _ c.requires.begun.0

pub pass_piece-w-requires : goal.pass_piece-w-requires
pass_piece-w-requires c = record {
  begun = (begun_on _ _ _ _ _ _ _ c.requires.begun.0 c.loop-i.invariant.moved, c.requires.begun.1);
  storing = (c.loop-i.invariant.storing, omega arith);
  rows_len = c.loop-i.invariant.rows_long ∙ c.requires.rows_len;
}

pub loop-i-preserved : goal.loop-i-preserved
loop-i-preserved c = walked_next _ _ _ _ _ _ _ _ _ _ _ _ _ _ _ c.loop-i.invariant c.pass_piece-w.ensures

pub returns : goal.returns
returns c = walked_end _ _ _ _ _ _ _ _ _ _ _ c.requires.begun.0 c.loop-i.invariant (omega arith)
