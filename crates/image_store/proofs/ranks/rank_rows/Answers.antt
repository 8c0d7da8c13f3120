-- `rank_rows` meets its contract. The loop's invariant: so many ranks are laid.
use Prim.Native.Nat.{◌-◌, ◌≤◌}
use native.Mathlib.Omega.{arith}
use lib.ListN.{length}
use Rattle.check_pieces.specs.Rows.{rank_in}
use Rattle.image_lay.specs.Laid.{Laid}
use Rattle.image_lay.proofs.LaidLaws.{laid_start, front_next, laid_end}
use borrow.Author.Rules.{rules}
use Rattle.image_store.proofs.ranks.rank_rows.Goals as goal

pub loop-i-init : goal.loop-i-init
loop-i-init c = (omega arith, laid_start _ _ _)

pub loop-i-preserved : goal.loop-i-preserved
unfolding rank_in
loop-i-preserved c = (
  omega arith,
  front_next c.loop-i.i _ _ _ c.loop-i.invariant.1 (omega (arith, c.requires.rows_ranked.1)) _ (c.rank_in.ensures (c.requires.rows_ranked.0 c.loop-i.i (omega arith))),
)

pub returns : goal.returns
returns c = laid_end _ c.loop-i.i _ _ _ _ c.loop-i.invariant.1 (omega arith)
