-- `check_pieces::rows_pass` meets its contract. The loop's invariant: what is joined and what is left decide, and rows that pass have ranks.
use mathlib.Core.Path.{refl}
use Prim.Native.Nat.{◌-◌}
use native.Mathlib.Omega.{arith}
use lib.ListN.{length}
use Rattle.check_pieces.specs.Rows.{row_in, rank_in, joined_ok}
use Rattle.check_pieces.proofs.RowLaws.{ok_ranked}
use Rattle.check_pieces.proofs.Passes.{Passing, passing_start, row_passed, rows_end}
use borrow.Author.Rules.{rules}
use Rattle.check_pieces.proofs.pieces.rows_pass.Goals as goal

pub loop-i-init : goal.loop-i-init
unfolding joined_ok
loop-i-init c = passing_start _ _ _ _ c.requires.seeds_bound.1 _ refl

pub join-sum-requires : goal.join-sum-requires
join-sum-requires c = c.requires.seeds_bound.0

pub loop-i-preserved : goal.loop-i-preserved
unfolding row_in rank_in
loop-i-preserved c = row_passed _ _ _ _ _ (joined_ok c.loop-i.sum) c.loop-i.i c.loop-i.invariant (omega arith) (joined_ok c.join-sum.result)
    c.rank_in.result c.join-sum.ensures (λ t. c.rank_in.ensures (ok_ranked _ _ _ _ _ t))

pub returns : goal.returns
returns c = rows_end _ _ _ _ _ (joined_ok c.loop-i.sum) c.loop-i.i c.loop-i.invariant (omega arith) _
    c.joined_ok.ensures
