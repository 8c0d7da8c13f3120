-- `check_pieces::rows_pass` meets its contract. The loop's invariant: what is joined and what is left decide, and rows that pass have ranks.
use mathlib.Core.Path.{refl}
use Prim.Native.Nat.{◌-◌}
use native.Mathlib.Omega.{arith}
use lib.ListN.{length}
use Rattle.check_pieces.specs.Rows.{row_in, rank_in, joined_ok}
use Rattle.check_pieces.proofs.RowLaws.{ok_ranked}
use Rattle.check_pieces.proofs.Passes.{Passing, passing_start, row_passed, rows_end}
use borrow.Author.Rules.{rules}
use Rattle.check_pieces.proofs.pieces.rows_pass.Given as goal

abbrev pub invariant-loop-i : goal.invariant-loop-i
invariant-loop-i l = Passing (row_in l.seeds l.counts l.states l.priorities l.flushed) (rank_in l.seeds l.counts l.states l.priorities l.flushed) (length l.counts) (length l.initial.ranks)
    l.ranks (joined_ok l.sum) l.i
