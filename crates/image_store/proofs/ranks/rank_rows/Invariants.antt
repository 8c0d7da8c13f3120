-- `rank_rows` meets its contract. The loop's invariant: so many ranks are laid.
use Prim.Native.Nat.{◌-◌, ◌≤◌}
use native.Mathlib.Omega.{arith}
use lib.ListN.{length}
use Rattle.check_pieces.specs.Rows.{rank_in}
use Rattle.image_lay.specs.Laid.{Laid}
use Rattle.image_lay.proofs.LaidLaws.{laid_start, front_next, laid_end}
use borrow.Author.Rules.{rules}
use Rattle.image_store.proofs.ranks.rank_rows.Given as goal

abbrev pub invariant-loop-i : goal.invariant-loop-i
invariant-loop-i l = (l.i ≤ length l.counts) × Laid 0 l.i (rank_in l.seeds l.counts l.states l.priorities l.flushed) l.initial.ranks l.ranks
