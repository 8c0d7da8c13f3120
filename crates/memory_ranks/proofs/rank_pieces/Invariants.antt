-- `rank_pieces` meets its contract. The invariant: the first i numbers are ranks. Assumes nothing.
use Prim.Native.Nat.{◌-◌}
use native.Mathlib.Omega.{arith}
use borrow.Author.Rules.{rules}
use Rattle.memory_ranks.proofs.Ranking.{Filling, filling_start, filling_next, filling_end}
use Rattle.memory_ranks.proofs.rank_pieces.Given as goal

abbrev pub invariant-loop-i : goal.invariant-loop-i
invariant-loop-i l = Filling l.s l.words l.cells l.i l.initial.ranks l.ranks
