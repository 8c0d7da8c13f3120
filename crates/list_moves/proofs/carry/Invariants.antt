-- `carry` meets its contract. The invariant: what is left to carry from k on gives what is to be made. Assumes nothing.
use borrow.Author.Rules.{rules}
use mathlib.Core.Path.{refl}
use Prim.Native.Nat.{◌-◌}
use native.Mathlib.Omega.{arith}
use lib.ListN.{set, length-set}
use Rattle.list_moves.specs.Moves.{carried}
use Rattle.list_groups.proofs.Searching.{rises_splits}
use Rattle.list_moves.proofs.Carrying.{Carries, rises_behind, carries_come, carries_next, carries_end}
use Rattle.list_moves.proofs.carry.Given as goal

abbrev pub invariant-loop-k : goal.invariant-loop-k
invariant-loop-k l = Carries l.end (carried l.from l.end l.first l.initial.list) l.initial.list l.list l.held l.k l.near

abbrev pub decreases-loop-k : goal.decreases-loop-k
decreases-loop-k l = l.end - l.k
