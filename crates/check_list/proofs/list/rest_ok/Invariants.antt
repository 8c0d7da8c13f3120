-- `check_pieces::rest_ok` meets its contract. The loop's invariant: the places from `start` to k pass. Assumes nothing.
use Prim.Native.Nat.{◌-◌}
use native.Mathlib.Omega.{arith}
use Rattle.check_list.proofs.WalkLaws.{Walking, walking_start, walking_next, walking_stop, walking_end}
use borrow.Author.Rules.{rules}
use Rattle.check_list.proofs.list.rest_ok.Given as goal

abbrev pub invariant-loop-k : goal.invariant-loop-k
invariant-loop-k l = Walking l.n l.list l.start l.many l.least l.initial.ranks l.ranks l.last l.k
