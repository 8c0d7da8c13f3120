-- `pull` meets its contract. The invariant: what is left to pull over the free place gives what is to be made. Assumes nothing.
use borrow.Author.Rules.{rules}
use mathlib.Core.Path.{refl}
use Prim.Native.Nat.{◌-◌, ◌+◌, suc}
use native.Mathlib.Omega.{arith}
use Rattle.list_moves.specs.Moves.{pulled}
use Rattle.list_groups.proofs.Searching.{rises_splits}
use Rattle.list_groups.proofs.Searching.{rises_within}
use Rattle.list_moves.proofs.Pulling.{Pulls, pulls_next, pulls_end}
use Rattle.list_moves.proofs.pull.Given as goal

abbrev pub invariant-loop-hole : goal.invariant-loop-hole
invariant-loop-hole l = Pulls l.last (pulled l.k l.last l.initial.list) l.initial.list l.list l.hole l.near

abbrev pub decreases-loop-hole : goal.decreases-loop-hole
decreases-loop-hole l = l.last - l.hole
