-- `fresh_blocks` meets its contract: the first j blocks are fresh. Assumes nothing.
use Prim.Native.Nat.{◌-◌, ◌≤◌}
use native.Mathlib.Omega.{arith}
use Rattle.memory_opening.specs.Opening.{Fresh}
use Rattle.memory_opening.proofs.FreshLaws.{fresh_start, fresh_span, fresh_next, fresh_end}
use borrow.Author.Rules.{rules}
use Rattle.memory_opening.proofs.fresh_blocks.Given as goal

abbrev pub invariant-loop-j : goal.invariant-loop-j
invariant-loop-j l = (l.j ≤ l.many) × Fresh l.s l.initial.cells l.cells l.p l.j l.payload
