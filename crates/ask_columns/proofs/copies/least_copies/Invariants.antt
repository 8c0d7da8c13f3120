-- `least_copies` meets its contract: after each stretch it holds for the pieces so far. Assumes nothing.
use Prim.Native.Nat.{◌*◌}
use Rattle.ask_columns.specs.Copies.{LeastIn}
use Rattle.ask_columns.proofs.copies.least_copies.Given as goal

abbrev pub invariant-loop-k : goal.invariant-loop-k
invariant-loop-k l = LeastIn l.cells l.s.pieces (l.k * 128) l.least
