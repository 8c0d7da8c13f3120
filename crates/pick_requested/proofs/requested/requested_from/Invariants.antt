-- `requested_from` meets its contract. Assumes nothing.
use Prim.Native.Nat.{◌-◌, ◌≤◌}
use native.Mathlib.Omega.{arith}
use Rattle.types.specs.Peer.{named_peer}
use Rattle.memory_layout.specs.Tables.{tabulate}
use Rattle.memory_layout.specs.Decode.{block_held}
use Rattle.pick_requested.proofs.RequestedLaws.{start_scan, Passing, pass_start, held_next, requested_is}
use mathlib.Core.Path.{◌≡◌, subst}
use borrow.Author.Rules.{rules}
use Rattle.pick_requested.proofs.requested.requested_from.Given as goal

abbrev pub invariant-loop-j : goal.invariant-loop-j
invariant-loop-j l = (l.j ≤ l.many) × Passing (named_peer l.q.has_peer l.q.peer) (tabulate l.many (block_held l.words l.cells l.s.pieces l.s.blocks l.place)) l.x l.j
