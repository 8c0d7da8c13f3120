-- `busy_at` meets its contract. Assumes nothing.
use Rattle.types.specs.Peer.{named_peer}
use Rattle.pick_busy.proofs.BusyLaws.{busy_next, busy_all}
use Rattle.pick_busy.specs.Busy.{is_busy}
use Rattle.pick_append.proofs.RowLaws.{Gathered, gather_start}
use Rattle.memory_layout.specs.Decode.{block_held}
use lib.ListN.{length}
use native.Mathlib.Omega.{arith}
use mathlib.Core.Path.{◌≡◌}
use Prim.Native.Nat.{◌-◌}
use borrow.Author.Rules.{rules}
use Rattle.pick_busy.proofs.busy.busy_at.Given as goal

abbrev pub invariant-loop-j : goal.invariant-loop-j
invariant-loop-j l = Gathered (λ i. is_busy (named_peer l.q.has_peer l.q.peer) (block_held l.words l.cells l.s.pieces l.s.blocks l.place i)) l.many l.j l.n l.blocks
    × (length l.blocks ≡ 512)
