-- `full_partials` meets its contract. Assumes nothing.
use Rattle.pick_busy.proofs.FullLaws.{full_at, full_next, full_end, full_cut, full_whole}
use Rattle.pick_append.proofs.RowLaws.{Gathered, gather_start}
use Rattle.memory_queues.proofs.StandLaws.{state_range}
use lib.ListN.{length}
use native.Mathlib.Omega.{arith}
use mathlib.Core.Path.{◌≡◌}
use Prim.Native.Nat.{◌-◌}
use borrow.Author.Rules.{rules}
use Rattle.pick_busy.proofs.full.full_partials.Given as goal

abbrev pub invariant-loop-k : goal.invariant-loop-k
invariant-loop-k l = Gathered (full_at l.s l.rows l.cells l.q l.bytes) l.live l.k l.n l.places × (length l.places ≡ 512)
