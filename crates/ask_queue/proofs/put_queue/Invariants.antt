-- `put_queue` meets its contract: after j turns the partials of the first j places are there. Assumes nothing.
use Prim.Native.Nat.{◌-◌, ◌≤◌}
use Rattle.ask_queue.proofs.InfoRecords.{infos_start, infos_next, infos_end}
use Rattle.ask_queue.specs.Infos.{InfosPut}
use Rattle.model.specs.Lists.{nth}
use mathlib.Core.List.{[]}
use native.Mathlib.Omega.{arith}
use borrow.Author.Rules.{rules}
use Rattle.ask_queue.proofs.put_queue.Given as goal

abbrev pub invariant-loop-j : goal.invariant-loop-j
invariant-loop-j l = (l.j ≤ l.size) × InfosPut l.rows l.counts (nth [] l.queues l.q) l.n l.j l.initial.out l.out
