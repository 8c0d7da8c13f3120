-- `counted` meets its contract: what is counted of the first i pieces and what is left give the whole. Assumes nothing.
use borrow.Author.Rules.{rules}
use Prim.Native.Nat.{◌*◌, ◌≤◌}
use native.Mathlib.Omega.{arith}
use Rattle.model.proofs.base.Counts.{bit_le}
use Rattle.memory_rows.specs.Lookup.{picker_in}
use Rattle.ask_picker.proofs.AskedLaws.{asked_queues, asked_rise}
use Rattle.ask_totals.specs.Totals.{tested, included}
use Rattle.ask_totals.proofs.CountLaws.{Counting, counting_start}
use Rattle.ask_totals.proofs.TotalLaws.{asked_low, total_next, pads_room, total_end}
use Rattle.ask_totals.proofs.count.counted.Given as goal

abbrev pub invariant-loop-i : goal.invariant-loop-i
invariant-loop-i l = Counting (picker_in l.live l.rows l.words l.cells) (tested (included l.kinds) (picker_in l.live l.rows l.words l.cells)) l.i l.num l.pads l.last
