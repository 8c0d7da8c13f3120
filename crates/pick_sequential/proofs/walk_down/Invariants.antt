-- `walk_down` meets its contract: what is left of the range is the whole of it. Assumes nothing.
use mathlib.Core.Path.{◌≡◌, sym, subst, ◌∙◌}
use Prim.Native.Nat.{ℕ, ◌-◌, ◌≤◌}
use native.Mathlib.Omega.{arith}
use borrow.Author.Rules.{rules}
use Rattle.model.specs.Lists.{range_down}
use Rattle.model.specs.Options.{reverse_sequential}
use Rattle.model.specs.pick.Pick.{visit_below_top}
use Rattle.memory_rows.specs.Lookup.{picker_in}
use Rattle.pick_state.specs.Requests.{request_of}
use Rattle.pick_visits.proofs.StepLaws.{GoingBeside, beside_start, beside_next, beside_stop, beside_end, stepped_lengths, beside_lengths}
use Rattle.pick_visits.proofs.ListLaws.{picks_head, picks_cursors, down_next, down_none, as_down}
use Rattle.pick_sequential.proofs.walk_down.Given as goal

abbrev pub invariant-loop-i : goal.invariant-loop-i
invariant-loop-i l = (l.i ≤ l.s.pieces)
    × GoingBeside (visit_below_top (request_of l.q l.bytes) reverse_sequential)
    (range_down (picker_in l.live l.rows l.words l.cells).cursor (picker_in l.live l.rows l.words l.cells).reverse_cursor)
    (range_down (picker_in l.live l.rows l.words l.cells).cursor l.i) (picker_in l.live l.rows l.words l.cells)
    l.initial.cur l.cur l.initial.out l.initial.aside l.initial.ignored l.out l.aside l.ignored
