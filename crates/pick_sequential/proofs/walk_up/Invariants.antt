-- `walk_up` meets its contract: what is left of the range is the whole of it. Assumes nothing.
use mathlib.Core.Path.{◌≡◌, sym, subst, ◌∙◌}
use Prim.Native.Nat.{ℕ, ◌+◌, ◌-◌}
use native.Mathlib.Omega.{arith}
use borrow.Author.Rules.{rules}
use Rattle.model.specs.Lists.{range}
use Rattle.model.specs.Options.{sequential_pieces}
use Rattle.model.specs.pick.Pick.{visit_below_top}
use Rattle.memory_rows.specs.Lookup.{picker_in}
use Rattle.pick_state.specs.Requests.{request_of}
use Rattle.pick_state.proofs.RangeLaws.{range_next, range_none}
use Rattle.pick_visits.proofs.StepLaws.{GoingBeside, beside_start, beside_next, beside_stop, beside_end, stepped_lengths, beside_lengths}
use Rattle.pick_visits.proofs.ListLaws.{picks_head, picks_cursors, as_up}
use Rattle.pick_sequential.proofs.walk_up.Given as goal

abbrev pub invariant-loop-i : goal.invariant-loop-i
invariant-loop-i l = GoingBeside (visit_below_top (request_of l.q l.bytes) sequential_pieces)
    (range (picker_in l.live l.rows l.words l.cells).cursor (picker_in l.live l.rows l.words l.cells).reverse_cursor)
    (range l.i (picker_in l.live l.rows l.words l.cells).reverse_cursor) (picker_in l.live l.rows l.words l.cells)
    l.initial.cur l.cur l.initial.out l.initial.aside l.initial.ignored l.out l.aside l.ignored
