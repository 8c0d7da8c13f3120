-- `visit_extent` meets its contract: what is left of the extent is the whole of it. Assumes nothing.
use mathlib.Core.Path.{◌∙◌}
use Prim.Native.Nat.{◌+◌, ◌-◌}
use native.Mathlib.Omega.{arith}
use borrow.Author.Rules.{rules}
use Rattle.model.specs.Lists.{range}
use Rattle.memory_rows.specs.Lookup.{picker_in}
use Rattle.pick_state.specs.Requests.{request_of}
use Rattle.model.specs.Options.{extent_affinity}
use Rattle.model.specs.pick.Pick.{visit_outside}
use Rattle.pick_state.proofs.RangeLaws.{range_next, range_none}
use Rattle.pick_visits.proofs.StepLaws.{GoingBeside, beside_start, beside_next, beside_stop, beside_end, stepped_lengths, beside_lengths}
use Rattle.pick_extents.proofs.visit_extent.Given as goal

abbrev pub invariant-loop-i : goal.invariant-loop-i
invariant-loop-i l = GoingBeside (visit_outside (request_of l.q l.bytes) extent_affinity) (range l.first l.end) (range l.i l.end) (picker_in l.live l.rows l.words l.cells)
    l.initial.cur l.cur l.initial.out l.initial.aside l.initial.ignored l.out l.aside l.ignored
