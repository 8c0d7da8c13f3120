-- `walk_list` meets its contract: what is left of the list is the whole of it. Assumes nothing.
use mathlib.Core.Path.{◌∙◌}
use Prim.Native.Nat.{◌+◌, ◌-◌, ◌≤◌, ◌<◌}
use lib.ListN.{drop}
use native.Mathlib.Omega.{arith}
use borrow.Author.Rules.{rules}
use Rattle.model.specs.Lists.{nth, len}
use Rattle.model.specs.State.{list_of}
use Rattle.model.specs.pick.Pick.{rare_step}
use Rattle.memory_rows.specs.Lookup.{picker_in}
use Rattle.pick_state.specs.Requests.{request_of}
use Rattle.pick_visits.specs.Steps.{Counted}
use Rattle.pick_visits.proofs.StepLaws.{Going, going_start, going_next, going_stop, going_end, stepped_as}
use Rattle.pick_visits.proofs.VisitLaws.{counted_none, counted_then, counted_most}
use Rattle.pick_visits.proofs.ListLaws.{picks_words, place_bit, drop_next, drop-none, rare_named, as_list}
use Rattle.pick_rarest.proofs.listed.walk_list.Given as goal

abbrev pub invariant-loop-k : goal.invariant-loop-k
invariant-loop-k l = (l.k ≤ l.n)
    × Going (rare_step (request_of l.q l.bytes)) (list_of (picker_in l.live l.rows l.words l.cells).listing)
    (drop l.k (list_of (picker_in l.live l.rows l.words l.cells).listing)) (picker_in l.live l.rows l.words l.cells)
    l.initial.cur l.cur l.initial.out l.initial.aside l.initial.ignored l.initial.loops l.out l.aside l.ignored l.loops
    × Counted 3 l.k l.initial.loops l.loops
