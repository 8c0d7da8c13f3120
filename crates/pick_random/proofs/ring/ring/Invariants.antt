-- `ring` meets its contract: what is left of its turns is the whole of them. Assumes nothing.
use mathlib.Core.Path.{sym, ◌∙◌}
use native.Mathlib.Omega.{arith}
use borrow.Author.Rules.{rules}
use borrow.Author.Tests.{not-true, not-false}
use Rattle.model.specs.pick.Pick.{ring_fuel}
use Rattle.memory_rows.specs.Lookup.{picker_in}
use Rattle.pick_state.specs.Requests.{request_of}
use Rattle.pick_blocks.proofs.AddingLaws.{picks_in}
use Rattle.pick_runs.specs.Spans.{marks}
use Rattle.pick_visits.proofs.VisitLaws.{picks_sound}
use Rattle.pick_walk.proofs.TellLaws.{cells_pieces}
use Rattle.pick_lap.proofs.VisitLaws.{in_cells}
use Rattle.pick_random.proofs.RingRest.{RingRest, turns_from, begun-work, begun_underway, rings_start, rings_starts, rings_lapping}
use Rattle.pick_random.proofs.RingRest.{rings_less, rings_next, rings_counted, rings_end, rings_named}
use Rattle.pick_random.proofs.ring.ring.Given as goal

abbrev pub invariant-loop-s : goal.invariant-loop-s
invariant-loop-s l = RingRest ring_fuel (request_of l.q l.bytes) l.start l.s (picker_in l.live l.rows l.words l.cells) l.initial.x.work l.x l.initial.out l.initial.aside l.initial.ignored l.initial.loops l.out l.aside l.ignored l.loops

abbrev pub decreases-loop-s : goal.decreases-loop-s
decreases-loop-s l = turns_from ring_fuel (request_of l.q l.bytes) l.start (marks l.initial.ignored) (picker_in l.live l.rows l.words l.cells) l.initial.x.work l.x l.out l.aside l.ignored l.loops
