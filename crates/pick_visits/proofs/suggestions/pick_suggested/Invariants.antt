-- `pick_suggested` meets its contract: what is left of the walk is the whole of it. Assumes nothing.
use Prim.Native.Nat.{◌+◌, ◌-◌, ◌≤◌}
use mathlib.Core.Path.{◌∙◌}
use native.Mathlib.Omega.{arith}
use lib.ListN.{length, get_or, drop}
use lib.IntN.{pos}
use borrow.Author.Rules.{rules}
use Rattle.types.specs.Piece.{number_of}
use Rattle.model.specs.Lists.{each}
use Rattle.model.specs.pick.Pick.{suggest}
use Rattle.memory_rows.specs.Lookup.{picker_in}
use Rattle.pick_state.specs.Requests.{request_of}
use Rattle.pick_visits.specs.Steps.{Counted}
use Rattle.pick_visits.proofs.StepLaws.{Going, going_start, going_next, going_stop, going_end}
use Rattle.pick_visits.proofs.VisitLaws.{counted_none, counted_then, counted_most, suggestions_next, suggestions_none, suggested_number}
use Rattle.pick_visits.proofs.suggestions.pick_suggested.Given as goal

abbrev pub invariant-loop-piece : goal.invariant-loop-piece
invariant-loop-piece l = (l.piece-index ≤ length l.suggestions)
    × Going (suggest (request_of l.q l.bytes)) (each number_of l.suggestions) (each number_of (drop l.piece-index l.suggestions)) (picker_in l.live l.rows l.words l.cells)
    l.initial.cur l.cur l.initial.out l.initial.aside l.initial.ignored l.initial.loops l.out l.aside l.ignored l.loops
    × Counted 1 l.piece-index l.initial.loops l.loops
