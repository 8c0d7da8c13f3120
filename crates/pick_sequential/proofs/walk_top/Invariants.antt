-- `walk_top` meets its contract: what is left of the walk is the whole of it. Assumes nothing.
use mathlib.Core.Path.{sym, ◌∙◌}
use Prim.Native.Nat.{◌+◌, ◌-◌, ◌<◌}
use lib.ListN.{drop}
use borrow.Author.Tests.{eq-eqb, ne_eqb}
use native.Mathlib.Omega.{arith}
use borrow.Author.Rules.{rules}
use Rattle.model.specs.Lists.{nth, len}
use Rattle.model.specs.State.{list_of, piece_at}
use Rattle.model.specs.Options.{prio_sequential_pieces}
use Rattle.model.specs.pick.Pick.{visit, leading_top}
use Rattle.memory_rows.specs.Lookup.{picker_in}
use Rattle.pick_state.specs.Requests.{request_of}
use Rattle.pick_visits.proofs.StepLaws.{GoingBeside, beside_start, beside_next, beside_stop, beside_end, stepped_lengths, beside_lengths}
use Rattle.pick_visits.proofs.VisitLaws.{picks_say}
use Rattle.pick_visits.proofs.ListLaws.{picks_words, place_piece, place_bit, top_next, top_stop, top_none, as_top}
use Rattle.pick_sequential.proofs.walk_top.Given as goal

abbrev pub invariant-loop-k : goal.invariant-loop-k
invariant-loop-k l = GoingBeside (visit (request_of l.q l.bytes) prio_sequential_pieces)
    (leading_top (picker_in l.live l.rows l.words l.cells) (list_of (picker_in l.live l.rows l.words l.cells).listing))
    (leading_top (picker_in l.live l.rows l.words l.cells) (drop l.k (list_of (picker_in l.live l.rows l.words l.cells).listing))) (picker_in l.live l.rows l.words l.cells)
    l.initial.cur l.cur l.initial.out l.initial.aside l.initial.ignored l.out l.aside l.ignored
