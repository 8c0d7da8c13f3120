-- `walk_list_back` meets its contract: what is left of the list is the whole of it. Assumes nothing.
use mathlib.Core.Path.{◌≡◌, sym, subst, ◌∙◌}
use Prim.Native.Nat.{ℕ, ◌-◌, ◌≤◌, ◌<◌}
use mathlib.Core.List.{List}
use lib.ListN.{take}
use native.Mathlib.Omega.{arith}
use borrow.Author.Rules.{rules}
use Rattle.model.specs.Lists.{nth, len, reversed}
use Rattle.model.specs.State.{list_of}
use Rattle.model.specs.pick.Pick.{reverse_rare_step}
use Rattle.memory_rows.specs.Lookup.{picker_in}
use Rattle.pick_state.specs.Requests.{request_of}
use Rattle.pick_visits.specs.Steps.{Counted}
use Rattle.pick_visits.proofs.StepLaws.{Going, going_start, going_next, going_stop, going_end, stepped_as}
use Rattle.pick_visits.proofs.VisitLaws.{counted_none, counted_then, counted_most}
use Rattle.pick_visits.proofs.ListLaws.{picks_words, place_bit, back_start, back_next, back_none, reverse_named, as_list_back}
use Rattle.pick_rarest.proofs.listed.walk_list_back.Given as goal

abbrev pub invariant-loop-k : goal.invariant-loop-k
invariant-loop-k l = (l.k ≤ l.n)
    × Going (reverse_rare_step (request_of l.q l.bytes)) (reversed (list_of (picker_in l.live l.rows l.words l.cells).listing))
    (reversed (take l.k (list_of (picker_in l.live l.rows l.words l.cells).listing))) (picker_in l.live l.rows l.words l.cells)
    l.initial.cur l.cur l.initial.out l.initial.aside l.initial.ignored l.initial.loops l.out l.aside l.ignored l.loops
    × Counted 2 (l.n - l.k) l.initial.loops l.loops
