-- `take_all` meets its contract. Assumes nothing.
use Rattle.pick_runs.proofs.AllLaws.{AllRest, all_start, all_next, all_stop, all_end, all_flagged}
use Rattle.pick_runs.specs.Spans.{HasBlocks}
use Rattle.pick_state.specs.PickStates.{with_flags}
use Rattle.pick_state.specs.declared.numbers.PickNumbers.{PickNumbers}
use Rattle.model.specs.Lists.{set_nth}
use lib.ListN.{length, length-set}
use native.Mathlib.Omega.{arith}
use Prim.Native.Nat.{◌-◌}
use mathlib.Core.List.{[]}
use mathlib.Core.Path.{sym, ap, ◌∙◌}
use borrow.Author.Rules.{rules}
use Rattle.pick_runs.proofs.blocks.take_all.Given as goal

abbrev pub invariant-loop-j : goal.invariant-loop-j
invariant-loop-j l = AllRest (HasBlocks l.k l.n) l.k l.n l.j l.initial.cur l.cur l.initial.out l.out l.initial.loops l.loops
