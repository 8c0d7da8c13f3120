-- `take_random_span` meets its contract. Assumes nothing.
use Rattle.pick_runs.proofs.AllLaws.{SpanRest, spans_start, spans_next, spans_end}
use Rattle.pick_new.proofs.RunLaws.{part_blocks}
use Rattle.pick_new.proofs.InLaws.{few_blocks}
use Rattle.pick_new.specs.Runs.{InWords}
use Rattle.model.specs.Lists.{nth}
use lib.ListN.{get_or}
use Prim.Native.Nat.{◌-◌}
use mathlib.Core.Bool.{false}
use mathlib.Core.Path.{◌∙◌}
use native.Mathlib.Omega.{arith}
use borrow.Author.Rules.{rules}
use Rattle.pick_runs.proofs.spans.take_random_span.Given as goal

abbrev pub invariant-loop-k : goal.invariant-loop-k
invariant-loop-k l = SpanRest (InWords l.s l.words) l.first l.end l.k l.s.blocks l.marks l.initial.cur l.cur l.initial.out l.out l.initial.ignored l.ignored l.initial.loops l.loops
