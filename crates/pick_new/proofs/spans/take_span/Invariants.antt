-- `take_span` meets its contract. Assumes nothing.
use mathlib.Core.Path.{◌∙◌}
use Rattle.pick_new.proofs.RunLaws.{RunRest, run_start, part_blocks, span_next, span_end}
use Rattle.pick_new.specs.Runs.{InWords}
use Rattle.model.specs.pick.Blocks.{take_payload, take_span}
use Rattle.model.specs.Lists.{range}
use mathlib.Core.List.{List, []}
use Prim.Native.Nat.{ℕ, ◌-◌, ◌*◌, ◌≤◌}
use native.Mathlib.Omega.{arith}
use borrow.Author.Rules.{rules}
use Rattle.pick_new.proofs.spans.take_span.Given as goal

abbrev pub invariant-loop-k : goal.invariant-loop-k
invariant-loop-k l = (l.first ≤ l.k) × (l.k ≤ l.end) × ((loops : List ℕ) → RunRest (InWords l.s l.words) (take_span take_payload (range l.first l.end)) (take_span take_payload (range l.k l.end))
    ((l.k - l.first) * l.s.blocks) l.initial.cur l.cur l.initial.out l.out l.initial.ignored l.ignored loops loops)
