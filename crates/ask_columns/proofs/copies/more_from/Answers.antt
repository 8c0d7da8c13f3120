-- `more_from` meets its contract: after k turns it holds for the first k pieces of the stretch. Assumes nothing.
use mathlib.Core.Path.{◌≡◌, refl, ap, ◌∙◌}
use Prim.Native.Nat.{ℕ, ◌+◌, ◌-◌, ◌≤◌}
use native.Mathlib.Omega.{arith}
use borrow.Author.Rules.{rules}
use lib.Dec.{ltb}
use Rattle.model.specs.Lists.{count}
use Rattle.memory_layout.specs.Tables.{tabulate}
use Rattle.ask_columns.specs.Copies.{least_of, copies_from}
use Rattle.ask_columns.proofs.LeastLaws.{more_next, more_few}
use Rattle.ask_columns.proofs.copies.more_from.Goals as goal

pub loop-k-init : goal.loop-k-init
unfolding copies_from tabulate least_of count
loop-k-init c = (omega arith, refl)

pub overflow_add-more : goal.overflow_add-more
overflow_add-more c = let e = more_next _ _ _ _ c.loop-k.k _ _ c.loop-k.invariant.1 c.copies_at.ensures in
    omega (
      arith,
      e,
      c.above-more.ensures,
      more_few c.args.cells.now c.args.s.pieces c.args.i c.args.lowest (c.loop-k.k + 1),
      c.loop-k-test,
      c.requires.cells_span.sizes.many,
      c.requires.many_bound,
    )

pub loop-k-preserved : goal.loop-k-preserved
loop-k-preserved c = (omega (arith, c.loop-k-test), ap (λ (x : ℕ). c.loop-k.more + x) c.above-more.ensures ∙ more_next _ _ _ _ c.loop-k.k _ _ c.loop-k.invariant.1 c.copies_at.ensures)
