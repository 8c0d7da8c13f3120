-- `count_steps` meets its contract. Assumes nothing.
use Prim.Native.Nat.{ℕ, ◌+◌}
use Rattle.model.specs.Lists.{nth, set_nth}
use native.Mathlib.Omega.{arith}
use mathlib.Core.Path.{ap}
use borrow.Author.Rules.{rules}
use Rattle.pick_partials.proofs.phase.count_steps.Goals as goal

pub overflow_add-loops : goal.overflow_add-loops
unfolding nth
overflow_add-loops c = omega (arith, c.requires.1, c.requires.2, c.usize_to_u64.ensures)

pub returns : goal.returns
unfolding nth set_nth
returns c = ap (λ (n : ℕ). set_nth c.args.counter (nth 0 c.args.loops.now c.args.counter + n) c.args.loops.now) c.usize_to_u64.ensures
