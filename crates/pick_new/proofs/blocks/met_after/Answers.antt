-- `met_after` meets its contract. Assumes nothing.
use mathlib.Core.Path.{ap}
use mathlib.Core.Bool.{◌&&◌}
use Prim.Native.Nat.{ℕ, ◌+◌}
use lib.Dec.{eqb}
use borrow.Author.Rules.{rules}
use Rattle.model.specs.pick.Blocks.{contiguous_is_zero}
use Rattle.pick_state.specs.PickStates.{contiguous_of}
use Rattle.pick_new.specs.Taken.{taken_numbers}
use Rattle.pick_new.proofs.blocks.met_after.Goals as goal

pub returns : goal.returns
unfolding taken_numbers contiguous_of contiguous_is_zero
returns c = ap (λ (m : ℕ). eqb c.args.t.asked (c.args.t.given + c.args.n) && eqb m 0) c.saturating_sub-left.ensures
