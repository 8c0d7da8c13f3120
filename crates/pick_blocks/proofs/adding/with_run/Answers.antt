-- `with_run` meets its contract. Assumes nothing.
use Rattle.pick_blocks.specs.Blocks.{with_run}
use mathlib.Core.Path.{refl}
use Rattle.pick_blocks.proofs.adding.with_run.Goals as goal

pub returns : goal.returns
unfolding with_run
returns c = refl
