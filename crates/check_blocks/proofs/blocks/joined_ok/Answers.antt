-- `joined_ok` meets its contract: the tests are those of the definition. Assumes nothing.
use mathlib.Core.Path.{refl}
use Rattle.check_blocks.specs.Rows.{joined_ok}
use Rattle.check_blocks.proofs.blocks.joined_ok.Goals as goal

pub returns : goal.returns
unfolding joined_ok
returns c = refl
