-- `pass_blocks` meets its contract. Assumes nothing.
use Prim.{tt}
use Rattle.image_pass.specs.Blocks.{BlocksWell}
use Rattle.image_pass.proofs.pass.pass_blocks.Goals as goal

pub returns-then-bytes-start : goal.returns-then-bytes-start
unfolding BlocksWell
returns-then-bytes-start c = tt
