-- `read_blocks` meets its contract: all blocks are well, or each is read by itself. Assumes nothing.
use mathlib.Core.Path.{subst}
use Rattle.image_pass.specs.Blocks.{BlocksWell}
use Rattle.image_partials.specs.Blocks.{BlocksJudged}
use Rattle.image_partials.proofs.blocks.read_blocks.Goals as goal

pub returns-in-Some : goal.returns-in-Some
unfolding BlocksJudged BlocksWell
returns-in-Some c = subst (BlocksWell c.args.start c.args.many c.args.bytes.now) c.in-Some.is c.pass_blocks.ensures
