-- `block_size` meets its contract. Assumes nothing.
use Rattle.model.specs.Bep3.{block_length}
use Rattle.geometry.proofs.blocks.block_size.Goals as goal

pub returns : goal.returns
unfolding block_length
returns c = c.min.ensures
