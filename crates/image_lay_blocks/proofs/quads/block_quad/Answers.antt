-- `block_quad` meets its contract. Assumes nothing.
use mathlib.Core.Path.{◌∙◌}
use Rattle.image_lay_blocks.proofs.QuadLaws.{block_quad}
use Rattle.image_lay_blocks.proofs.quads.block_quad.Goals as goal

pub returns : goal.returns
returns c = block_quad _ _ _ _ _ _ c.read1.ensures c.read2.ensures c.read1-2.ensures
    (c.usize_to_u32.ensures ∙ c.u64_to_usize.ensures)
