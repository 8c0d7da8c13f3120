-- `piece_quad` meets its contract. Assumes nothing.
use mathlib.Core.Path.{◌∙◌}
use Rattle.image_lay_pieces.proofs.QuadLaws.{piece_quad}
use Rattle.image_lay_pieces.proofs.pieces.piece_quad.Goals as goal

pub returns : goal.returns
returns c = piece_quad _ _ _ _ _ _ _ c.read1-2.ensures c.read1-3.ensures c.read1-4.ensures
    (c.usize_to_u32.ensures ∙ c.u64_to_usize.ensures)
