-- `rank_of` meets its contract: a rank has 16 bits. Assumes nothing.
use mathlib.Core.Path.{◌∙◌}
use Rattle.image_pieces.proofs.PieceLaws.{rank_numbers}
use Rattle.image_pieces.proofs.pieces.rank_of.Goals as goal

pub returns : goal.returns
returns c = λ p e. c.u64_to_u16.ensures ∙ c.rank.ensures.is p (rank_numbers p _ e)
