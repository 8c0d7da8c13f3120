-- `shape_of` meets its contract, by what a valid geometry says. Assumes nothing.
use mathlib.Core.Path.{◌∙◌}
use Rattle.memory_layout.specs.Decode.{head_word}
use Rattle.memory_layout.proofs.Geometry.{shape_is}
use borrow.Author.Rules.{rules}
use Rattle.memory_layout.proofs.shape.shape_of.Goals as goal

pub returns : goal.returns
unfolding head_word
returns c = shape_is _ _ c.requires.words_value
    (c.u64_to_usize-pieces.ensures ∙ c.num_pieces.ensures)
    (c.u64_to_usize-blocks.ensures ∙ c.blocks_per_piece.ensures)
    c.min-places.ensures
