-- `payload_blocks_in_piece` meets its contract. Assumes nothing.
use mathlib.Core.Path.{ap, ◌∙◌}
use native.Mathlib.Omega.{arith}
use borrow.Author.Rules.{rules}
use Rattle.model.specs.Bep3.{block_length}
use Rattle.memory_layout.proofs.OffsetLaws.{head_in}
use Rattle.ask_piece.proofs.PieceLaws.{block_long, payload_says}
use Rattle.ask_piece.proofs.lengths.payload_blocks_in_piece.Goals as goal

pub head_word-requires : goal.head_word-requires
head_word-requires c = record {
  in_bounds = head_in c.args.s c.args.words.now c.requires.words_span;
  k_bound = omega arith;
}

pub nonzero_div-pads : goal.nonzero_div-pads
nonzero_div-pads c = omega (
  arith,
  block_long c.args.s c.args.words.now c.args.i c.requires.shape_of c.requires.i_lt_pieces,
  c.block_size.ensures ∙ ap block_length c.head_word.ensures,
)

pub returns : goal.returns
returns c = payload_says c.args.s c.args.words.now c.args.i _ _ _ _ c.blocks_in_piece-blocks.ensures c.pad_bytes-pad.ensures
    (c.block_size.ensures ∙ ap block_length c.head_word.ensures) c.saturating_sub.ensures
