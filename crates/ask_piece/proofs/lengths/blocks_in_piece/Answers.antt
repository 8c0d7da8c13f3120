-- `blocks_in_piece` meets its contract. Assumes nothing.
use mathlib.Core.Path.{ap, ◌∙◌}
use native.Mathlib.Omega.{arith}
use borrow.Author.Rules.{rules}
use Rattle.model.specs.State.{blocks_in_piece}
use Rattle.model.specs.ask.Questions.{reply_piece, one}
use Rattle.memory_layout.proofs.OffsetLaws.{head_in}
use Rattle.ask_piece.proofs.PieceLaws.{piece_there}
use Rattle.ask_piece.proofs.lengths.blocks_in_piece.Goals as goal

pub head_word-requires : goal.head_word-requires
head_word-requires c = record {
  in_bounds = head_in c.args.s c.args.words.now c.requires.words_span;
  k_bound = omega arith;
}

pub head_word-requires-2 : goal.head_word-requires-2
head_word-requires-2 c = record {
  in_bounds = head_in c.args.s c.args.words.now c.requires.words_span;
  k_bound = omega arith;
}

pub blocks_at-requires : goal.blocks_at-requires
blocks_at-requires c = rw (c.usize_to_u64.ensures, c.head_word-2.ensures, c.head_word.ensures) (piece_there c.args.s
    c.args.words.now c.args.i c.requires.shape_of c.requires.i_lt_pieces)

pub returns : goal.returns
unfolding reply_piece blocks_in_piece
returns c = record {
  is = λ records cells.
      ap one (c.blocks_at.ensures
      ∙ rw (c.usize_to_u64.ensures, c.head_word-2.ensures, c.head_word.ensures));
}
