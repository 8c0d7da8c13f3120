-- `unopened` meets its contract. Assumes nothing.
use Rattle.ask_partial.proofs.InfoLaws.{blocks_few, beside_shape, flushed_info, open_info}
use Rattle.ask_partial.specs.Info.{info_numbers}
use Rattle.memory_fields.specs.Reading.{CellsSay}
use Rattle.model.specs.State.{piece_at}
use mathlib.Core.Path.{subst}
use native.Mathlib.Omega.{arith}
use borrow.Author.Rules.{rules}
use Rattle.ask_partial.proofs.info.unopened.Goals as goal

pub blocks_in_piece-requires : goal.blocks_in_piece-requires
blocks_in_piece-requires c = record {
  words_span = c.requires.stands_beside.stands.bounds.spans.in_words;
  shape_of = beside_shape c.args.s c.args.words.now c.args.cells.now c.requires.stands_beside;
  i_lt_pieces = c.requires.i_lt_pieces;
}

pub u64_to_u16-blocks-requires : goal.u64_to_u16-blocks-requires
u64_to_u16-blocks-requires c = omega (arith, blocks_few c.args.s c.args.words.now c.args.cells.now c.requires.stands_beside c.args.i _ c.blocks_in_piece.ensures)

pub returns-then-flushed : goal.returns-then-flushed
unfolding info_numbers
returns-then-flushed c = let e = subst (CellsSay c.args.s c.args.cells.now (λ d. (piece_at d c.args.i).flushed)) c.if-flushed.true c.flushed.ensures in
    flushed_info c.args.s c.args.words.now c.args.cells.now c.args.i _ _ e c.blocks_in_piece.ensures c.u64_to_u16-blocks.ensures

pub returns-else-flushed : goal.returns-else-flushed
unfolding info_numbers
returns-else-flushed c = let e = subst (CellsSay c.args.s c.args.cells.now (λ d. (piece_at d c.args.i).flushed)) c.if-flushed.false c.flushed.ensures in
    open_info c.args.s c.args.words.now c.args.cells.now c.args.i e
