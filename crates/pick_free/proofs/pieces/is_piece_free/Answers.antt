-- `is_piece_free` meets its contract. Assumes nothing.
use borrow.Author.Rules.{rules}
use Rattle.pick_free.proofs.FreeLaws.{piece_inside, free_no, free_yes}
use Rattle.pick_free.proofs.pieces.is_piece_free.Goals as goal

pub returns-then-not-has_bit : goal.returns-then-not-has_bit
returns-then-not-has_bit c = free_no c.args.q c.args.bytes.now c.args.i c.args.s c.args.cells.now c.has_bit.result c.has_bit.ensures c.if-not-has_bit.true-raw

pub is_wanted-requires : goal.is_wanted-requires
is_wanted-requires c = record {
  cells_span = c.requires.span;
  i_lt_pieces = piece_inside c.args.q c.args.bytes.now c.args.i c.args.s c.args.cells.now c.has_bit.result c.has_bit.ensures c.requires.bits c.if-not-has_bit.false-raw;
}

pub returns : goal.returns
returns c = free_yes c.args.q c.args.bytes.now c.args.i c.args.s c.args.cells.now c.has_bit.result c.has_bit.ensures c.if-not-has_bit.false-raw c.is_wanted.result
    c.is_wanted.ensures
