-- `can_pick` meets its contract. Assumes nothing.
use borrow.Author.Rules.{rules}
use Rattle.pick_free.proofs.FreeLaws.{piece_inside, pick_no, pick_yes}
use Rattle.pick_free.proofs.pieces.can_pick.Goals as goal

pub returns-then-not-has_bit : goal.returns-then-not-has_bit
returns-then-not-has_bit c = pick_no c.args.q c.args.bytes.now c.args.i c.args.s c.args.cells.now c.has_bit.result c.has_bit.ensures c.if-not-has_bit.true-raw

pub is_wanted-wanted-requires : goal.is_wanted-wanted-requires
is_wanted-wanted-requires c = record {
  cells_span = c.requires.span;
  i_lt_pieces = piece_inside c.args.q c.args.bytes.now c.args.i c.args.s c.args.cells.now c.has_bit.result c.has_bit.ensures c.requires.bits c.if-not-has_bit.false-raw;
}

pub state-requires : goal.state-requires
state-requires c = record {
  cells_span = c.requires.span;
  i_lt_pieces = piece_inside c.args.q c.args.bytes.now c.args.i c.args.s c.args.cells.now c.has_bit.result c.has_bit.ensures c.requires.bits c.if-not-has_bit.false-raw;
}

pub returns : goal.returns
returns c = pick_yes c.args.q c.args.bytes.now c.args.i c.args.s c.args.cells.now c.has_bit.result c.has_bit.ensures c.if-not-has_bit.false-raw
    c.is_wanted-wanted.result c.is_wanted-wanted.ensures c.state.result c.state.ensures
