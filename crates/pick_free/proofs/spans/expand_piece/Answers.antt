-- `expand_piece` meets its contract. Assumes nothing.
use mathlib.Core.Path.{refl}
use Rattle.pick_free.proofs.FreeLaws.{expand_none, expand_some, whole_few, above_none}
use borrow.Author.Rules.{rules}
use Rattle.pick_free.proofs.spans.expand_piece.Goals as goal

pub returns-then-n-eq0 : goal.returns-then-n-eq0
returns-then-n-eq0 c = expand_none c.args.s c.args.cells.now c.args.q c.args.bytes.now c.args.i c.args.t c.whole_pieces-n.result c.whole_pieces-n.ensures _ c.if-n-eq0.true refl refl

pub span_of-requires : goal.span_of-requires
span_of-requires c = let m = whole_few c.args.s.blocks c.args.t c.whole_pieces-n.result c.whole_pieces-n.ensures c.requires.i_lt_pieces.1 c.requires.picks_cells.span.sizes.wide in
    record {
      picks_cells = c.requires.picks_cells;
      i_lt_pieces = (c.requires.i_lt_pieces.0, above_none c.whole_pieces-n.result c.if-n-eq0.false, m);
    }

pub returns : goal.returns
returns c = expand_some c.args.s c.args.cells.now c.args.q c.args.bytes.now c.args.i c.args.t c.whole_pieces-n.result c.whole_pieces-n.ensures c.span_of.result
    c.span_of.ensures
