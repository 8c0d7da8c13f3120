-- `record_if_asked` meets its contract. Assumes nothing.
use borrow.Author.Tests.{not-true, not-false}
use Rattle.change_opening.proofs.OpenLaws.{some_blocks, extent_asked, extent_left}
use Rattle.change_opening.proofs.extents.record_if_asked.Goals as goal

pub returns-then-not-affinity : goal.returns-then-not-affinity
returns-then-not-affinity c = extent_left c.args.s c.args.i c.args.words.now c.args.cells.now c.args.affinity (not-true _ c.if-not-affinity.true-raw)

pub record_downloading_piece-requires : goal.record_downloading_piece-requires
record_downloading_piece-requires c = record {
  spans = c.requires.works_beside.works.bounds.spans;
  i_lt_pieces = (c.requires.i_lt_pieces, some_blocks _ _ _ _ c.requires.works_beside.works.bounds);
  words_bound = c.requires.works_beside.works.bounds.recent_extents;
}

pub returns : goal.returns
returns c = extent_asked c.args.s c.args.i c.args.words.now c.args.cells.now c.args.affinity (not-false _ c.if-not-affinity.false-raw) _
    c.record_downloading_piece.ensures
