-- `piece_passed` meets its contract. Assumes nothing.
use mathlib.Core.Path.{subst}
use Rattle.memory_layout.proofs.StandingLaws.{stands_shape}
use Rattle.memory_records.specs.Rows.{records_in}
use Rattle.memory_rows.specs.Lookup.{FoundIn}
use Rattle.change_steps.proofs.RoomLaws.{keep_room, replace_room, remove_room}
use Rattle.change_flags.proofs.RowEdits.{rows_within, rows_few, rows_rising, row_there, has_partial}
use Rattle.change_flags.proofs.PassLaws.{pass_nothing, pass_locked, pass_flagged, pass_flushed}
use Rattle.change_flags.proofs.flags.piece_passed.Goals as goal

pub find-requires : goal.find-requires
find-requires c = record {
  live_bound = (rows_few c.args.s c.args.live c.args.rows.now c.args.words.now c.args.cells.now c.requires.rows_stand.stands c.requires.rows_stand.many, c.requires.rows_stand.long_rows);
  rows_value = rows_rising c.args.s c.args.live c.args.rows.now c.args.words.now c.args.cells.now c.requires.rows_stand.stands c.requires.rows_stand.many;
}

pub returns-in_default : goal.returns-in_default
returns-in_default c = let w = rows_within c.args.s c.args.live c.args.rows.now c.args.words.now c.args.cells.now c.requires.rows_stand.stands c.requires.rows_stand.many in
    let b = pass_nothing c.args.s c.args.live c.args.rows.now c.args.counts.now c.args.words.now c.args.cells.now c.requires.rows_stand c.args.i
    (subst (FoundIn c.args.live c.args.rows.now c.args.i) c.in_default.is c.find.ensures.picker) in
    record {
      change = b;
      room = keep_room c.args.s c.args.live w;
    }

pub row-r-requires : goal.row-r-requires
row-r-requires c = let x = subst (FoundIn c.args.live c.args.rows.now c.args.i) c.in-Some.is c.find.ensures.picker in
    (row_there c.args.s c.args.live c.args.rows.now c.args.words.now c.args.cells.now c.requires.rows_stand.stands c.requires.rows_stand.many c.args.i _ x, c.requires.rows_stand.long_rows)

pub returns-then-is_locked : goal.returns-then-is_locked
returns-then-is_locked c = let x = subst (FoundIn c.args.live c.args.rows.now c.args.i) c.in-Some.is c.find.ensures.picker in
    let w = rows_within c.args.s c.args.live c.args.rows.now c.args.words.now c.args.cells.now c.requires.rows_stand.stands c.requires.rows_stand.many in
    let b = pass_locked c.args.s c.args.live c.args.rows.now c.args.counts.now c.args.words.now c.args.cells.now c.requires.rows_stand c.args.i _ x
    c.row-r.result c.row-r.ensures c.is_locked.result c.is_locked.ensures c.if-is_locked.true in
    record {
      change = b;
      room = keep_room c.args.s c.args.live w;
    }

pub blocks_in_piece-many-requires : goal.blocks_in_piece-many-requires
blocks_in_piece-many-requires c = record {
  words_span = (c.requires.rows_stand.stands.bounds.spans.in_words, stands_shape c.args.s (records_in c.args.live c.args.rows.now) c.args.words.now c.args.cells.now c.requires.rows_stand.stands.bounds);
  i_lt_pieces = c.requires.i_lt_pieces;
}

pub finished-requires : goal.finished-requires
finished-requires c = let x = subst (FoundIn c.args.live c.args.rows.now c.args.i) c.in-Some.is c.find.ensures.picker in
    (row_there c.args.s c.args.live c.args.rows.now c.args.words.now c.args.cells.now c.requires.rows_stand.stands c.requires.rows_stand.many c.args.i _ x, c.requires.rows_stand.long_counts)

pub piece_flushed-requires : goal.piece_flushed-requires
piece_flushed-requires c = let x = subst (FoundIn c.args.live c.args.rows.now c.args.i) c.in-Some.is c.find.ensures.picker in record {
  partial_beside = record {
    records = records_in c.args.live c.args.rows.now;
    has = has_partial c.args.s c.args.live c.args.rows.now c.args.words.now c.args.cells.now c.requires.rows_stand.stands c.requires.rows_stand.many c.args.i _ x;
  };
  i_lt_pieces = c.requires.i_lt_pieces;
}

pub returns-then-many-u16_to_usize : goal.returns-then-many-u16_to_usize
returns-then-many-u16_to_usize c = let x = subst (FoundIn c.args.live c.args.rows.now c.args.i) c.in-Some.is c.find.ensures.picker in
    let w = rows_within c.args.s c.args.live c.args.rows.now c.args.words.now c.args.cells.now c.requires.rows_stand.stands c.requires.rows_stand.many in
    let b = pass_flushed c.args.s c.args.live c.args.rows.now c.args.counts.now c.args.words.now c.args.cells.now c.requires.rows_stand c.args.i _ x
    c.row-r.result c.row-r.ensures c.is_locked.result c.is_locked.ensures c.if-is_locked.false
    c.blocks_in_piece-many.result c.blocks_in_piece-many.ensures c.finished.result c.finished.ensures c.u16_to_usize.result
    c.u16_to_usize.ensures c.if-many-u16_to_usize.true _ _ c.piece_flushed.ensures in
    record {
      change = b;
      room = remove_room c.args.s c.args.live w _;
    }

pub returns : goal.returns
returns c = let x = subst (FoundIn c.args.live c.args.rows.now c.args.i) c.in-Some.is c.find.ensures.picker in
    let w = rows_within c.args.s c.args.live c.args.rows.now c.args.words.now c.args.cells.now c.requires.rows_stand.stands c.requires.rows_stand.many in
    let b = pass_flagged c.args.s c.args.live c.args.rows.now c.args.counts.now c.args.words.now c.args.cells.now c.requires.rows_stand c.args.i _ x
    c.row-r.result c.row-r.ensures c.is_locked.result c.is_locked.ensures c.if-is_locked.false
    c.blocks_in_piece-many.result c.blocks_in_piece-many.ensures c.finished.result c.finished.ensures c.u16_to_usize.result
    c.u16_to_usize.ensures c.if-many-u16_to_usize.false c.with_flags.result c.with_flags.ensures in
    record {
      change = b;
      room = replace_room c.args.s c.args.live w _;
    }
