-- `is_piece_finished` meets its contract. Assumes nothing.
use Prim.Native.Nat.{◌+◌}
use Rattle.ask_partial.proofs.InfoLaws.{counts_shape, finished_none, finished_some}
use Rattle.ask_picker.proofs.AskedLaws.{asked_queues, asked_rise}
use Rattle.memory_rows.specs.Lookup.{FoundIn}
use mathlib.Core.Path.{subst, ap₂}
use native.Mathlib.Omega.{arith}
use borrow.Author.Rules.{rules}
use Rattle.ask_partial.proofs.info.is_piece_finished.Goals as goal

pub find-requires : goal.find-requires
find-requires c = record {
  live_bound = ((asked_queues c.args.s c.args.live c.args.rows.now c.args.words.now c.args.cells.now c.requires.asked_counts.asked).few, c.requires.asked_counts.asked.wide);
  rows_value = asked_rise c.args.s c.args.live c.args.rows.now c.args.words.now c.args.cells.now c.requires.asked_counts.asked;
}

pub returns-in_default : goal.returns-in_default
returns-in_default c = let f = subst (FoundIn c.args.live c.args.rows.now c.args.i) c.in_default.is c.find.ensures.picker in
    finished_none c.args.s c.args.live c.args.rows.now c.args.counts.now c.args.words.now c.args.cells.now c.requires.asked_counts c.args.i _ f c.flushed.ensures

pub finished-requires : goal.finished-requires
finished-requires c = let f = subst (FoundIn c.args.live c.args.rows.now c.args.i) c.in-Some.is c.find.ensures.picker in
    let n = (asked_queues c.args.s c.args.live c.args.rows.now c.args.words.now c.args.cells.now c.requires.asked_counts.asked).few in
    (omega (arith, f.row.0), c.requires.asked_counts.wide)

pub writing-requires : goal.writing-requires
writing-requires c = let f = subst (FoundIn c.args.live c.args.rows.now c.args.i) c.in-Some.is c.find.ensures.picker in
    let n = (asked_queues c.args.s c.args.live c.args.rows.now c.args.words.now c.args.cells.now c.requires.asked_counts.asked).few in
    (omega (arith, f.row.0), c.requires.asked_counts.wide)

pub blocks_in_piece-requires : goal.blocks_in_piece-requires
blocks_in_piece-requires c = record {
  words_span = c.requires.asked_counts.asked.stands.bounds.spans.in_words;
  shape_of = counts_shape c.args.s c.args.live c.args.rows.now c.args.counts.now c.args.words.now
      c.args.cells.now c.requires.asked_counts;
  i_lt_pieces = c.requires.i_lt_pieces;
}

pub returns : goal.returns
returns c = let f = subst (FoundIn c.args.live c.args.rows.now c.args.i) c.in-Some.is c.find.ensures.picker in
    finished_some c.args.s c.args.live c.args.rows.now c.args.counts.now c.args.words.now c.args.cells.now c.requires.asked_counts c.args.i _ _ _ _ _ f
    c.finished.ensures c.writing.ensures c.blocks_in_piece.ensures
    (ap₂ ◌+◌ c.u16_to_u64.ensures c.u16_to_u64-2.ensures)
