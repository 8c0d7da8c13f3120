-- `blocks_for_piece` meets its contract. Assumes nothing.
use Rattle.ask_picker.proofs.AskedLaws.{asked_queues, asked_rise}
use Rattle.ask_picker.proofs.RecordRows.{place_there}
use Rattle.ask_records.proofs.BlockRecords.{asked_shape, many_says, many_few, blocks_none, blocks_some, written_none}
use Rattle.memory_records.specs.declared.record.DownloadingPiece.{DownloadingPiece as Record}
use Rattle.memory_rows.specs.Lookup.{FoundIn}
use mathlib.Core.Path.{subst, ap, ◌∙◌}
use native.Mathlib.Omega.{arith}
use borrow.Author.Rules.{rules}
use Rattle.ask_records.proofs.blocks.blocks_for_piece.Goals as goal

pub blocks_in_piece-requires : goal.blocks_in_piece-requires
blocks_in_piece-requires c = record {
  words_span = c.requires.asked.stands.bounds.spans.in_words;
  shape_of = asked_shape c.args.s c.args.live c.args.rows.now c.args.words.now c.args.cells.now c.requires.asked
      c.args.i;
  i_lt_pieces = c.requires.i_lt_pieces;
}

pub find-requires : goal.find-requires
find-requires c = record {
  live_bound = ((asked_queues c.args.s c.args.live c.args.rows.now c.args.words.now c.args.cells.now c.requires.asked).few, c.requires.asked.wide);
  rows_value = asked_rise c.args.s c.args.live
      c.args.rows.now c.args.words.now c.args.cells.now c.requires.asked;
}

pub returns-in_err-k : goal.returns-in_err-k
returns-in_err-k c = let f = subst (FoundIn c.args.live c.args.rows.now c.args.i) c.in_err-k.was c.find.ensures.picker in
    rw c.from_residual.ensures record {
      result_after = blocks_none c.args.s c.args.live c.args.rows.now c.args.words.now c.args.cells.now c.requires.asked c.args.i f _;
      written = written_none _ _;
    }

pub row-requires : goal.row-requires
row-requires c = let f = subst (FoundIn c.args.live c.args.rows.now c.args.i) c.in_ok-k.was c.find.ensures.picker in
    let n = (asked_queues c.args.s c.args.live c.args.rows.now c.args.words.now c.args.cells.now c.requires.asked).few in
    (omega (arith, f.row.0), c.requires.asked.wide)

pub blocks_at-requires : goal.blocks_at-requires
blocks_at-requires c = let f = subst (FoundIn c.args.live c.args.rows.now c.args.i) c.in_ok-k.was c.find.ensures.picker in
    let m = many_says c.args.words.now c.args.i _ _ c.blocks_in_piece.ensures c.u64_to_usize-many.ensures in
    let e = c.u32_to_usize-place.ensures ∙ ap (λ (r : Record). r.info_idx) c.row.ensures in record {
      spans = c.requires.asked.stands.bounds.spans;
      p_lt_places = (
        place_there c.args.s c.args.live c.args.rows.now c.args.words.now c.args.cells.now c.requires.asked c.args.i _ f _ e,
        many_few c.args.s c.args.live
            c.args.rows.now c.args.words.now c.args.cells.now c.requires.asked c.args.i _ m,
      );
      many_in_bounds = omega (
        arith,
        many_few c.args.s c.args.live c.args.rows.now
            c.args.words.now c.args.cells.now c.requires.asked c.args.i _ m,
        c.requires.blocks_in_bounds,
      );
    }

pub shape_of-out : goal.shape_of-out
shape_of-out c = c.blocks_at.ensures.written.long

pub returns : goal.returns
returns c = let f = subst (FoundIn c.args.live c.args.rows.now c.args.i) c.in_ok-k.was c.find.ensures.picker in
    let m = many_says c.args.words.now c.args.i _ _ c.blocks_in_piece.ensures c.u64_to_usize-many.ensures in
    let e = c.u32_to_usize-place.ensures ∙ ap (λ (r : Record). r.info_idx) c.row.ensures in record {
      result_after = blocks_some c.args.s c.args.live c.args.rows.now c.args.words.now c.args.cells.now c.requires.asked c.args.i _ m _ f _ e _ _
          c.blocks_at.ensures;
      written = c.blocks_at.ensures.written;
    }
