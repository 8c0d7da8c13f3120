-- `get_downloaders` meets its contract. Assumes nothing.
use Rattle.ask_picker.proofs.AskedLaws.{asked_queues, asked_rise}
use Rattle.ask_picker.proofs.RecordRows.{place_there}
use Rattle.ask_records.proofs.BlockRecords.{asked_shape, many_says, many_few, downloaders_none, downloaders_some}
use Rattle.memory_records.specs.declared.record.DownloadingPiece.{DownloadingPiece as Record}
use Rattle.memory_rows.specs.Lookup.{FoundIn}
use mathlib.Core.Path.{subst, ap, ◌∙◌}
use native.Mathlib.Omega.{arith}
use borrow.Author.Rules.{rules}
use Rattle.ask_records.proofs.peers.get_downloaders.Goals as goal

pub blocks_in_piece-requires : goal.blocks_in_piece-requires
blocks_in_piece-requires c = record {
  words_span = c.requires.asked.stands.bounds.spans.in_words;
  shape_of = asked_shape c.args.s c.args.live c.args.rows.now c.args.words.now c.args.cells.now c.requires.asked
      c.args.i;
  i_lt_pieces = c.requires.i_lt_pieces;
}

pub find-requires : goal.find-requires
find-requires c = record {
  live_bound = ((asked_queues c.args.s c.args.live c.args.rows.now c.args.words.now c.args.cells.now c.requires.asked).few, c.requires.asked.wide);
  rows_value = asked_rise c.args.s c.args.live
      c.args.rows.now c.args.words.now c.args.cells.now c.requires.asked;
}

pub no_peers-requires : goal.no_peers-requires
no_peers-requires c = let m = many_says c.args.words.now c.args.i _ _ c.blocks_in_piece.ensures c.u64_to_usize-many.ensures in
    omega (arith, many_few c.args.s c.args.live c.args.rows.now c.args.words.now c.args.cells.now c.requires.asked c.args.i _ m, c.requires.blocks_in_bounds)

pub shape_of-out-in_default : goal.shape_of-out-in_default
shape_of-out-in_default c = c.no_peers.ensures.written.long

pub returns-in_default : goal.returns-in_default
returns-in_default c = let f = subst (FoundIn c.args.live c.args.rows.now c.args.i) c.in_default.is c.find.ensures.picker in
    let m = many_says c.args.words.now c.args.i _ _ c.blocks_in_piece.ensures c.u64_to_usize-many.ensures in record {
      out_after = downloaders_none c.args.s c.args.live c.args.rows.now c.args.words.now c.args.cells.now c.requires.asked c.args.i _ m f _ _
          c.no_peers.ensures;
      written = c.no_peers.ensures.written;
    }

pub row-requires : goal.row-requires
row-requires c = let f = subst (FoundIn c.args.live c.args.rows.now c.args.i) c.in-Some.is c.find.ensures.picker in
    let n = (asked_queues c.args.s c.args.live c.args.rows.now c.args.words.now c.args.cells.now c.requires.asked).few in
    (omega (arith, f.row.0), c.requires.asked.wide)

pub peers_at-requires : goal.peers_at-requires
peers_at-requires c = let f = subst (FoundIn c.args.live c.args.rows.now c.args.i) c.in-Some.is c.find.ensures.picker in
    let m = many_says c.args.words.now c.args.i _ _ c.blocks_in_piece.ensures c.u64_to_usize-many.ensures in
    let e = c.u32_to_usize-place.ensures ∙ ap (λ (r : Record). r.info_idx) c.row.ensures in record {
      spans = c.requires.asked.stands.bounds.spans;
      p_lt_places = (
        place_there c.args.s c.args.live c.args.rows.now c.args.words.now c.args.cells.now c.requires.asked c.args.i _ f _ e,
        many_few c.args.s c.args.live
            c.args.rows.now c.args.words.now c.args.cells.now c.requires.asked c.args.i _ m,
      );
      many_in_bounds = omega (
        arith,
        many_few c.args.s c.args.live c.args.rows.now
            c.args.words.now c.args.cells.now c.requires.asked c.args.i _ m,
        c.requires.blocks_in_bounds,
      );
    }

pub shape_of-out : goal.shape_of-out
shape_of-out c = c.peers_at.ensures.written.long

pub returns : goal.returns
returns c = let f = subst (FoundIn c.args.live c.args.rows.now c.args.i) c.in-Some.is c.find.ensures.picker in
    let m = many_says c.args.words.now c.args.i _ _ c.blocks_in_piece.ensures c.u64_to_usize-many.ensures in
    let e = c.u32_to_usize-place.ensures ∙ ap (λ (r : Record). r.info_idx) c.row.ensures in record {
      out_after = downloaders_some c.args.s c.args.live c.args.rows.now c.args.words.now c.args.cells.now c.requires.asked c.args.i _ m _ f _ e _ _
          c.peers_at.ensures;
      written = c.peers_at.ensures.written;
    }
