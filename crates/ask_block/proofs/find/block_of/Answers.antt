-- `block_of` meets its contract. Assumes nothing.
use Rattle.ask_block.proofs.BlockAnswers.{block_missing, block_there, block_told}
use Rattle.ask_picker.proofs.AskedLaws.{asked_queues, asked_rise}
use Rattle.ask_picker.proofs.RecordRows.{place_there}
use Rattle.memory_records.specs.declared.record.DownloadingPiece.{DownloadingPiece as Record}
use Rattle.memory_rows.specs.Lookup.{FoundIn}
use mathlib.Core.Path.{subst, ap, ◌∙◌}
use native.Mathlib.Omega.{arith}
use borrow.Author.Rules.{rules}
use Rattle.ask_block.proofs.find.block_of.Goals as goal

pub find-requires : goal.find-requires
find-requires c = record {
  live_bound = ((asked_queues c.args.s c.args.live c.args.rows.now c.args.words.now c.args.cells.now c.requires.asked).few, c.requires.asked.wide);
  rows_value = asked_rise c.args.s c.args.live
      c.args.rows.now c.args.words.now c.args.cells.now c.requires.asked;
}

pub returns-in_err-k : goal.returns-in_err-k
returns-in_err-k c = let f = subst (FoundIn c.args.live c.args.rows.now c.args.i) c.in_err-k.was c.find.ensures.picker in
    rw c.from_residual.ensures (block_missing c.args.s c.args.live c.args.rows.now c.args.words.now c.args.cells.now c.requires.asked c.args.i c.args.j f)

pub row-requires : goal.row-requires
row-requires c = let f = subst (FoundIn c.args.live c.args.rows.now c.args.i) c.in_ok-k.was c.find.ensures.picker in
    let n = (asked_queues c.args.s c.args.live c.args.rows.now c.args.words.now c.args.cells.now c.requires.asked).few in
    (omega (arith, f.row.0), c.requires.asked.wide)

pub get_block-requires : goal.get_block-requires
get_block-requires c = let f = subst (FoundIn c.args.live c.args.rows.now c.args.i) c.in_ok-k.was c.find.ensures.picker in
    let e = c.u32_to_usize-place.ensures ∙ ap (λ (r : Record). r.info_idx) c.row.ensures in record {
      spans = c.requires.asked.stands.bounds.spans;
      p_lt_places = (
        place_there c.args.s c.args.live c.args.rows.now c.args.words.now c.args.cells.now c.requires.asked c.args.i _ f _ e,
        block_there c.args.s c.args.live
            c.args.rows.now c.args.words.now c.args.cells.now c.requires.asked c.args.i c.args.j _ f c.requires.i_lt_pieces.1,
      );
    }

pub returns : goal.returns
returns c = let f = subst (FoundIn c.args.live c.args.rows.now c.args.i) c.in_ok-k.was c.find.ensures.picker in
    let e = c.u32_to_usize-place.ensures ∙ ap (λ (r : Record). r.info_idx) c.row.ensures in
    block_told c.args.s c.args.live c.args.rows.now c.args.words.now c.args.cells.now c.requires.asked c.args.i c.args.j _ f c.requires.i_lt_pieces.1 _ _ e
    c.get_block.ensures
