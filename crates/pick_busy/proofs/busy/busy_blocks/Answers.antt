-- `busy_blocks` meets its contract. Assumes nothing.
use Rattle.pick_busy.proofs.BusyLaws.{busy_of_row}
use Rattle.pick_partial.proofs.PartialLaws.{row_few, row_piece, plain_there, asked_shape}
use Rattle.memory_records.specs.declared.record.DownloadingPiece.{DownloadingPiece as Record}
use mathlib.Core.Path.{ap, ◌∙◌}
use native.Mathlib.Omega.{arith}
use borrow.Author.Rules.{rules}
use Rattle.pick_busy.proofs.busy.busy_blocks.Goals as goal

pub row-d-requires : goal.row-d-requires
row-d-requires c = (row_few c.args.s c.args.live c.args.rows.now c.args.words.now c.args.cells.now c.requires.asked c.args.k c.requires.k_lt_live.0, c.requires.asked.wide)

pub blocks_of-many-requires : goal.blocks_of-many-requires
blocks_of-many-requires c = (
  c.requires.asked.stands.bounds.spans.in_words,
  asked_shape c.args.s c.args.live c.args.rows.now c.args.words.now c.args.cells.now c.requires.asked,
  omega (
    arith,
    c.u32_to_usize.ensures,
    ap (λ (r : Record). r.index) c.row-d.ensures,
    row_piece c.args.s c.args.live c.args.rows.now c.args.words.now c.args.cells.now c.requires.asked c.args.k c.requires.k_lt_live.0,
  ),
)

pub busy_at-requires : goal.busy_at-requires
busy_at-requires c = let x = plain_there c.args.s c.args.live c.args.rows.now c.args.words.now c.args.cells.now c.requires.asked c.args.k c.requires.k_lt_live.0 _ _ _
    (c.u32_to_usize.ensures ∙ ap (λ (r : Record). r.index) c.row-d.ensures)
    (c.u32_to_usize-2.ensures ∙ ap (λ (r : Record). r.info_idx) c.row-d.ensures) c.blocks_of-many.ensures in
    record {
      spans = x.0.0;
      place_lt_places = (x.1.1, x.1.2);
      blocks_len = c.requires.k_lt_live.1;
    }

pub returns : goal.returns
returns c = busy_of_row c.args.s c.args.live c.args.rows.now c.args.words.now c.args.cells.now c.requires.asked c.args.k c.requires.k_lt_live.0 c.args.q _ _ _
    (c.u32_to_usize.ensures ∙ ap (λ (r : Record). r.index) c.row-d.ensures)
    (c.u32_to_usize-2.ensures ∙ ap (λ (r : Record). r.info_idx) c.row-d.ensures) c.blocks_of-many.ensures _ _ c.busy_at.ensures
