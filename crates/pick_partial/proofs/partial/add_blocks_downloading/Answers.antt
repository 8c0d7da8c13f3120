-- `add_blocks_downloading` meets its contract. Assumes nothing.
use Rattle.pick_partial.proofs.PartialLaws.{row_few, row_piece, plain_there, asked_shape, add_none, add_some}
use Rattle.memory_records.specs.declared.record.DownloadingPiece.{DownloadingPiece as Record}
use borrow.Author.Tests.{not-true, not-false}
use mathlib.Core.Path.{ap, ◌∙◌}
use native.Mathlib.Omega.{arith}
use borrow.Author.Rules.{rules}
use Rattle.pick_partial.proofs.partial.add_blocks_downloading.Goals as goal

pub open_to-requires : goal.open_to-requires
open_to-requires c = (row_few c.args.s c.args.live c.args.rows.now c.args.words.now c.args.cells.now c.requires.picks.0.asked c.args.k c.requires.picks.1, c.requires.picks.0.asked.wide)

pub returns-then-not-open_to : goal.returns-then-not-open_to
returns-then-not-open_to c = add_none c.args.s c.args.live c.args.rows.now c.args.words.now c.args.cells.now c.args.q c.requires.picks.0.asked c.args.k c.requires.picks.1 c.args.bytes.now _ c.open_to.ensures
    c.args.t (not-true _ c.if-not-open_to.true-raw) _ _

pub row-d-requires : goal.row-d-requires
row-d-requires c = (row_few c.args.s c.args.live c.args.rows.now c.args.words.now c.args.cells.now c.requires.picks.0.asked c.args.k c.requires.picks.1, c.requires.picks.0.asked.wide)

pub blocks_of-many-requires : goal.blocks_of-many-requires
blocks_of-many-requires c = (
  c.requires.picks.0.asked.stands.bounds.spans.in_words,
  asked_shape c.args.s c.args.live c.args.rows.now c.args.words.now c.args.cells.now c.requires.picks.0.asked,
  omega (
    arith,
    c.u32_to_usize-i.ensures,
    ap (λ (r : Record). r.index) c.row-d.ensures,
    row_piece c.args.s c.args.live c.args.rows.now c.args.words.now c.args.cells.now c.requires.picks.0.asked c.args.k c.requires.picks.1,
  ),
)

pub add_free-requires : goal.add_free-requires
add_free-requires c = let ei = c.u32_to_usize-i.ensures ∙ ap (λ (r : Record). r.index) c.row-d.ensures in
    let ep = c.u32_to_usize.ensures ∙ ap (λ (r : Record). r.info_idx) c.row-d.ensures in
    let x = plain_there c.args.s c.args.live c.args.rows.now c.args.words.now c.args.cells.now c.requires.picks.0.asked c.args.k c.requires.picks.1 _ _ _ ei ep c.blocks_of-many.ensures in
    record {
      spans = x.0;
      i_bound = x.1;
      has_room = c.requires.has_room;
    }

pub returns : goal.returns
returns c = let ei = c.u32_to_usize-i.ensures ∙ ap (λ (r : Record). r.index) c.row-d.ensures in
    let ep = c.u32_to_usize.ensures ∙ ap (λ (r : Record). r.info_idx) c.row-d.ensures in
    add_some c.args.s c.args.live c.args.rows.now c.args.words.now c.args.cells.now c.args.q c.requires.picks.0.asked c.args.k c.requires.picks.1 c.args.bytes.now _ c.open_to.ensures
    c.args.t (not-false _ c.if-not-open_to.false-raw) _ _ _ ei ep c.blocks_of-many.ensures _ _ _ _ _ c.add_free.ensures
