-- `progress_of` meets its contract. Assumes nothing.
use Rattle.pick_partial.proofs.PartialLaws.{row_few}
use Rattle.pick_scan.proofs.KeyLaws.{progress_told}
use borrow.Author.Rules.{rules}
use Rattle.pick_scan.proofs.order.progress_of.Goals as goal

pub requested-asked-requires : goal.requested-asked-requires
requested-asked-requires c = (row_few _ _ _ _ _ c.requires.asked _ c.requires.k_lt_live, c.requires.counts_held.1)

pub writing-came-requires : goal.writing-came-requires
writing-came-requires c = (row_few _ _ _ _ _ c.requires.asked _ c.requires.k_lt_live, c.requires.counts_held.1)

pub finished-held-requires : goal.finished-held-requires
finished-held-requires c = (row_few _ _ _ _ _ c.requires.asked _ c.requires.k_lt_live, c.requires.counts_held.1)

pub returns : goal.returns
returns c = progress_told c.args.s c.args.live c.args.rows.now c.args.words.now c.args.cells.now c.requires.asked c.args.k c.requires.k_lt_live c.args.counts.now
    c.requires.counts_held.0 _ _ _ c.requested-asked.ensures c.writing-came.ensures c.finished-held.ensures _ _ _
    c.u16_to_usize.ensures c.u16_to_usize-2.ensures c.u16_to_usize-3.ensures
