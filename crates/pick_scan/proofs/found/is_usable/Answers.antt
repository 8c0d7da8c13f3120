-- `is_usable` meets its contract. Assumes nothing.
use Rattle.pick_free.proofs.FreeLaws.{picks_cells}
use Rattle.pick_partial.proofs.PartialLaws.{row_few}
use Rattle.pick_scan.proofs.FoundLaws.{usable_is}
use borrow.Author.Rules.{rules}
use Rattle.pick_scan.proofs.found.is_usable.Goals as goal

pub row-d-requires : goal.row-d-requires
row-d-requires c = (row_few _ _ _ _ _ c.requires.picks.asked _ c.requires.k_lt_live, c.requires.picks.asked.wide)

pub is_piece_free-free-requires : goal.is_piece_free-free-requires
is_piece_free-free-requires c = picks_cells _ _ _ _ _ _ c.requires.picks

pub returns : goal.returns
returns c = usable_is c.args.s c.args.live c.args.rows.now c.args.words.now c.args.cells.now c.requires.picks.asked c.args.k c.requires.k_lt_live c.args.q c.args.bytes.now _
    c.row-d.ensures _ c.u32_to_usize.ensures _ c.is_piece_free-free.ensures
