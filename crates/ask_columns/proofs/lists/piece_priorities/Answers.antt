-- `piece_priorities` meets its contract. Assumes nothing.
use native.Mathlib.Omega.{arith}
use borrow.Author.Rules.{rules}
use Rattle.ask_columns.proofs.FillLaws.{priorities_told, priorities_fit}
use Rattle.ask_columns.proofs.lists.piece_priorities.Goals as goal

pub fill-requires : goal.fill-requires
fill-requires c = record {
  cells_span = c.requires.stands_beside.stands.bounds.spans.in_cells;
  f_bound = (omega arith, c.requires.pieces_in_bounds);
  column_fits = priorities_fit _ _ _ c.requires.stands_beside;
}

pub returns : goal.returns
returns c = priorities_told _ _ _ _ _ c.requires.pieces_in_bounds c.fill.ensures
