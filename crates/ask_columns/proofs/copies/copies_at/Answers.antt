-- `copies_at` meets its contract. Assumes nothing.
use borrow.Author.Rules.{rules}
use native.Mathlib.Omega.{arith}
use Rattle.ask_columns.proofs.LeastLaws.{copies_sum, copies_low}
use Rattle.ask_columns.proofs.copies.copies_at.Goals as goal

pub returns : goal.returns
returns c = copies_sum _ _ c.requires.few_copies _ c.requires.i_lt_pieces _ _ c.piece_cell.ensures c.piece_cell-2.ensures
