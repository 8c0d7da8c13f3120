-- `set_state` meets its contract. Assumes nothing.
use native.Mathlib.Omega.{arith}
use Rattle.model.specs.State.{with_piece, with_state}
use Rattle.memory_layout.specs.Tables.{choose}
use Rattle.memory_layout.specs.Changes.{with_cell}
use borrow.Author.Rules.{rules}
use Rattle.memory_piece_stores.proofs.set_state.Goals as goal

pub set_field-requires : goal.set_field-requires
set_field-requires c = record {
  cells_span = c.requires.cells_span;
  f_bound = (omega arith, c.requires.i_lt_pieces.0);
  v_bound = (λ e. c.requires.i_lt_pieces.1, λ e. omega arith);
}

pub returns : goal.returns
unfolding with_piece with_state with_cell choose
returns c = c.set_field.ensures
