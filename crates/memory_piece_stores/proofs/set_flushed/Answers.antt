-- `set_flushed` meets its contract. Assumes nothing.
use native.Mathlib.Omega.{arith}
use Rattle.model.specs.State.{with_piece, with_flushed}
use Rattle.memory_layout.specs.Tables.{choose}
use Rattle.memory_layout.specs.Decode.{yes?}
use Rattle.memory_layout.specs.Changes.{with_cell}
use borrow.Author.Rules.{rules}
use Rattle.memory_piece_stores.proofs.set_flushed.Goals as goal

pub set_field-requires : goal.set_field-requires
set_field-requires c = record {
  cells_span = c.requires.cells_span;
  f_bound = (omega arith, c.requires.i_lt_pieces);
  v_bound = (λ e. omega arith, λ e. omega arith);
}

pub returns : goal.returns
unfolding with_piece with_flushed with_cell choose yes?
returns c = c.set_field.ensures
