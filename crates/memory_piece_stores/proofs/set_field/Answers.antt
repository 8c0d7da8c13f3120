-- `set_field` meets its contract. Assumes nothing.
use Rattle.memory_piece_stores.proofs.FieldLaws.{field_stored}
use borrow.Author.Rules.{rules}
use Rattle.memory_piece_stores.proofs.set_field.Goals as goal

pub returns : goal.returns
returns c = field_stored c.args.s c.args.cells.now _ c.requires.cells_span c.args.f c.args.i c.args.v c.requires.f_bound.0 c.requires.f_bound.1
    c.requires.v_bound.0 c.requires.v_bound.1 c.set_piece_cell.ensures
