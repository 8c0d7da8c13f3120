-- `set_piece_priority` meets its contract. Assumes nothing.
use Rattle.change_priority.proofs.StateLaws.{said_same, said_other}
use Rattle.change_priority.proofs.changes.set_piece_priority.Goals as goal

pub returns-then-priority-old : goal.returns-then-priority-old
returns-then-priority-old c = said_same c.args.s _ c.args.i c.args.priority _ c.args.words.now c.args.cells.now c.requires.rows_stand.stands c.priority-old.result
    c.priority-old.ensures c.if-priority-old.true

pub returns : goal.returns
returns c = said_other c.args.s _ c.args.i c.args.priority _ c.args.words.now c.args.cells.now c.requires.rows_stand.stands c.priority-old.result
    c.priority-old.ensures c.if-priority-old.false c.filter_changes-turned.result c.filter_changes-turned.ensures _ _ c.store_priority-used.result
    c.store_priority-used.ensures
