-- `cursors_on_filter` meets its contract. Assumes nothing.
use Rattle.change_cursors.proofs.MoveLaws.{filtered, unfiltered_met, unfiltered}
use Rattle.change_cursors.proofs.cursors.cursors_on_filter.Goals as goal

pub returns-then-priority-eq0 : goal.returns-then-priority-eq0
returns-then-priority-eq0 c = filtered c.args.s c.args.words.now c.args.cells.now c.args.i c.args.priority _ c.if-priority-eq0.true c.advance_cursors.ensures

pub returns-then-cursor-reverse_cursor : goal.returns-then-cursor-reverse_cursor
returns-then-cursor-reverse_cursor c = unfiltered_met c.args.s c.args.words.now c.args.cells.now c.args.i c.args.priority c.if-priority-eq0.false _ _
    c.cursor.ensures c.reverse_cursor.ensures _ c.if-cursor-reverse_cursor.true c.empty_range.ensures

pub returns : goal.returns
returns c = unfiltered c.args.s c.args.words.now c.args.cells.now c.args.i c.args.priority c.if-priority-eq0.false _ _ c.cursor.ensures
    c.reverse_cursor.ensures c.if-cursor-reverse_cursor.false
