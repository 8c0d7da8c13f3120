-- `advance_cursors` meets its contract. Assumes nothing.
use Rattle.change_cursors.proofs.MoveLaws.{moved_both, moved_front, moved_back, moved_neither}
use Rattle.change_cursors.proofs.cursors.advance_cursors.Goals as goal

pub returns-then-at_front-at_back : goal.returns-then-at_front-at_back
returns-then-at_front-at_back c = moved_both c.args.s c.args.words.now c.args.cells.now c.args.i _ _ _ _ c.usize_to_u64.ensures c.usize_to_u64-2.ensures
    c.cursor.ensures c.reverse_cursor.ensures _ c.if-at_front-at_back.true c.empty_range.ensures

pub returns-then-at_front : goal.returns-then-at_front
returns-then-at_front c = moved_front c.args.s c.args.words.now c.args.cells.now c.args.i _ _ _ _ c.usize_to_u64.ensures c.usize_to_u64-2.ensures
    c.cursor.ensures c.reverse_cursor.ensures c.if-at_front-at_back.false _ _ _
    c.usize_to_u64-then-at_front.ensures c.if-at_front.true-raw c.cursor_from.ensures
    c.set_cursor.ensures

pub returns-then-at_back : goal.returns-then-at_back
returns-then-at_back c = moved_back c.args.s c.args.words.now c.args.cells.now c.args.i _ _ _ _ c.usize_to_u64.ensures c.usize_to_u64-2.ensures
    c.cursor.ensures c.reverse_cursor.ensures c.if-at_front-at_back.false _ _ _
    c.usize_to_u64-then-at_back.ensures c.if-at_front.false-raw
    c.if-at_back.true-raw c.reverse_from.ensures c.set_reverse_cursor.ensures

pub returns : goal.returns
returns c = moved_neither c.args.s c.args.words.now c.args.cells.now c.args.i _ _ _ _ c.usize_to_u64.ensures c.usize_to_u64-2.ensures
    c.cursor.ensures c.reverse_cursor.ensures c.if-at_front-at_back.false c.if-at_front.false-raw c.if-at_back.false-raw
