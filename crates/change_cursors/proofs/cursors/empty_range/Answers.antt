-- `empty_range` meets its contract. Assumes nothing.
use Rattle.change_cursors.proofs.MoveLaws.{range_emptied}
use Rattle.change_cursors.proofs.cursors.empty_range.Goals as goal

pub returns : goal.returns
returns c = range_emptied c.args.s c.args.words.now _ _ c.usize_to_u64.result c.usize_to_u64.ensures c.set_cursor.ensures
    c.set_reverse_cursor.ensures
