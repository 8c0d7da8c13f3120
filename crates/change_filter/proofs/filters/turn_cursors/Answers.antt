-- `turn_cursors` meets its contract. Assumes nothing.
use Rattle.change_filter.proofs.FilterLaws.{cursors_left, cursors_moved}
use Rattle.change_filter.proofs.filters.turn_cursors.Goals as goal

pub returns-then-turned-flushed : goal.returns-then-turned-flushed
returns-then-turned-flushed c = cursors_moved c.args.s c.args.i c.requires.i_lt_pieces c.args.priority c.args.turned c.args.words.now c.args.cells.now c.flushed.result
    c.flushed.ensures c.if-turned-flushed.true _ c.cursors_on_filter.ensures

pub returns-else-turned-flushed : goal.returns-else-turned-flushed
returns-else-turned-flushed c = cursors_left c.args.s c.args.i c.requires.i_lt_pieces c.args.priority c.args.turned c.args.words.now c.args.cells.now c.flushed.result
    c.flushed.ensures c.if-turned-flushed.false
