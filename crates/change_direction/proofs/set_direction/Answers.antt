-- `set_direction` meets its contract: the state is stored, then the list given up or mended. Assumes nothing.
use mathlib.Core.Path.{sym, ◌∙◌}
use Rattle.change_state.proofs.MoveLaws.{state_asks}
use Rattle.change_direction.proofs.TurnLaws.{direction_dirty, direction_mended}
use Rattle.change_direction.proofs.set_direction.Goals as goal

pub rank_at-new-requires : goal.rank_at-new-requires
rank_at-new-requires c = let k = state_asks c.args.s c.args.i c.requires.i_lt_pieces c.args.q c.queue_number-n.result c.queue_number-n.ensures.0 c.args.words.now
    c.args.cells.now _ c.set_state.ensures c.rank_at-old.result c.rank_at-old.ensures c.requires.works_beside in
    record {
      spans = k.0.spans;
      ranges = k.0.ranges;
      i_lt_pieces = c.requires.i_lt_pieces;
    }

pub returns-then-gains_bucket : goal.returns-then-gains_bucket
returns-then-gains_bucket c = direction_dirty c.args.s c.args.i c.requires.i_lt_pieces c.args.q c.queue_number-n.result c.queue_number-n.ensures.0 c.args.words.now
    c.args.cells.now _ c.set_state.ensures c.rank_at-old.result c.rank_at-old.ensures c.rank_at-new.result
    c.rank_at-new.ensures _ c.args.used (sym c.if-gains_bucket.true ∙ c.gains_bucket.ensures) _ c.mark_dirty.ensures

pub update-requires : goal.update-requires
update-requires c = let k = state_asks c.args.s c.args.i c.requires.i_lt_pieces c.args.q
    c.queue_number-n.result c.queue_number-n.ensures.0 c.args.words.now c.args.cells.now _ c.set_state.ensures
    c.rank_at-old.result c.rank_at-old.ensures c.requires.works_beside in record {
      list_bounds = k.0;
      i_lt_pieces = c.requires.i_lt_pieces;
      list_before = k.1;
      used_in_bounds = c.requires.used_in_bounds;
    }

pub returns : goal.returns
returns c = direction_mended c.args.s c.args.i c.requires.i_lt_pieces c.args.q c.queue_number-n.result c.queue_number-n.ensures.0 c.args.words.now
    c.args.cells.now _ c.set_state.ensures c.rank_at-old.result c.rank_at-old.ensures c.rank_at-new.result
    c.rank_at-new.ensures _ c.args.used (sym c.if-gains_bucket.false ∙ c.gains_bucket.ensures) _ c.update.result c.update.ensures
