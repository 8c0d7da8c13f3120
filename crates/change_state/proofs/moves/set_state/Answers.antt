-- `set_state` meets its contract: the state is stored, then the list mended. Assumes nothing.
use Rattle.change_state.proofs.MoveLaws.{state_asks, state_set}
use Rattle.change_state.proofs.moves.set_state.Goals as goal

pub update-requires : goal.update-requires
update-requires c = let k = state_asks c.args.s c.args.i c.requires.i_lt_pieces c.args.q c.queue_number-n.result c.queue_number-n.ensures.0 c.args.words.now
    c.args.cells.now _ c.set_state.ensures c.rank_at-old.result c.rank_at-old.ensures c.requires.works_beside in
    record {
      list_bounds = k.0;
      i_lt_pieces = c.requires.i_lt_pieces;
      list_before = k.1;
      used_in_bounds = c.requires.used_in_bounds;
    }

pub returns : goal.returns
returns c = state_set c.args.s c.args.i c.requires.i_lt_pieces c.args.q c.queue_number-n.result c.queue_number-n.ensures.0 c.args.words.now c.args.cells.now _
    c.set_state.ensures c.rank_at-old.result c.rank_at-old.ensures _ c.args.used _ c.update.result
    c.update.ensures
