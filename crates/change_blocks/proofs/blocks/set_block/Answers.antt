-- `set_block` meets its contract. Assumes nothing.
use Rattle.change_blocks.proofs.SetLaws.{put_places, put_beside, block_set}
use Rattle.change_blocks.proofs.blocks.set_block.Goals as goal

pub put_block-requires : goal.put_block-requires
put_block-requires c = record {
  spans = c.requires.partial_beside.stands.works.bounds.spans;
  p_lt_places = put_places c.args.s c.args.i c.args.p c.args.j _ _ c.requires.partial_beside;
  state_bound = c.requires.state_bound;
}

pub update_piece_state-requires : goal.update_piece_state-requires
update_piece_state-requires c = record {
  works_beside = put_beside c.args.s c.args.i c.args.p c.args.j c.args.x c.args.words.now c.args.cells.now _ _ c.put_block.ensures c.requires.partial_beside;
  i_lt_pieces = c.requires.i_lt_pieces;
  used_in_bounds = c.requires.used_in_bounds;
}

pub returns : goal.returns
returns c = block_set c.args.s c.args.i c.args.p c.args.j c.args.x c.args.words.now c.args.cells.now _ _ c.put_block.ensures _ c.args.t c.args.used _ _
    c.update_piece_state.result c.update_piece_state.ensures
