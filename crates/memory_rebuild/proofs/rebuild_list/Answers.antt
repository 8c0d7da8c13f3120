-- `rebuild_list` meets its contract: the list's places lent to the rebuilding, and put back. Assumes nothing.
use native.Mathlib.Omega.{arith}
use borrow.Author.Rules.{rules}
use Rattle.memory_list.proofs.Regions.{part_start, part_fits, part_long, back_head}
use Rattle.memory_rebuild.proofs.Rebuilds.{ranks_room, ranks_low, ranks_long, list_rebuilt}
use Rattle.memory_rebuild.proofs.rebuild_list.Goals as goal

pub rank_pieces-requires : goal.rank_pieces-requires
rank_pieces-requires c = record {
  spans = c.requires.list_bounds.spans;
  ranges = c.requires.list_bounds.ranges;
  pieces_in_bounds = ranks_room c.args.s c.requires.list_bounds.spans.in_words.sizes;
}

pub list_start-a-requires : goal.list_start-a-requires
list_start-a-requires c = c.requires.list_bounds.spans.in_words.sizes

pub overflow_add-a : goal.overflow_add-a
overflow_add-a c = let e = part_start c.args.s c.requires.list_bounds.spans.in_words.sizes c.list_start-a.result c.list_start-a.ensures in
    omega (arith, e.0, e.1)

pub offset_bounds-words-a : goal.offset_bounds-words-a
offset_bounds-words-a c = let e = part_start c.args.s c.requires.list_bounds.spans.in_words.sizes c.list_start-a.result c.list_start-a.ensures in
    omega (arith, e.0, e.1)

pub slice_bounds-update_pieces-end : goal.slice_bounds-update_pieces-end
slice_bounds-update_pieces-end c = part_fits c.args.s c.args.words.now c.requires.list_bounds.spans.in_words c.list_start-a.result c.list_start-a.ensures

pub update_pieces-done-requires : goal.update_pieces-done-requires
update_pieces-done-requires c = record {
  n_in_bounds = omega (arith, ranks_long c.args.s c.args.words.now c.args.cells.now c.requires.list_bounds 4096 _ c.rank_pieces.ensures, c.requires.list_bounds.spans.in_words.sizes.many);
  n_le_max_pieces = c.requires.list_bounds.spans.in_words.sizes.many;
  n_in_bounds_2 = omega (arith, part_long c.args.s c.args.words.now c.requires.list_bounds.spans.in_words c.list_start-a.result c.list_start-a.ensures);
  ranked = ranks_low c.args.s c.args.words.now c.args.cells.now c.requires.list_bounds 4096 _ c.rank_pieces.ensures;
  t_in_bounds = c.requires.used_in_bounds;
}

pub set_list_length-requires : goal.set_list_length-requires
set_list_length-requires c = back_head c.args.s c.args.words.now c.requires.list_bounds.spans.in_words c.list_start-a.result c.list_start-a.ensures c.update_pieces-done.new.list
    c.words-1.given.0

pub returns : goal.returns
returns c = list_rebuilt c.args.s c.args.words.now c.args.cells.now c.requires.list_bounds 4096 _ c.rank_pieces.ensures c.requires.words_value c.list_start-a.result c.list_start-a.ensures
    c.args.draws.now c.args.used c.update_pieces-done.new.list c.update_pieces-done.result.len c.update_pieces-done.result.used c.words-1.given.0 c.update_pieces-done.ensures
    _ c.set_list_length.ensures
