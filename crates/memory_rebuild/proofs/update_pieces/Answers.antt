-- `update_pieces` meets its contract. Assumes nothing.
use borrow.Author.Rules.{rules}
use Rattle.memory_list.proofs.Regions.{flag_read}
use Rattle.memory_rebuild.proofs.Rebuilds.{list_fresh}
use Rattle.memory_rebuild.proofs.update_pieces.Goals as goal

pub is_dirty-requires : goal.is_dirty-requires
is_dirty-requires c = c.requires.list_bounds.spans.in_words

pub rebuild_list-requires : goal.rebuild_list-requires
rebuild_list-requires c = record {
  list_bounds = c.requires.list_bounds;
  words_value = flag_read c.args.words.now _ _ c.is_dirty.ensures c.if-is_dirty.true;
  used_in_bounds = c.requires.used_in_bounds;
}

pub returns-then-is_dirty : goal.returns-then-is_dirty
returns-then-is_dirty c = c.rebuild_list.ensures

pub returns : goal.returns
returns c = list_fresh c.args.s c.args.words.now c.args.cells.now c.args.draws.now c.args.used c.requires.ranks_right
    (flag_read c.args.words.now _ _ c.is_dirty.ensures c.if-is_dirty.false)
