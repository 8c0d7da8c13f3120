-- `update` meets its contract. Assumes nothing.
use borrow.Author.Rules.{rules}
use Rattle.memory_list.proofs.Regions.{flag_read}
use Rattle.memory_update.proofs.Updates.{list_dirty}
use Rattle.memory_update.proofs.update.Goals as goal

pub is_dirty-requires : goal.is_dirty-requires
is_dirty-requires c = c.requires.list_bounds.spans.in_words

pub returns-then-is_dirty : goal.returns-then-is_dirty
returns-then-is_dirty c = list_dirty c.args.s c.args.words.now c.args.cells.now c.requires.list_bounds c.args.draws.now c.args.old c.args.i c.args.used
    (flag_read c.args.words.now _ _ c.is_dirty.ensures c.if-is_dirty.true)

pub update_list-requires : goal.update_list-requires
update_list-requires c = let e = flag_read c.args.words.now _ _ c.is_dirty.ensures c.if-is_dirty.false in
    record {
      list_bounds = c.requires.list_bounds;
      i_lt_pieces = c.requires.i_lt_pieces;
      list_before = c.requires.list_before;
      words_value = e;
      used_in_bounds = c.requires.used_in_bounds;
    }

pub returns : goal.returns
returns c = c.update_list.ensures
