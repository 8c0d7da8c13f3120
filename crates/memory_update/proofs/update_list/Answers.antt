-- `update_list` meets its contract: the list's places lent to the mending, and put back. Assumes nothing.
use native.Mathlib.Omega.{arith}
use borrow.Author.Rules.{rules}
use Rattle.memory_ranks.proofs.Ranking.{rank_wide}
use Rattle.memory_list.proofs.Regions.{part_start, part_fits, back_head}
use Rattle.memory_update.proofs.Updates.{update_asks, list_mended}
use Rattle.memory_update.proofs.update_list.Goals as goal

pub rank_at-requires : goal.rank_at-requires
rank_at-requires c = record {
  spans = c.requires.list_bounds.spans;
  ranges = c.requires.list_bounds.ranges;
  i_lt_pieces = c.requires.i_lt_pieces;
}

pub list_start-a-requires : goal.list_start-a-requires
list_start-a-requires c = c.requires.list_bounds.spans.in_words.sizes

pub list_length-len-requires : goal.list_length-len-requires
list_length-len-requires c = c.requires.list_bounds.spans.in_words

pub overflow_add-a : goal.overflow_add-a
overflow_add-a c = let e = part_start c.args.s c.requires.list_bounds.spans.in_words.sizes c.list_start-a.result c.list_start-a.ensures in
    omega (arith, e.0, e.1)

pub offset_bounds-words-a : goal.offset_bounds-words-a
offset_bounds-words-a c = let e = part_start c.args.s c.requires.list_bounds.spans.in_words.sizes c.list_start-a.result c.list_start-a.ensures in
    omega (arith, e.0, e.1)

pub slice_bounds-update-end : goal.slice_bounds-update-end
slice_bounds-update-end c = part_fits c.args.s c.args.words.now c.requires.list_bounds.spans.in_words c.list_start-a.result c.list_start-a.ensures

pub update-done-requires : goal.update-done-requires
update-done-requires c = let all = update_asks c.args.s c.args.words.now c.args.cells.now c.requires.list_bounds c.args.old c.args.i c.requires.i_lt_pieces c.requires.list_before c.requires.words_value c.list_start-a.result
    c.list_start-a.ensures c.list_length-len.result c.list_length-len.ensures.0 c.usize_to_u64-piece.result c.u16_to_u64-was.result c.u16_to_u64-new.result c.usize_to_u64-piece.ensures c.u16_to_u64-was.ensures
    (rank_wide c.u16_to_u64-new.ensures c.rank_at.ensures)
    c.ranges.old.fits c.args.used _ c.requires.used_in_bounds in
    record {
      in_bounds = all.0;
      i_bound = all.1.0;
      bound = all.1.1.0;
      bound_2 = all.1.1.1.0;
      ready = all.1.1.1.1.0;
      used_in_bounds = all.1.1.1.1.1;
    }

pub set_list_length-requires : goal.set_list_length-requires
set_list_length-requires c = back_head c.args.s c.args.words.now c.requires.list_bounds.spans.in_words c.list_start-a.result c.list_start-a.ensures c.update-done.new.list
    c.words-1.given.0

pub returns : goal.returns
returns c = list_mended c.args.s c.args.words.now c.args.cells.now c.requires.list_bounds c.args.old c.args.i c.requires.i_lt_pieces c.requires.list_before c.requires.words_value c.list_start-a.result
    c.list_start-a.ensures c.list_length-len.result c.list_length-len.ensures.0 c.usize_to_u64-piece.result c.u16_to_u64-was.result c.u16_to_u64-new.result c.usize_to_u64-piece.ensures c.u16_to_u64-was.ensures
    (rank_wide c.u16_to_u64-new.ensures c.rank_at.ensures)
    c.args.draws.now c.args.used c.update-done.new.list c.update-done.result.len c.update-done.result.used c.words-1.given.0 c.update-done.ensures
    _ c.set_list_length.ensures
