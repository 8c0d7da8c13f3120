-- `make` meets its contract: a head, then the columns that are read. Assumes nothing.
use Prim.Native.Nat.{◌+◌}
use Rattle.memory_new.proofs.FillLaws.{part_filled}
use Rattle.memory_new.proofs.FreshLaws.{head_room, mid_room, mid_valid, words_room, cells_room, made-new}
use native.Mathlib.Omega.{arith}
use Rattle.memory_new.proofs.make.Goals as goal

pub fresh_head-requires : goal.fresh_head-requires
fresh_head-requires c = head_room _ _ _ _ c.requires.room

pub shape_of-s-requires : goal.shape_of-s-requires
shape_of-s-requires c = record {
  in_bounds = mid_room _ _ _ _ _ _ c.requires.size_value c.requires.room c.num_pieces.ensures c.fresh_head.ensures;
  words_value = mid_valid _ _ _ _ _ _ c.requires.size_value c.requires.room c.num_pieces.ensures c.fresh_head.ensures;
}

pub overflow_add-n : goal.overflow_add-n
overflow_add-n c = omega (arith, words_room _ _ _ _ _ _ c.requires.size_value c.requires.room c.num_pieces.ensures c.fresh_head.ensures _ c.shape_of-s.ensures)

pub slice_bounds-fill-end : goal.slice_bounds-fill-end
slice_bounds-fill-end c = words_room _ _ _ _ _ _ c.requires.size_value c.requires.room c.num_pieces.ensures c.fresh_head.ensures _ c.shape_of-s.ensures

pub fresh_cells-requires : goal.fresh_cells-requires
fresh_cells-requires c = (omega (arith, c.shape_of-s.ensures.sizes.many), cells_room _ _ _ _ _ _ c.requires.size_value c.requires.room c.num_pieces.ensures c.fresh_head.ensures _ c.shape_of-s.ensures)

pub returns : goal.returns
returns c = made-new _ _ _ _ _ _ c.requires.size_value c.requires.room c.num_pieces.ensures c.fresh_head.ensures _ c.shape_of-s.ensures _ _
    (part_filled 16 (16 + c.shape_of-s.result.pieces) 0 _ _ (omega arith) (words_room _ _ _ _ _ _ c.requires.size_value c.requires.room
    c.num_pieces.ensures c.fresh_head.ensures _ c.shape_of-s.ensures) (c.fill.ensures.after (λ y e. e))) c.fresh_cells.ensures
