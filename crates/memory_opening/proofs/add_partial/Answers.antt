-- `add_partial` meets its contract. Assumes nothing.
use native.Mathlib.Omega.{arith}
use mathlib.Core.Path.{refl}
use Rattle.memory_layout.proofs.OffsetLaws.{head_in, places_min}
use Rattle.memory_layout.proofs.BoundsLaws.{blocks_within}
use Rattle.memory_opening.proofs.AddLaws.{rows_below, rows_apart, opened_all}
use borrow.Author.Rules.{rules}
use Rattle.memory_opening.proofs.add_partial.Goals as goal

pub free_place-p-requires : goal.free_place-p-requires
free_place-p-requires c = record {
  sizes = c.requires.in_bounds.spans.in_words.sizes;
  live_lt_places = (c.requires.live_value.1, c.requires.live_value.2);
  places_below = rows_below _ _ _ _ _ c.requires.in_bounds c.requires.live_value.0;
  places_apart = rows_apart _ _ _ _ _ c.requires.in_bounds c.requires.live_value.0;
}

pub fresh_blocks-requires : goal.fresh_blocks-requires
fresh_blocks-requires c = record {
  cells_span = c.requires.in_bounds.spans.in_cells;
  p_lt_places = (c.free_place-p.ensures.1, omega (arith, c.requires.many_value.0, blocks_within _ _ _ _ c.requires.in_bounds c.args.i));
}

pub set_head_word-requires : goal.set_head_word-requires
set_head_word-requires c = record {
  in_bounds = head_in _ _ c.requires.in_bounds.spans.in_words;
  k_bound = omega arith;
}

pub usize_to_u32-requires-2 : goal.usize_to_u32-requires-2
usize_to_u32-requires-2 c = omega (
  arith,
  c.free_place-p.ensures.1,
  c.requires.in_bounds.spans.in_words.sizes.places,
  places_min c.args.s.pieces,
)

pub returns : goal.returns
returns c = opened_all _ _ _ _ _ _ _ _ _ _ _ _ _ c.requires.in_bounds c.requires.live_value.0 c.requires.live_value.1 c.free_place-p.ensures.0 c.free_place-p.ensures.1
    c.requires.many_value.0 c.requires.many_value.1 c.fresh_blocks.ensures c.usize_to_u64.ensures c.set_head_word.ensures
    c.usize_to_u32.ensures c.usize_to_u32-2.ensures refl
