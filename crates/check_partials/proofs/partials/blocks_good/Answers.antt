-- `blocks_good` meets its contract: the numbers that the pass gives decide the state. Assumes nothing.
use mathlib.Core.Path.{sym, ◌∙◌}
use native.Mathlib.Omega.{arith}
use borrow.Author.Tests.{not-true, not-false}
use Rattle.memory_layout.proofs.OffsetLaws.{head_in}
use Rattle.check_partials.proofs.GoodLaws.{few_counts, many_is, piece_there, blocks_few, tallied, busy_is, good_rows_lem, good_state}
use borrow.Author.Rules.{rules}
use Rattle.check_partials.proofs.partials.blocks_good.Goals as goal

pub head_word-requires : goal.head_word-requires
head_word-requires c = record {
  in_bounds = head_in _ _ c.requires.ready.spans.in_words;
  k_bound = omega arith;
}

pub head_word-requires-2 : goal.head_word-requires-2
head_word-requires-2 c = record {
  in_bounds = head_in _ _ c.requires.ready.spans.in_words;
  k_bound = omega arith;
}

pub blocks_at-many-requires : goal.blocks_at-many-requires
blocks_at-many-requires c = piece_there _ _ _ c.requires.ready _ _ _ _
    c.head_word.ensures c.head_word-2.ensures c.usize_to_u64.ensures (omega arith)

pub blocks_ok-counted-requires : goal.blocks_ok-counted-requires
blocks_ok-counted-requires c = record {
  cells_span = c.requires.ready.spans.in_cells;
  place_lt_places = (
    omega arith,
    blocks_few _ _ _ c.requires.ready _ _
        (many_is _ _ _ _ _ _ c.head_word.ensures c.head_word-2.ensures
        c.usize_to_u64.ensures (c.u64_to_usize.ensures ∙ c.blocks_at-many.ensures)),
  );
}

pub returns-then-not-counted : goal.returns-then-not-counted
returns-then-not-counted c = let em = many_is _ _ _ _ _ _ c.head_word.ensures
    c.head_word-2.ensures
    c.usize_to_u64.ensures
    (c.u64_to_usize.ensures ∙ c.blocks_at-many.ensures) in (
      good_rows_lem _ _ _ _ _ _ _ _ em _ c.blocks_ok-counted.ensures.all (not-true _ c.if-not-counted.true),
      tallied _ _ _ _ _ _ _
          c.args.hashing em _
          (c.blocks_ok-counted.ensures.requested, (c.blocks_ok-counted.ensures.writing, c.blocks_ok-counted.ensures.finished)),
    )

pub busy_of-busy-requires : goal.busy_of-busy-requires
busy_of-busy-requires c = few_counts _ _ _ c.requires.ready
    _ _ _ (many_is _ _ _ _ _ _ c.head_word.ensures
    c.head_word-2.ensures
    c.usize_to_u64.ensures
    (c.u64_to_usize.ensures ∙ c.blocks_at-many.ensures)) _
    (c.blocks_ok-counted.ensures.requested, (c.blocks_ok-counted.ensures.writing, c.blocks_ok-counted.ensures.finished))

pub piece_cell-state-requires : goal.piece_cell-state-requires
piece_cell-state-requires c = record {
  cells_span = c.requires.ready.spans.in_cells;
  f_bound = (omega arith, omega arith);
}

pub piece_cell-priority-requires : goal.piece_cell-priority-requires
piece_cell-priority-requires c = record {
  cells_span = c.requires.ready.spans.in_cells;
  f_bound = (omega arith, omega arith);
}

pub u64_to_u16-requires : goal.u64_to_u16-requires
u64_to_u16-requires c = omega (
  arith,
  blocks_few _ _ _ c.requires.ready _ _ (many_is _ _ _ _ _ _ c.head_word.ensures c.head_word-2.ensures c.usize_to_u64.ensures
      c.blocks_at-many.ensures),
  c.requires.ready.spans.in_cells.sizes.wide,
)

pub state_ok-requires : goal.state_ok-requires
state_ok-requires c = omega (
  arith,
  c.piece_cell-state.ensures,
  c.requires.ready.states
      c.args.piece
      (omega arith),
)

pub returns : goal.returns
returns c = let em = many_is _ _ _ _ _ _ c.head_word.ensures c.head_word-2.ensures c.usize_to_u64.ensures
    (c.u64_to_usize.ensures
    ∙ c.blocks_at-many.ensures) in (
      good_state _ _ _ _ _ _ _ _ em _ c.blocks_ok-counted.ensures.all
          (not-false _ c.if-not-counted.false) _ _ _ _ _
          c.blocks_ok-counted.ensures.requested
          (c.busy_of-busy.ensures ∙ busy_is _ _ _ _ _ _ _
          c.args.hashing em _ (c.blocks_ok-counted.ensures.requested, (c.blocks_ok-counted.ensures.writing, c.blocks_ok-counted.ensures.finished)))
          c.piece_cell-state.ensures c.piece_cell-priority.ensures
          (c.u64_to_u16.ensures ∙ sym c.u64_to_usize.ensures) _ c.state_ok.ensures,
      tallied _ _ _ _ _ _ _ c.args.hashing em _
          (c.blocks_ok-counted.ensures.requested, (c.blocks_ok-counted.ensures.writing, c.blocks_ok-counted.ensures.finished)),
    )
