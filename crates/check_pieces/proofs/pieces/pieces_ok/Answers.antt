-- `check_pieces::pieces_ok` meets its contract: the rows of the columns are those of the pieces, and the pads are those of the pieces.
use mathlib.Core.Path.{sym, ◌∙◌}
use native.Mathlib.Omega.{arith}
use borrow.Author.Tests.{not-true, not-false}
use Rattle.check_pieces.proofs.HeadLaws.{headed, head_there}
use Rattle.check_pieces.proofs.PieceTests.{some_piece, piece_there, pads_long, last_most, pads_are, level, rows_bad, rows_good}
use borrow.Author.Rules.{rules}
use Rattle.check_pieces.proofs.pieces.pieces_ok.Goals as goal

pub head_word-size-requires : goal.head_word-size-requires
head_word-size-requires c = record {
  in_bounds = head_there _ _ c.requires.head_passed.0;
  k_bound = omega arith;
}

pub head_word-requires : goal.head_word-requires
head_word-requires c = record {
  in_bounds = head_there _ _ c.requires.head_passed.0;
  k_bound = omega arith;
}

pub u64_to_u16-seeds-requires : goal.u64_to_u16-seeds-requires
u64_to_u16-seeds-requires c = omega (arith, c.head_word.ensures, (headed _ _ c.requires.head_passed.0).seeds)

pub rows_pass-requires : goal.rows_pass-requires
rows_pass-requires c = record {
  level = level _ _ c.requires.head_passed.0 _ c.requires.head_passed.1 _ _ _ _ c.piece_column-counts.ensures c.piece_column-states.ensures
      c.piece_column-priorities.ensures c.piece_column-flushed.ensures;
  seeds_bound = (
    omega (arith, c.u64_to_u16-seeds.ensures, c.head_word.ensures, (headed _ _ c.requires.head_passed.0).seeds),
    omega
        (arith, c.requires.pieces_in_bounds, c.piece_column-counts.ensures.long),
  );
}

pub returns-then-not-rows_pass : goal.returns-then-not-rows_pass
returns-then-not-rows_pass c = rows_bad _ _ c.requires.head_passed.0 _ c.requires.head_passed.1 _ _ _ _ c.piece_column-counts.ensures c.piece_column-states.ensures
    c.piece_column-priorities.ensures c.piece_column-flushed.ensures _ (c.u64_to_u16-seeds.ensures ∙ c.head_word.ensures) _ _
    c.rows_pass.ensures (not-true _ c.if-not-rows_pass.true-raw)

pub overflow_sub-s : goal.overflow_sub-s
overflow_sub-s c = omega (arith, some_piece _ _ c.requires.head_passed.0)

pub head_word-requires-2 : goal.head_word-requires-2
head_word-requires-2 c = record {
  in_bounds = head_there _ _ c.requires.head_passed.0;
  k_bound = omega arith;
}

pub piece_length-long-requires : goal.piece_length-long-requires
piece_length-long-requires c = piece_there _ _ c.requires.head_passed.0 _ _ _ c.usize_to_u64-last.ensures c.head_word-2.ensures c.head_word-size.ensures

pub pad_column-requires : goal.pad_column-requires
pad_column-requires c = c.requires.head_passed.0.in_words

pub pads_ok-requires : goal.pads_ok-requires
pads_ok-requires c = record {
  in_bounds = pads_long _ _ c.requires.head_passed.0 _ c.pad_column.ensures;
  last_le_size = last_most _ _ c.requires.head_passed.0 _ c.pad_column.ensures _ _ _ _
      c.usize_to_u64-last.ensures c.head_word-2.ensures c.head_word-size.ensures
      c.piece_length-long.ensures;
}

pub returns : goal.returns
returns c = rows_good _ _ c.requires.head_passed.0 _ c.requires.head_passed.1 _ _ _ _ c.piece_column-counts.ensures c.piece_column-states.ensures
    c.piece_column-priorities.ensures c.piece_column-flushed.ensures _ (c.u64_to_u16-seeds.ensures ∙ c.head_word.ensures) _ _
    c.rows_pass.ensures (not-false _ c.if-not-rows_pass.false-raw) _
    (c.pads_ok.ensures ∙ sym
    (pads_are _ _ c.requires.head_passed.0 _ c.pad_column.ensures _ _ _ _ c.usize_to_u64-last.ensures
    c.head_word-2.ensures c.head_word-size.ensures c.piece_length-long.ensures))
