-- `record_ok` meets its contract: a law for each case. Assumes nothing.
use mathlib.Core.Path.{sym, ◌∙◌}
use mathlib.Core.Bool.{true≢false}
use native.Mathlib.Omega.{arith}
use Rattle.check_partials.proofs.GoodLaws.{part_beyond, part_open, part_flags, part_rest, part_counts}
use borrow.Author.Rules.{rules}
use Rattle.check_partials.proofs.partials.record_ok.Goals as goal

pub returns-then-s-piece : goal.returns-then-s-piece
returns-then-s-piece c = (
  c.refused.ensures ∙ part_beyond _ _ _ _ _ _ c.u32_to_usize-piece.ensures (omega arith),
  λ e. absurd
      (true≢false (sym e ∙ c.refused.ensures)),
)

pub piece_cell-requires : goal.piece_cell-requires
piece_cell-requires c = record {
  cells_span = c.requires.ready.spans.in_cells;
  f_bound = (omega arith, omega arith);
}

pub returns-then-piece_cell-eq4 : goal.returns-then-piece_cell-eq4
returns-then-piece_cell-eq4 c = (
  c.refused-then-piece_cell-eq4.ensures ∙ part_open _ _ _ _ _ _ c.u32_to_usize-piece.ensures (omega arith)
      _ c.piece_cell.ensures c.if-piece_cell-eq4.true,
  λ e. absurd (true≢false (sym e ∙ c.refused-then-piece_cell-eq4.ensures)),
)

pub returns-then-r-gt7 : goal.returns-then-r-gt7
returns-then-r-gt7 c = (
  c.refused-then-r-gt7.ensures ∙ part_flags _ _ _ _ _ _ c.u32_to_usize-piece.ensures (omega arith) _ c.piece_cell.ensures c.if-piece_cell-eq4.false
      (omega arith),
  λ e. absurd (true≢false (sym e ∙ c.refused-then-r-gt7.ensures)),
)

pub blocks_good-requires : goal.blocks_good-requires
blocks_good-requires c = record {
  ready = c.requires.ready;
  piece_lt_pieces = (
    omega arith,
    omega (
      arith,
      c.u32_to_usize.ensures,
      c.requires.info_idx_bound,
    ),
  );
}

pub returns : goal.returns
returns c = (
  part_rest _ _ _ _ _ _ c.u32_to_usize-piece.ensures
      (omega arith) _ c.piece_cell.ensures
      c.if-piece_cell-eq4.false (omega arith) _ c.u32_to_usize.ensures _
      c.blocks_good.ensures.0,
  λ _. part_counts _ _ _ _ c.args.r _ c.u32_to_usize-piece.ensures _
      c.u32_to_usize.ensures _ c.blocks_good.ensures.1,
)
