-- `rank_pieces` meets its contract: the rows of the columns are the pieces. Assumes nothing.
use native.Mathlib.Omega.{arith}
use Rattle.image_store.proofs.RankLaws.{columns_level, rows_ranked, ranks_held}
use borrow.Author.Rules.{rules}
use Rattle.image_store.proofs.ranks.rank_pieces.Goals as goal

pub rank_rows-requires : goal.rank_rows-requires
rank_rows-requires c = record {
  level = columns_level _ _ _ _ _ _ c.requires.cells_span.0 c.piece_column-counts.ensures c.piece_column-states.ensures c.piece_column-priorities.ensures c.piece_column-flushed.ensures;
  rows_ranked = (rows_ranked _ _ _ _ _ _ c.requires.cells_span.0 c.piece_column-counts.ensures c.piece_column-states.ensures c.piece_column-priorities.ensures c.piece_column-flushed.ensures c.requires.cells_span.1, omega (arith, c.requires.seeds_bound.1, c.piece_column-counts.ensures.long));
}

pub returns : goal.returns
returns c = ranks_held _ _ _ _ _ _ c.requires.cells_span.0 c.piece_column-counts.ensures c.piece_column-states.ensures c.piece_column-priorities.ensures
    c.piece_column-flushed.ensures _ _ _ _ c.u64_to_u16.ensures c.rank_rows.ensures
