-- `rank_at` meets its contract. Assumes nothing.
use native.Mathlib.Omega.{arith}
use Rattle.memory_layout.proofs.OffsetLaws.{head_in}
use Rattle.memory_ranks.proofs.Ranking.{cells_most, rank_is}
use Rattle.memory_ranks.proofs.rank_at.Goals as goal

pub head_word-seeds-requires : goal.head_word-seeds-requires
head_word-seeds-requires c = record {
  in_bounds = head_in c.args.s c.args.words.now c.requires.spans.in_words;
  k_bound = omega arith;
}

pub piece_cell-peer_count-requires : goal.piece_cell-peer_count-requires
piece_cell-peer_count-requires c = record {
  cells_span = c.requires.spans.in_cells;
  f_bound = (omega arith, c.requires.i_lt_pieces);
}

pub piece_cell-state-requires : goal.piece_cell-state-requires
piece_cell-state-requires c = record {
  cells_span = c.requires.spans.in_cells;
  f_bound = (omega arith, c.requires.i_lt_pieces);
}

pub piece_cell-priority-requires : goal.piece_cell-priority-requires
piece_cell-priority-requires c = record {
  cells_span = c.requires.spans.in_cells;
  f_bound = (omega arith, c.requires.i_lt_pieces);
}

pub piece_cell-flushed-requires : goal.piece_cell-flushed-requires
piece_cell-flushed-requires c = record {
  cells_span = c.requires.spans.in_cells;
  f_bound = (omega arith, c.requires.i_lt_pieces);
}

pub rank_by-requires : goal.rank_by-requires
rank_by-requires c = let all = cells_most c.args.s c.args.words.now c.args.cells.now c.args.i c.requires.i_lt_pieces c.requires.ranges _ _ c.piece_cell-peer_count.ensures
    c.piece_cell-priority.ensures in
    record {
      peer_count_le_max_peers = all.0;
      priority_le_max_priority = all.1;
    }

pub returns : goal.returns
returns c = rank_is c.args.s c.args.words.now c.args.cells.now c.args.i c.requires.i_lt_pieces _ _ _ _ _ _ c.head_word-seeds.ensures c.piece_cell-peer_count.ensures
    c.piece_cell-state.ensures c.piece_cell-priority.ensures c.piece_cell-flushed.ensures c.rank_by.ensures
