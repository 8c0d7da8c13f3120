-- `piece_stats` meets its contract. Assumes nothing.
use mathlib.Core.Path.{refl}
use borrow.Author.Rules.{rules}
use Rattle.ask_piece.proofs.PieceLaws.{in_range_lem, stats_says}
use Rattle.ask_piece.proofs.stats.piece_stats.Goals as goal

pub rank_at-rank-requires : goal.rank_at-rank-requires
rank_at-rank-requires c = record {
  spans = c.requires.stands_beside.stands.bounds.spans;
  ranges = in_range_lem c.args.s c.args.words.now c.args.cells.now c.requires.stands_beside;
  i_lt_pieces = c.requires.i_lt_pieces;
}

pub returns : goal.returns
returns c = stats_says c.args.s c.args.words.now c.args.cells.now c.args.i _ _ _ c.get_availability-peers.ensures c.rank_at-rank.ensures
    c.flushed-is_flushed.ensures c.state-state.ensures refl c.bucket_of.ensures refl
