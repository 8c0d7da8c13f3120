-- `check_pieces::step` meets its contract: each way out by one law.
use native.Mathlib.Omega.{arith}
use Rattle.list_entries.specs.Words.{listed_piece, listed_rank}
use Rattle.check_list.proofs.ListTests.{falls, outside, other_rank, stepped}
use borrow.Author.Rules.{rules}
use Rattle.check_list.proofs.list.step.Goals as goal

pub returns-then-rank-last : goal.returns-then-rank-last
unfolding listed_rank
returns-then-rank-last c = falls _ _ _ _ c.if-rank-last.true

pub returns-then-n-piece : goal.returns-then-n-piece
unfolding listed_piece listed_rank
returns-then-n-piece c = outside _ _ _ _ (omega arith) _ c.u64_to_usize-piece.ensures c.if-n-piece.true

pub returns-then-u16_to_u64-rank : goal.returns-then-u16_to_u64-rank
unfolding listed_piece listed_rank
returns-then-u16_to_u64-rank c = other_rank _ _ _ _ (omega arith) _ c.u64_to_usize-piece.ensures (omega arith) _ c.u16_to_u64.ensures c.if-u16_to_u64-rank.true

pub returns : goal.returns
unfolding listed_piece listed_rank
returns c = stepped _ _ _ _ (omega arith) _ c.u64_to_usize-piece.ensures (omega arith) _ c.u16_to_u64.ensures c.requires.le_last
    (omega arith)
