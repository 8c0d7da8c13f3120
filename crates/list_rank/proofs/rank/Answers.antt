-- `rank` meets its contract: 0, or one more than the bucket, and at most 21,021. Assumes nothing.
use borrow.Author.Rules.{rules}
use mathlib.Core.Path.{sym, ◌∙◌}
use native.Mathlib.Omega.{arith}
use Rattle.list_rank.proofs.Ranking.{product, taken_off, rank_none, rank_some}
use Rattle.list_rank.proofs.rank.Goals as goal

pub returns-then-unlisted : goal.returns-then-unlisted
returns-then-unlisted c = rank_none c.args.seeds c.args.peer_count c.args.state c.args.priority c.args.flushed (sym c.unlisted.ensures
    ∙ c.if-unlisted.true)

pub overflow_mul-result : goal.overflow_mul-result
overflow_mul-result c = omega (
  arith,
  product c.args.seeds c.args.peer_count c.args.state c.args.priority c.args.flushed
      (sym c.unlisted.ensures ∙ c.if-unlisted.false) c.requires.peer_count_le_max_peers c.requires.priority_le_max_priority,
)

pub overflow_mul-result-2 : goal.overflow_mul-result-2
overflow_mul-result-2 c = omega (
  arith,
  product c.args.seeds c.args.peer_count c.args.state c.args.priority c.args.flushed
      (sym c.unlisted.ensures ∙ c.if-unlisted.false) c.requires.peer_count_le_max_peers c.requires.priority_le_max_priority,
)

pub overflow_sub-result-2 : goal.overflow_sub-result-2
overflow_sub-result-2 c = omega (
  arith,
  product c.args.seeds c.args.peer_count c.args.state c.args.priority c.args.flushed
      (sym c.unlisted.ensures ∙ c.if-unlisted.false) c.requires.peer_count_le_max_peers c.requires.priority_le_max_priority,
  taken_off c.args.seeds c.args.peer_count
      c.args.state c.args.priority c.args.flushed (sym c.unlisted.ensures ∙ c.if-unlisted.false) c.requires.peer_count_le_max_peers
      c.requires.priority_le_max_priority,
  c.adjustment.ensures,
)

pub overflow_add-result-2 : goal.overflow_add-result-2
overflow_add-result-2 c = omega (
  arith,
  product c.args.seeds c.args.peer_count c.args.state c.args.priority c.args.flushed
      (sym c.unlisted.ensures ∙ c.if-unlisted.false) c.requires.peer_count_le_max_peers c.requires.priority_le_max_priority,
  taken_off c.args.seeds c.args.peer_count
      c.args.state c.args.priority c.args.flushed (sym c.unlisted.ensures ∙ c.if-unlisted.false) c.requires.peer_count_le_max_peers
      c.requires.priority_le_max_priority,
  c.adjustment.ensures,
)

pub returns : goal.returns
returns c = rank_some c.args.seeds c.args.peer_count c.args.state c.args.priority c.args.flushed (sym c.unlisted.ensures
    ∙ c.if-unlisted.false) c.requires.peer_count_le_max_peers c.requires.priority_le_max_priority c.adjustment.result c.adjustment.ensures
