-- `rank_by` meets its contract: the rank by the number of the state that the cell means. Assumes nothing.
use mathlib.Core.Path.{◌∙◌}
use native.Mathlib.Omega.{arith}
use borrow.Author.Rules.{rules}
use Rattle.memory_ranks.proofs.Ranking.{rank_of_cells}
use Rattle.memory_ranks.proofs.rank_by.Goals as goal

pub u64_to_u16-requires : goal.u64_to_u16-requires
u64_to_u16-requires c = omega (arith, c.rank.ensures.low)

pub returns : goal.returns
returns c = rank_of_cells _ _ _ _ _ _ _ _ _ _ c.u16_to_u64.ensures (c.u16_to_u64-number.ensures ∙ c.state_number.ensures)
    c.u16_to_u64-2.ensures c.u64_to_u16.ensures c.rank.ensures
