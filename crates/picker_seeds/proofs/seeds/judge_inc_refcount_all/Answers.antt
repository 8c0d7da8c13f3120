-- `judge_inc_refcount_all` meets its contract. Assumes nothing.
use mathlib.Core.Path.{sym, ◌∙◌}
use native.Mathlib.Omega.{arith}
use Rattle.change_seeds.proofs.SeedLaws.{seeds_few}
use Rattle.picker_seeds.proofs.SeedLaws.{inc_all_yes, inc_all_no}
use borrow.Author.Rules.{rules}
use Rattle.picker_seeds.proofs.seeds.judge_inc_refcount_all.Goals as goal

pub overflow_sub-left : goal.overflow_sub-left
overflow_sub-left c = omega (arith, seeds_few _ _ _ c.requires, c.seeds-left.ensures.is c.requires.records c.args.cells.now)

pub returns-then-any_between : goal.returns-then-any_between
returns-then-any_between c = let n = c.seeds-left in
    record {
      is = λ records t. sym (inc_all_yes _ _ _ _ c.piece_column.ensures n.result n.ensures c.requires records t _
          c.u64_to_u16.ensures (sym c.any_between.ensures ∙ c.if-any_between.true));
    }

pub returns : goal.returns
returns c = let n = c.seeds-left in
    record {
      is = λ records t. sym (inc_all_no _ _ _ _ c.piece_column.ensures n.result n.ensures c.requires records t _
          c.u64_to_u16.ensures (sym c.any_between.ensures ∙ c.if-any_between.false));
    }
