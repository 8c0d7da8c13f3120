-- `judge_dec_refcount_all` meets its contract. Assumes nothing.
use mathlib.Core.Path.{sym, ◌∙◌}
use native.Mathlib.Omega.{arith}
use Rattle.picker_seeds.proofs.SeedLaws.{dec_all_yes, dec_all_no, dec_all_seed}
use borrow.Author.Rules.{rules}
use Rattle.picker_seeds.proofs.seeds.judge_dec_refcount_all.Goals as goal

pub returns-then-seeds-gt0 : goal.returns-then-seeds-gt0
returns-then-seeds-gt0 c = record { is = λ records t. sym (dec_all_seed _ _ _ c.seeds.ensures records (omega (arith, c.if-seeds-gt0.true))) }

pub returns-then-any_between : goal.returns-then-any_between
returns-then-any_between c = let n = c.seeds in
    record {
      is = λ records t. sym (dec_all_yes _ _ _ _ c.piece_column.ensures n.result n.ensures c.requires records t
          (omega (arith, c.if-seeds-gt0.false)) (sym c.any_between.ensures ∙ c.if-any_between.true));
    }

pub returns : goal.returns
returns c = let n = c.seeds in
    record {
      is = λ records t. sym (dec_all_no _ _ _ _ c.piece_column.ensures n.result n.ensures c.requires records t
          (omega (arith, c.if-seeds-gt0.false)) (sym c.any_between.ensures ∙ c.if-any_between.false));
    }
