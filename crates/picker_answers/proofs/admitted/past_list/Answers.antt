-- `past_list` meets its contract. Assumes nothing.
use mathlib.Core.Path.{sym, ◌∙◌}
use Rattle.picker_answers.proofs.AdmittedLaws.{dirty_place, fresh_place}
use borrow.Author.Rules.{rules}
use Rattle.picker_answers.proofs.admitted.past_list.Goals as goal

pub returns-then-is_dirty : goal.returns-then-is_dirty
returns-then-is_dirty c = record { is = λ records cells q. dirty_place _ _ (sym (c.is_dirty.ensures.is records cells) ∙ c.if-is_dirty.true) }

pub returns : goal.returns
returns c = record {
  is = λ records cells q.
      fresh_place _ _ _ (sym (c.is_dirty.ensures.is records cells) ∙ c.if-is_dirty.false)
      (c.list_length.ensures.1.is records cells q);
}
