-- `judge_dec_refcount` meets its contract. Assumes nothing.
use mathlib.Core.Path.{sym, ◌∙◌}
use Rattle.model.specs.Calls.{refusal}
use Rattle.picker_calls.proofs.JudgeLaws.{few_yes, few_no, piece_yes, piece_no}
use Rattle.picker_changes.proofs.CountLaws.{nobody_yes, nobody_no}
use borrow.Author.Rules.{rules}
use Rattle.picker_changes.proofs.counts.judge_dec_refcount.Goals as goal

pub returns-then-draws-lt4352 : goal.returns-then-draws-lt4352
unfolding refusal
returns-then-draws-lt4352 c = record { is = λ records t. sym (few_yes _ _ c.if-draws-lt4352.true) }

pub returns-then-s-i : goal.returns-then-s-i
unfolding refusal
returns-then-s-i c = record {
  is = λ records t. sym (few_no _ _ c.if-draws-lt4352.false ∙ piece_yes _ records _ _ t _ _ c.if-s-i.true);
}

pub returns-then-get_availability-eq0 : goal.returns-then-get_availability-eq0
unfolding refusal
returns-then-get_availability-eq0 c = record {
  is = λ records t. sym (few_no _ _ c.if-draws-lt4352.false
      ∙ (piece_no _ records _ _ t _ _ c.if-s-i.false
      ∙ nobody_yes _ _ _ _ _ c.get_availability.ensures records t c.if-get_availability-eq0.true));
}

pub returns : goal.returns
unfolding refusal
returns c = record {
  is = λ records t. sym (few_no _ _ c.if-draws-lt4352.false
      ∙ (piece_no _ records _ _ t _ _ c.if-s-i.false
      ∙ nobody_no _ _ _ _ _ c.get_availability.ensures records t c.if-get_availability-eq0.false));
}
