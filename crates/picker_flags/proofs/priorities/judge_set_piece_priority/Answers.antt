-- `judge_set_piece_priority` meets its contract. Assumes nothing.
use mathlib.Core.Path.{sym, ◌∙◌}
use mathlib.Core.Option.{none}
use borrow.Author.Tests.{lt-ltb, le-ltb}
use Rattle.types.specs.declared.refusal.Refusal.TheVariants.{OutOfRange}
use Rattle.model.specs.Calls.{refusal}
use Rattle.picker_calls.proofs.JudgeLaws.{check_yes, check_no, few_yes, few_no, piece_yes, piece_no}
use Rattle.picker_flags.proofs.priorities.judge_set_piece_priority.Goals as goal

pub returns-then-draws-lt4352 : goal.returns-then-draws-lt4352
unfolding refusal
returns-then-draws-lt4352 c = record { is = λ records words cells t. sym (few_yes _ _ c.if-draws-lt4352.true) }

pub returns-then-s-i : goal.returns-then-s-i
unfolding refusal
returns-then-s-i c = record {
  is = λ records words cells t. sym (few_no _ _ c.if-draws-lt4352.false
      ∙ piece_yes _ records words cells t _ _ c.if-s-i.true);
}

pub returns-then-priority-gt7 : goal.returns-then-priority-gt7
unfolding refusal
returns-then-priority-gt7 c = record {
  is = λ records words cells t. sym (few_no _ _ c.if-draws-lt4352.false
      ∙ (piece_no _ records words cells t _ _ c.if-s-i.false ∙ check_yes _ OutOfRange none (lt-ltb 7 _ c.if-priority-gt7.true)));
}

pub returns : goal.returns
unfolding refusal
returns c = record {
  is = λ records words cells t. sym (few_no _ _ c.if-draws-lt4352.false
      ∙ (piece_no _ records words cells t _ _ c.if-s-i.false ∙ check_no _ OutOfRange none (le-ltb 7 _ c.if-priority-gt7.false)));
}
