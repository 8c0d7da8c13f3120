-- `judge_writing` meets its contract. Assumes nothing.
use mathlib.Core.Path.{sym, ◌∙◌}
use mathlib.Core.Option.{none}
use Rattle.types.specs.declared.refusal.Refusal.TheVariants.{TooManyPartials}
use Rattle.model.specs.Calls.{refusal}
use Rattle.memory_layout.proofs.StandingLaws.{stands_shape}
use Rattle.picker_calls.proofs.JudgeLaws.{check_yes, check_no}
use Rattle.picker_blocks.proofs.BlockTable.{front_refused, front_passed, front_place}
use borrow.Author.Rules.{rules}
use Rattle.picker_blocks.proofs.marks.judge_writing.Goals as goal

pub judge_block-requires : goal.judge_block-requires
judge_block-requires c = (c.requires.stands.bounds.spans.in_words, stands_shape _ _ _ _ c.requires.stands.bounds)

pub no_partial_left-requires : goal.no_partial_left-requires
no_partial_left-requires c = let b = c.judge_block in
    record {
      cells_span = c.requires.stands.bounds.spans.in_cells;
      i_lt_pieces = (front_place _ _ _ _ c.requires.stands _ _ _ b.result b.ensures c.in_ok-judge_block.was).0;
    }

pub returns-then-no_partial_left : goal.returns-then-no_partial_left
unfolding refusal
returns-then-no_partial_left c = let b = c.judge_block in
    record {
      is = λ peer options. sym (front_passed _ _ _ _ c.requires.stands _ _ _ b.result b.ensures c.in_ok-judge_block.was _
          ∙ check_yes _ TooManyPartials none (sym (c.no_partial_left.ensures.is _ _ c.requires.stands.bounds c.requires.many) ∙ c.if-no_partial_left.true));
    }

pub returns-in_err-judge_block : goal.returns-in_err-judge_block
unfolding refusal
returns-in_err-judge_block c = let b = c.judge_block in
    record { is = λ peer options. front_refused _ _ _ _ c.requires.stands _ _ _ b.result b.ensures _ c.in_err-judge_block.was c.from_residual.result c.from_residual.ensures.1 _ }

pub returns : goal.returns
unfolding refusal
returns c = let b = c.judge_block in
    record {
      is = λ peer options. sym (front_passed _ _ _ _ c.requires.stands _ _ _ b.result b.ensures c.in_ok-judge_block.was _
          ∙ check_no _ TooManyPartials none (sym (c.no_partial_left.ensures.is _ _ c.requires.stands.bounds c.requires.many) ∙ c.if-no_partial_left.false));
    }
