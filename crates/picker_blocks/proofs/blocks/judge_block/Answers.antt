-- `judge_block` meets its contract. Assumes nothing.
use mathlib.Core.Path.{◌∙◌}
use Rattle.picker_blocks.specs.BlockJudges.{and_then}
use Rattle.picker_calls.proofs.JudgeLaws.{few_yes, few_no}
use Rattle.picker_blocks.proofs.BlockTable.{no_piece, no_block, some_block}
use borrow.Author.Rules.{rules}
use Rattle.picker_blocks.proofs.blocks.judge_block.Goals as goal

pub returns-then-draws-lt4352 : goal.returns-then-draws-lt4352
unfolding and_then
returns-then-draws-lt4352 c = record { is = λ records cells b rest. few_yes _ _ c.if-draws-lt4352.true }

pub returns-then-s-i : goal.returns-then-s-i
unfolding and_then
returns-then-s-i c = record {
  is = λ records cells b rest. few_no _ _ c.if-draws-lt4352.false ∙ no_piece _ records _ cells b _ _ rest c.if-s-i.true;
}

pub returns-then-blocks_in_piece-j : goal.returns-then-blocks_in_piece-j
unfolding and_then
returns-then-blocks_in_piece-j c = record {
  is = λ records cells b rest. few_no _ _ c.if-draws-lt4352.false
      ∙ no_block _ records _ cells b _ _ rest c.if-s-i.false _ c.blocks_in_piece.ensures c.if-blocks_in_piece-j.true;
}

pub returns : goal.returns
unfolding and_then
returns c = record {
  is = λ records cells b rest. few_no _ _ c.if-draws-lt4352.false
      ∙ some_block _ records _ cells b _ _ rest c.if-s-i.false _ c.blocks_in_piece.ensures c.if-blocks_in_piece-j.false;
}
