-- `blocks_of` meets its contract: a block is as long as a piece, and no longer than 16384 bytes. Assumes nothing.
use mathlib.Core.Path.{ap, ◌∙◌}
use native.Mathlib.Omega.{arith}
use Rattle.model.specs.Bep3.{block_count, block_length, parts_of}
use borrow.Author.Rules.{rules}
use Rattle.geometry.proofs.blocks.blocks_of.Goals as goal

pub returns-then-size-gt-BLOCK_SIZE : goal.returns-then-size-gt-BLOCK_SIZE
unfolding block_count block_length
returns-then-size-gt-BLOCK_SIZE c = c.parts_of.ensures ∙ ap (parts_of _) (omega arith)

pub returns : goal.returns
unfolding block_count block_length
returns c = c.parts_of-2.ensures ∙ ap (parts_of _) (omega arith)
