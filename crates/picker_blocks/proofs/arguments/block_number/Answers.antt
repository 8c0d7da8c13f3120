-- `block_number` meets its contract by that of the conversion: the number fits, and its bits read as itself. Assumes nothing.
use mathlib.Core.Path.{ap, ◌∙◌}
use mir.Syntax.{w32}
use mir.Val.{SFits}
use mir.ValLaws.{to_z-of_z}
use borrow.Author.Rules.{rules}
use Rattle.types.specs.Piece.{number_of}
use Rattle.picker_blocks.proofs.arguments.block_number.Goals as goal

pub returns : goal.returns
returns c = let z = c.args.block.block_index in
    let fit : SFits w32 z = search rules in
    c.i32_to_usize.ensures ∙ ap number_of (to_z-of_z w32 z fit)
