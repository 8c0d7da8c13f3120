-- `num_peers_full` meets its contract. Assumes nothing.
use mathlib.Core.Path.{subst}
use Rattle.model.specs.change.Partials.{partial_of}
use Rattle.model.specs.ask.Questions.{block_in}
use Rattle.memory_rows.specs.Lookup.{picker_in}
use Rattle.ask_block.specs.Blocks.{BlockTold}
use Rattle.picker_blocks.proofs.MarkTable.{full_there, full_missing}
use borrow.Author.Rules.{rules}
use Rattle.picker_blocks.proofs.marks.num_peers_full.Goals as goal

pub returns-in_default : goal.returns-in_default
returns-in_default c = let a = c.args in
    let d = picker_in a.live a.rows.now a.words.now a.cells.now in
    full_missing d a.i a.j (subst (BlockTold (block_in (partial_of d a.i) a.j)) c.in_default.is c.block_of.ensures)

pub returns : goal.returns
returns c = let a = c.args in
    let d = picker_in a.live a.rows.now a.words.now a.cells.now in
    full_there d a.i a.j _ (subst (BlockTold (block_in (partial_of d a.i) a.j)) c.in-Some.is c.block_of.ensures)
