-- `num_peers_block` meets its contract. Assumes nothing.
use mathlib.Core.Option.{none}
use mathlib.Core.Path.{subst}
use borrow.Author.Rules.{rules}
use Rattle.memory_blocks.specs.Blocks.{block_of}
use Rattle.model.specs.ask.Questions.{reply_block, block_in, num_peers_of, num_peers_block}
use Rattle.model.specs.change.Partials.{partial_of}
use Rattle.memory_rows.specs.Lookup.{picker_in}
use Rattle.ask_block.specs.Blocks.{BlockTold}
use Rattle.ask_block.proofs.BlockAnswers.{asked_of}
use Rattle.ask_block.proofs.states.num_peers_block.Goals as goal

pub returns-in_default : goal.returns-in_default
unfolding reply_block num_peers_of block_of
returns-in_default c = let d = picker_in c.args.live c.args.rows.now c.args.words.now c.args.cells.now in
    let t = subst (BlockTold (block_in (partial_of d c.args.i) c.args.j)) c.in_default.is c.block_of.ensures in
    asked_of d c.args.i c.args.j num_peers_block none t

pub returns : goal.returns
unfolding reply_block num_peers_of block_of
returns c = let d = picker_in c.args.live c.args.rows.now c.args.words.now c.args.cells.now in
    let t = subst (BlockTold (block_in (partial_of d c.args.i) c.args.j)) c.in-Some.is c.block_of.ensures in
    asked_of d c.args.i c.args.j num_peers_block _ t.0
