-- `block_num_peers` meets its contract. Assumes nothing.
use mathlib.Core.Option.{none}
use mathlib.Core.Path.{subst}
use borrow.Author.Rules.{rules}
use Rattle.ask_block.specs.Blocks.{number_reply}
use Rattle.memory_blocks.specs.Blocks.{block_of}
use Rattle.model.specs.ask.Questions.{reply_block, block_in, of_block_there, block_num_peers}
use Rattle.model.specs.change.Partials.{partial_of}
use Rattle.memory_rows.specs.Lookup.{picker_in}
use Rattle.ask_block.specs.Blocks.{BlockTold}
use Rattle.ask_block.proofs.BlockAnswers.{asked_of}
use Rattle.ask_block.proofs.states.block_num_peers.Goals as goal

pub returns-in_err-x : goal.returns-in_err-x
unfolding reply_block of_block_there number_reply block_of
returns-in_err-x c = let d = picker_in c.args.live c.args.rows.now c.args.words.now c.args.cells.now in
    let t = subst (BlockTold (block_in (partial_of d c.args.i) c.args.j)) c.in_err-x.was c.block_of.ensures in
    rw c.from_residual.ensures (asked_of d c.args.i c.args.j block_num_peers none t)

pub returns : goal.returns
unfolding reply_block of_block_there number_reply block_of
returns c = let d = picker_in c.args.live c.args.rows.now c.args.words.now c.args.cells.now in
    let t = subst (BlockTold (block_in (partial_of d c.args.i) c.args.j)) c.in_ok-x.was c.block_of.ensures in
    asked_of d c.args.i c.args.j block_num_peers _ t.0
