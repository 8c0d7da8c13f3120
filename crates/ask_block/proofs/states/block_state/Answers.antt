-- `block_state` meets its contract. Assumes nothing.
use mathlib.Core.Option.{none}
use mathlib.Core.Path.{subst, ap, ◌∙◌}
use borrow.Author.Rules.{rules}
use Rattle.ask_block.specs.Blocks.{number_reply}
use Rattle.model.specs.ask.Questions.{reply_block, block_in, of_block_there, one, block_state}
use Rattle.model.specs.change.Partials.{partial_of}
use Rattle.memory_rows.specs.Lookup.{picker_in}
use Rattle.ask_block.specs.Blocks.{BlockTold}
use Rattle.ask_block.proofs.BlockAnswers.{asked_of}
use Rattle.ask_block.proofs.states.block_state.Goals as goal

pub returns-in_err-x : goal.returns-in_err-x
unfolding reply_block of_block_there number_reply
returns-in_err-x c = let d = picker_in c.args.live c.args.rows.now c.args.words.now c.args.cells.now in
    let t = subst (BlockTold (block_in (partial_of d c.args.i) c.args.j)) c.in_err-x.was c.block_of.ensures in
    rw c.from_residual.ensures (asked_of d c.args.i c.args.j block_state none t)

pub returns : goal.returns
unfolding reply_block of_block_there number_reply
returns c = let d = picker_in c.args.live c.args.rows.now c.args.words.now c.args.cells.now in
    let t = subst (BlockTold (block_in (partial_of d c.args.i) c.args.j)) c.in_ok-x.was c.block_of.ensures in
    ap one t.1 ∙ asked_of d c.args.i c.args.j block_state _ t.0
