-- `block_peer` meets its contract. Assumes nothing.
use Rattle.ask_block.proofs.BlockAnswers.{asked_of, peer_reply_lem}
use Rattle.ask_block.specs.Blocks.{BlockTold}
use Rattle.ask_block.specs.Blocks.{peer_reply}
use Rattle.memory_rows.specs.Lookup.{picker_in}
use Rattle.model.specs.ask.Questions.{reply_block, block_in, of_block_there, block_peer}
use Rattle.model.specs.change.Partials.{partial_of}
use mathlib.Core.Option.{none}
use mathlib.Core.Path.{subst, ap, ◌∙◌}
use borrow.Author.Rules.{rules}
use Rattle.ask_block.proofs.peers.block_peer.Goals as goal

pub returns-in_default : goal.returns-in_default
unfolding reply_block of_block_there peer_reply
returns-in_default c = let d = picker_in c.args.live c.args.rows.now c.args.words.now c.args.cells.now in
    let t = subst (BlockTold (block_in (partial_of d c.args.i) c.args.j)) c.in_default.is c.block_of.ensures in
    asked_of d c.args.i c.args.j block_peer none t

pub returns : goal.returns
unfolding reply_block of_block_there peer_reply
returns c = let d = picker_in c.args.live c.args.rows.now c.args.words.now c.args.cells.now in
    let t = subst (BlockTold (block_in (partial_of d c.args.i) c.args.j)) c.in-Some.is c.block_of.ensures in
    ap peer_reply c.peer_of.ensures ∙ peer_reply_lem _ ∙ asked_of d c.args.i c.args.j block_peer _ t.0
