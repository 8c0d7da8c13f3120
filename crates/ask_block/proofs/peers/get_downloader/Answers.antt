-- `get_downloader` meets its contract. Assumes nothing.
use Rattle.ask_block.proofs.BlockAnswers.{asked_of, peer_reply_lem, downloader_free, downloader_busy}
use Rattle.ask_block.specs.Blocks.{BlockTold}
use Rattle.ask_block.specs.Blocks.{peer_reply}
use Rattle.memory_rows.specs.Lookup.{picker_in}
use Rattle.model.specs.ask.Questions.{reply_block, block_in, downloader_of, get_downloader}
use Rattle.model.specs.change.Partials.{partial_of}
use mathlib.Core.Option.{none}
use mathlib.Core.Path.{subst, ap, ◌∙◌}
use borrow.Author.Rules.{rules}
use Rattle.ask_block.proofs.peers.get_downloader.Goals as goal

pub returns-in_default : goal.returns-in_default
unfolding reply_block downloader_of peer_reply
returns-in_default c = let d = picker_in c.args.live c.args.rows.now c.args.words.now c.args.cells.now in
    let t = subst (BlockTold (block_in (partial_of d c.args.i) c.args.j)) c.in_default.is c.block_of.ensures in
    asked_of d c.args.i c.args.j get_downloader none t

pub returns-then-x-eq0 : goal.returns-then-x-eq0
unfolding peer_reply
returns-then-x-eq0 c = let d = picker_in c.args.live c.args.rows.now c.args.words.now c.args.cells.now in
    let t = subst (BlockTold (block_in (partial_of d c.args.i) c.args.j)) c.in-Some.is c.block_of.ensures in
    downloader_free d c.args.i c.args.j _ t.0 t.1 c.if-x-eq0.true

pub returns : goal.returns
returns c = let d = picker_in c.args.live c.args.rows.now c.args.words.now c.args.cells.now in
    let t = subst (BlockTold (block_in (partial_of d c.args.i) c.args.j)) c.in-Some.is c.block_of.ensures in
    ap peer_reply c.peer_of.ensures ∙ peer_reply_lem _ ∙ downloader_busy d c.args.i c.args.j _ t.0 t.1 c.if-x-eq0.false
