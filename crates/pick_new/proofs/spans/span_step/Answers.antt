-- `span_step` meets its contract. Assumes nothing.
use Rattle.pick_new.proofs.RunLaws.{shorter_run, marked_run, payload_run}
use Rattle.pick_new.proofs.InLaws.{words_say, some_blocks, few_blocks, payload_few}
use Rattle.pick_new.specs.Runs.{InWords}
use Rattle.model.specs.pick.Blocks.{take_payload}
use Rattle.model.specs.State.{payload_blocks_in_piece}
use Rattle.model.specs.Lists.{nth, set_nth}
use lib.ListN.{set, length-set}
use mathlib.Core.Bool.{true}
use native.Mathlib.Omega.{arith}
use borrow.Author.Rules.{rules}
use Rattle.pick_new.proofs.spans.span_step.Goals as goal

pub returns-then-ignored-k : goal.returns-then-ignored-k
unfolding nth
returns-then-ignored-k c loops = shorter_run (InWords c.args.s c.args.words.now) take_payload c.args.k c.args.s.blocks c.args.t c.args.out.now c.args.ignored.now loops c.shorter.result
    c.if-ignored-k.true c.shorter.ensures (some_blocks c.requires.run_room.stands)

pub take_payload-requires : goal.take_payload-requires
take_payload-requires c = let e = words_say (λ d. payload_blocks_in_piece d c.args.k) c.payload_blocks-n.ensures c.requires.run_room.picker c.requires.run_room.stands in
    let l = payload_few c.requires.run_room.stands c.args.k in
    let w = few_blocks c.requires.run_room.stands in
    record {
      n_in_bounds = (omega arith, omega arith);
      i_bound = (omega arith, omega arith);
    }

pub returns : goal.returns
unfolding nth set_nth
returns c loops = let e = words_say (λ d. payload_blocks_in_piece d c.args.k) c.payload_blocks-n.ensures c.requires.run_room.picker c.requires.run_room.stands in
    let l = payload_few c.requires.run_room.stands c.args.k in
    marked_run (InWords c.args.s c.args.words.now) take_payload c.args.k c.args.s.blocks c.args.t c.args.out.now c.args.ignored.now loops
    c.if-ignored-k.false (length-set c.args.ignored.now c.args.k true)
    (payload_run (InWords c.args.s c.args.words.now) c.args.k c.payload_blocks-n.result c.args.s.blocks c.take_payload.ensures (omega arith)
    (λ d h. words_say (λ d. payload_blocks_in_piece d c.args.k) c.payload_blocks-n.ensures d h) (set c.args.ignored.now c.args.k true) loops)
