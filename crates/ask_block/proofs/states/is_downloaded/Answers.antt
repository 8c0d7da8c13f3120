-- `is_downloaded` meets its contract. Assumes nothing.
use Prim.Native.Nat.{ℕ}
use Rattle.ask_block.proofs.BlockAnswers.{downloaded_flushed, downloaded_open}
use Rattle.ask_block.specs.Blocks.{BlockTold}
use Rattle.memory_fields.specs.Reading.{CellsSay}
use Rattle.memory_records.specs.Rows.{records_in}
use Rattle.memory_rows.specs.Lookup.{picker_in}
use Rattle.model.specs.State.{piece_at, same_block_state}
use Rattle.model.specs.ask.Questions.{block_in, block_test}
use Rattle.model.specs.change.Changes.{received}
use Rattle.model.specs.change.Partials.{partial_of}
use lib.Dec.{eqb}
use mathlib.Core.Bool.{◌||◌}
use mathlib.Core.Path.{subst, sym, ap, ◌∙◌}
use borrow.Author.Rules.{rules}
use Rattle.ask_block.proofs.states.is_downloaded.Goals as goal

pub returns-then-flushed : goal.returns-then-flushed
returns-then-flushed c = let d = picker_in c.args.live c.args.rows.now c.args.words.now c.args.cells.now in
    let e = (subst (CellsSay c.args.s c.args.cells.now (λ d. (piece_at d c.args.i).flushed)) c.if-flushed.true c.flushed.ensures
    ).is (records_in c.args.live c.args.rows.now) c.args.words.now c.requires.asked.stands.bounds in
    downloaded_flushed d c.args.i c.args.j e

pub returns-in_default : goal.returns-in_default
unfolding block_test
returns-in_default c = let d = picker_in c.args.live c.args.rows.now c.args.words.now c.args.cells.now in
    let t = subst (BlockTold (block_in (partial_of d c.args.i) c.args.j)) c.in_default.is c.block_of.ensures in
    let e = (subst (CellsSay c.args.s c.args.cells.now (λ d. (piece_at d c.args.i).flushed)) c.if-flushed.false c.flushed.ensures
    ).is (records_in c.args.live c.args.rows.now) c.args.words.now c.requires.asked.stands.bounds in
    downloaded_open d c.args.i c.args.j e _ (ap (block_test received) (sym t))

pub returns : goal.returns
unfolding block_test same_block_state received
returns c = let d = picker_in c.args.live c.args.rows.now c.args.words.now c.args.cells.now in
    let t = subst (BlockTold (block_in (partial_of d c.args.i) c.args.j)) c.in-Some.is c.block_of.ensures in
    let e = (subst (CellsSay c.args.s c.args.cells.now (λ d. (piece_at d c.args.i).flushed)) c.if-flushed.false c.flushed.ensures
    ).is (records_in c.args.live c.args.rows.now) c.args.words.now c.requires.asked.stands.bounds in
    downloaded_open d c.args.i c.args.j e _ (ap (λ (n : ℕ). eqb n 2 || eqb n 3) t.1 ∙ ap (block_test received) (sym t.0))
