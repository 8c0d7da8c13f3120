-- `is_requested` meets its contract. Assumes nothing.
use mathlib.Core.Option.{none}
use mathlib.Core.Path.{subst, ap, ◌∙◌}
use borrow.Author.Rules.{rules}
use Prim.Native.Nat.{ℕ}
use lib.Dec.{eqb}
use Rattle.model.specs.State.{same_block_state}
use Rattle.model.specs.ask.Questions.{reply_block, block_in, block_test, flag, is_requested}
use Rattle.model.specs.change.Partials.{partial_of}
use Rattle.memory_rows.specs.Lookup.{picker_in}
use Rattle.ask_block.specs.Blocks.{BlockTold}
use Rattle.ask_block.proofs.BlockAnswers.{asked_of}
use Rattle.ask_block.proofs.states.is_requested.Goals as goal

pub returns-in_default : goal.returns-in_default
unfolding reply_block block_test same_block_state
returns-in_default c = let d = picker_in c.args.live c.args.rows.now c.args.words.now c.args.cells.now in
    let t = subst (BlockTold (block_in (partial_of d c.args.i) c.args.j)) c.in_default.is c.block_of.ensures in
    asked_of d c.args.i c.args.j is_requested none t

pub returns : goal.returns
unfolding reply_block block_test same_block_state
returns c = let d = picker_in c.args.live c.args.rows.now c.args.words.now c.args.cells.now in
    let t = subst (BlockTold (block_in (partial_of d c.args.i) c.args.j)) c.in-Some.is c.block_of.ensures in
    ap (λ (n : ℕ). flag (eqb n 1)) t.1 ∙ asked_of d c.args.i c.args.j is_requested _ t.0
