-- `fresh_state` meets its contract. Assumes nothing.
use native.Mathlib.Omega.{arith}
use borrow.Author.Tests.{lt-ltb, le-ltb}
use Rattle.model.specs.Lists.{nth}
use Rattle.model.specs.change.Partials.{fresh_block}
use Rattle.memory_layout.specs.Decode.{state_from}
use Rattle.memory_opening.proofs.fresh_state.Goals as goal

pub returns-then-j-payload : goal.returns-then-j-payload
unfolding fresh_block state_from nth
returns-then-j-payload c = (rw (lt-ltb c.args.j c.args.payload (omega arith)), omega arith)

pub returns-else-j-payload : goal.returns-else-j-payload
unfolding fresh_block state_from nth
returns-else-j-payload c = (rw (le-ltb c.args.j c.args.payload (omega arith)), omega arith)
