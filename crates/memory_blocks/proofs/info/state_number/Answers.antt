-- `state_number` meets its contract. Assumes nothing.
use mathlib.Core.Path.{sym}
use Rattle.memory_layout.proofs.Numbers.{state_number, state_none}
use Rattle.memory_blocks.proofs.info.state_number.Goals as goal

pub returns-then-v-lt4 : goal.returns-then-v-lt4
returns-then-v-lt4 c = sym (state_number c.args.v c.if-v-lt4.true)

pub returns-else-v-lt4 : goal.returns-else-v-lt4
returns-else-v-lt4 c = sym (state_none c.args.v c.if-v-lt4.false)
