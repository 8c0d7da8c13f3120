-- `state_number` meets its contract. Assumes nothing.
use mathlib.Core.Path.{sym}
use Rattle.memory_layout.proofs.Numbers.{queue_number_lem, queue_none}
use Rattle.memory_fields.proofs.pieces.state_number.Goals as goal

pub returns-then-v-lt7 : goal.returns-then-v-lt7
returns-then-v-lt7 c = sym (queue_number_lem c.args.v c.if-v-lt7.true)

pub returns-else-v-lt7 : goal.returns-else-v-lt7
returns-else-v-lt7 c = sym (queue_none c.args.v c.if-v-lt7.false)
