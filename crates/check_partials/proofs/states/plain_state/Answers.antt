-- `plain_state` meets its contract: the reverse states stand five numbers above the plain ones. Assumes nothing.
use native.Mathlib.Omega.{arith}
use Rattle.memory_layout.proofs.Numbers.{plain_low, plain_high}
use Rattle.check_partials.proofs.states.plain_state.Goals as goal

pub returns-then-state-lt5 : goal.returns-then-state-lt5
returns-then-state-lt5 c = plain_low _ (omega arith)

pub returns : goal.returns
returns c = plain_high _ (omega arith) (omega arith)
