-- `state_ok` meets its contract: states are the same where their numbers are. Assumes nothing.
use mathlib.Core.Logic.{⊎_elim, inl, inr}
use Rattle.check_partials.proofs.StateLaws.{state_any, state_due}
use borrow.Author.Rules.{rules}
use Rattle.check_partials.proofs.states.state_ok.Goals as goal
use Rattle.check_partials.proofs.states.state_ok.Goals.{else-priority-gt0, then-priority-gt0+else-busy-eq0}

pub returns-then-busy-eq0 : goal.returns-then-busy-eq0
returns-then-busy-eq0 c = state_any _ _ _ _ _ _ c.if-priority-gt0.true c.if-busy-eq0.true

pub returns : goal.returns
returns c = state_due _ _ _ _ _ _ _ _ (elim c.if-priority-gt0.branch [ then-priority-gt0+else-busy-eq0 w ↦ inl w.if-busy-eq0.false | else-priority-gt0 w ↦ inr w.if-priority-gt0.false ])
    c.plain_state.ensures c.state_due.ensures
