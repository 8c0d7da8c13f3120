-- `state_due` meets its contract: a law for each case. Assumes nothing.
use mathlib.Core.Logic.{⊎_elim}
use borrow.Author.Tests.{not-true, not-false}
use Rattle.check_partials.proofs.StateLaws.{due_filtered, due_left, due_some, due_full, due_all}
use Rattle.check_partials.proofs.states.state_due.Goals as goal
use Rattle.check_partials.proofs.states.state_due.Goals.{else-busy-eq0, then-busy-eq0+else-not-hashing}

pub returns-then-priority-eq0 : goal.returns-then-priority-eq0
returns-then-priority-eq0 c = due_filtered _ _ _ _ _ c.if-priority-eq0.true

pub returns-then-not-hashing : goal.returns-then-not-hashing
returns-then-not-hashing c = due_left _ _ _ _ _ c.if-priority-eq0.false c.if-busy-eq0.true (not-true _ c.if-not-hashing.true-raw)

pub returns-then-busy-blocks : goal.returns-then-busy-blocks
returns-then-busy-blocks c = due_some _ _ _ _ _ c.if-priority-eq0.false (elim c.if-busy-eq0.branch [ then-busy-eq0+else-not-hashing w ↦ λ _. not-false _ w.if-not-hashing.false-raw | else-busy-eq0 w ↦ λ e. absurd (w.if-busy-eq0.false e) ]) c.if-busy-blocks.true

pub returns-then-requested-gt0 : goal.returns-then-requested-gt0
returns-then-requested-gt0 c = due_full _ _ _ _ _ c.if-priority-eq0.false
    (elim c.if-busy-eq0.branch [ then-busy-eq0+else-not-hashing w ↦ λ _. not-false _ w.if-not-hashing.false-raw | else-busy-eq0 w ↦ λ e. absurd (w.if-busy-eq0.false e) ]) c.if-busy-blocks.false
    c.if-requested-gt0.true

pub returns : goal.returns
returns c = due_all _ _ _ _ _ c.if-priority-eq0.false
    (elim c.if-busy-eq0.branch [ then-busy-eq0+else-not-hashing w ↦ λ _. not-false _ w.if-not-hashing.false-raw | else-busy-eq0 w ↦ λ e. absurd (w.if-busy-eq0.false e) ]) c.if-busy-blocks.false
    c.if-requested-gt0.false
