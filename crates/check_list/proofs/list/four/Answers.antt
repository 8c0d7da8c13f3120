-- `check_pieces::four` meets its contract: each way out by one law. Assumes nothing.
use Rattle.check_list.proofs.WalkLaws.{first_fails, second_fails, third_fails, fourth}
use borrow.Author.Rules.{rules}
use Rattle.check_list.proofs.list.four.Goals as goal

pub returns-then-first-eq0 : goal.returns-then-first-eq0
returns-then-first-eq0 c = first_fails _ _ _ _ _ _ _ c.step-first.ensures c.if-first-eq0.true

pub returns-then-second-eq0 : goal.returns-then-second-eq0
returns-then-second-eq0 c = second_fails _ _ _ _ _ _ _ c.step-first.ensures
    c.if-first-eq0.false _ _ c.step-second.ensures c.if-second-eq0.true

pub returns-then-third-eq0 : goal.returns-then-third-eq0
returns-then-third-eq0 c = third_fails _ _ _ _ _ _ _ c.step-first.ensures c.if-first-eq0.false _ _ c.step-second.ensures
    c.if-second-eq0.false _ _ c.step-third.ensures c.if-third-eq0.true

pub returns : goal.returns
returns c = fourth _ _ _ _ _ _ _ c.step-first.ensures
    c.if-first-eq0.false _ _ c.step-second.ensures c.if-second-eq0.false _ _
    c.step-third.ensures
    c.if-third-eq0.false _ _ c.step.ensures
