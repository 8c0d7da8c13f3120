-- `check_pieces::lengths_ok` meets its contract: each way out by one law.
use native.Mathlib.Omega.{arith}
use mathlib.Core.Logic.{⊎_elim}
use Rattle.check_pieces.proofs.HeadLaws.{many_dirty, dirty_listed, long_list, many_partials, extents_test}
use Rattle.check_pieces.proofs.head.lengths_ok.Goals as goal
use Rattle.check_pieces.proofs.head.lengths_ok.Goals.{else-dirty-eq1, then-dirty-eq1+else-list-gt0}

pub returns-then-dirty-gt1 : goal.returns-then-dirty-gt1
returns-then-dirty-gt1 c = many_dirty _ _ _ _ _ _ (omega arith)

pub returns-then-list-gt0 : goal.returns-then-list-gt0
returns-then-list-gt0 c = dirty_listed _ _ _ _ _ _ (omega arith) (omega arith)

pub returns-then-n-list : goal.returns-then-n-list
returns-then-n-list c = long_list _ _ _ _ _ _ (omega arith) (omega arith)

pub returns-then-places-partials : goal.returns-then-places-partials
returns-then-places-partials c = many_partials _ _ _ _ _ _ (omega arith) (elim c.if-dirty-eq1.branch [ then-dirty-eq1+else-list-gt0 w ↦ λ e. omega arith | else-dirty-eq1 w ↦ λ e. absurd (w.if-dirty-eq1.false e) ]) (omega arith) (omega arith)

pub returns : goal.returns
returns c = extents_test _ _ _ _ _ _ (omega arith) (elim c.if-dirty-eq1.branch [ then-dirty-eq1+else-list-gt0 w ↦ λ e. omega arith | else-dirty-eq1 w ↦ λ e. absurd (w.if-dirty-eq1.false e) ]) (omega arith) (omega arith)
