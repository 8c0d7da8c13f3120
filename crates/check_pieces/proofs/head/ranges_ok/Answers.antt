-- `check_pieces::ranges_ok` meets its contract: each way out by one law.
use native.Mathlib.Omega.{arith}
use Rattle.check_pieces.proofs.HeadLaws.{many_seeds, far_cursor, reverse_test}
use Rattle.check_pieces.proofs.head.ranges_ok.Goals as goal

pub returns-then-seeds-gt1000 : goal.returns-then-seeds-gt1000
returns-then-seeds-gt1000 c = many_seeds _ _ _ _ (omega arith)

pub returns-then-n-cursor : goal.returns-then-n-cursor
returns-then-n-cursor c = far_cursor _ _ _ _ (omega arith) (omega arith)

pub returns : goal.returns
returns c = reverse_test _ _ _ _ (omega arith) (omega arith)
