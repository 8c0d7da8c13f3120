-- `check_pieces::extents_ok` meets its contract. The loop's invariant: the extents that are left decide.
use mathlib.Core.Path.{sym, ◌∙◌}
use Prim.Native.Nat.{◌-◌}
use native.Mathlib.Omega.{arith}
use Rattle.check_pieces.proofs.HeadLaws.{headed, head_there}
use Rattle.check_pieces.proofs.ExtentTests.{Extending, extending_start, far_extent, twice_extent, next_extent, extents_end}
use borrow.Author.Rules.{rules}
use Rattle.check_pieces.proofs.extents.extents_ok.Given as goal

abbrev pub invariant-loop-k : goal.invariant-loop-k
invariant-loop-k l = Extending l.words l.k
