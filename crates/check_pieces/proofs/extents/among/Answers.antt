-- `check_pieces::among` meets its contract. The loop's invariant: the extents that are left decide.
use Prim.Native.Nat.{◌-◌}
use native.Mathlib.Omega.{arith}
use Rattle.check_pieces.proofs.ExtentTests.{Sought, sought_start, sought_found, sought_next, sought_end}
use borrow.Author.Rules.{rules}
use Rattle.check_pieces.proofs.extents.among.Goals as goal

pub loop-j-init : goal.loop-j-init
loop-j-init c = sought_start _ _ _

pub head_word-requires : goal.head_word-requires
head_word-requires c = record {
  in_bounds = c.requires.in_bounds;
  k_bound = omega arith;
}

pub returns-then-e-head_word : goal.returns-then-e-head_word
returns-then-e-head_word c = sought_found _ _ _ c.loop-j.j c.loop-j.invariant (omega arith) _ c.head_word.ensures c.if-e-head_word.true

pub loop-j-preserved : goal.loop-j-preserved
loop-j-preserved c = sought_next _ _ _ c.loop-j.j c.loop-j.invariant (omega arith) _ c.head_word.ensures c.if-e-head_word.false

pub returns : goal.returns
returns c = sought_end _ _ _ c.loop-j.j c.loop-j.invariant (omega arith)
