-- `tell` meets its contract. The loop's invariant: so many numbers were looked at and counted.
use Prim.{tt}
use native.Mathlib.Omega.{arith}
use Rattle.image_pass.specs.Quads.{QuadsTold}
use Rattle.image_pass.proofs.QuadLaws.{telling_start, telling_next, telling_end}
use Rattle.image_pass.proofs.quads.tell.Goals as goal

pub loop-j-init : goal.loop-j-init
loop-j-init c = telling_start _ _

pub loop-j-preserved : goal.loop-j-preserved
loop-j-preserved c = telling_next _ _ _ _ _ c.loop-j.j c.loop-j.invariant (omega arith) _ _ _ _ c.quad_ok.ensures c.one_if-wrong.ensures.is c.one_if-free.ensures.is
    c.one_if-requested.ensures.is (c.one_if-wrong.ensures.most, c.one_if-free.ensures.most, c.one_if-requested.ensures.most)

pub returns-then-wrong-ne0 : goal.returns-then-wrong-ne0
unfolding QuadsTold
returns-then-wrong-ne0 c = tt

pub returns : goal.returns
unfolding QuadsTold
returns c = telling_end _ _ _ _ _ _ c.loop-j.invariant (omega arith) (omega (arith, c.if-wrong-ne0.false)) _ c.from.ensures c.from-2.ensures
