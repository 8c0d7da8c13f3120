-- `count_extents` meets its contract. The loop's invariant: so many extents stand one after another.
use mathlib.Core.Path.{◌≡◌, sym, subst, ◌∙◌}
use Prim.Native.Nat.{◌-◌}
use native.Mathlib.Omega.{arith}
use borrow.Author.Tests.{not-true, not-false}
use Rattle.image_store.proofs.TailLaws.{Counting, counting_start, counting_next, counting_stop, counting_full}
use Rattle.image_store.specs.Given.{Extents}
use borrow.Author.Rules.{rules}
use Rattle.image_store.proofs.tail.count_extents.Goals as goal

pub loop-k-init : goal.loop-k-init
loop-k-init c = counting_start _ _ c.requires

pub returns-then-not-stands : goal.returns-then-not-stands
returns-then-not-stands c = counting_stop _ _ _ c.loop-k.invariant (sym c.stands.ensures ∙ not-true _ c.if-not-stands.true-raw)

pub loop-k-preserved : goal.loop-k-preserved
loop-k-preserved c = counting_next _ _ _ c.loop-k.invariant (omega arith) (sym c.stands.ensures ∙ not-false _ c.if-not-stands.false-raw)

pub returns : goal.returns
returns c = let e : c.loop-k.k ≡ 5 = omega arith in subst (Extents c.args.at c.args.bytes.now) e (counting_full _ _ _ c.loop-k.invariant (omega arith))
