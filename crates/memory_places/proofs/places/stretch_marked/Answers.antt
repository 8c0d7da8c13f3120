-- `stretch_marked` meets its contract: the first k places of the stretch are joined. Assumes nothing.
use Prim.Native.Nat.{◌+◌}
use mathlib.Core.Path.{ap, ◌∙◌}
use mathlib.Core.Bool.{Bool, false, ◌&&◌}
use native.Mathlib.Omega.{arith}
use lib.ListN.{get_or}
use Rattle.memory_places.proofs.PlaceLaws.{through_start, through_more, through_end}
use Rattle.memory_places.proofs.places.stretch_marked.Goals as goal

pub loop-k-init : goal.loop-k-init
loop-k-init c = (omega arith, through_start _ _)

pub loop-k-preserved : goal.loop-k-preserved
loop-k-preserved c = (
  omega arith,
  ap (λ (t : Bool). t && get_or c.args.marks.now (c.args.p + c.loop-k.k) false) c.loop-k.invariant.1 ∙ through_more _ _ _,
)

pub returns : goal.returns
returns c = c.loop-k.invariant.1 ∙ through_end _ _ _ _ (omega arith)
