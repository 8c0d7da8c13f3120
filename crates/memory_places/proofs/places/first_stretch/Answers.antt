-- `first_stretch` meets its contract: the search over all gives what it gives behind k stretches. Assumes nothing.
use Prim.Native.Nat.{ℕ, ◌-◌, ◌*◌, ◌/◌, ◌+◌}
use mathlib.Core.Path.{◌≡◌, sym, ap, ◌∙◌}
use borrow.Author.Tests.{not-false}
use native.Mathlib.Omega.{arith}
use Rattle.memory_places.specs.Places.{unmarked_from}
use Rattle.memory_places.proofs.PlaceLaws.{unmarked_starts, through_goes}
use Rattle.memory_places.proofs.places.first_stretch.Goals as goal

pub loop-k-init : goal.loop-k-init
loop-k-init c = (omega arith, unmarked_starts _ _)

pub returns-then-not-stretch_marked : goal.returns-then-not-stretch_marked
returns-then-not-stretch_marked c = c.loop-k.invariant

pub loop-k-preserved : goal.loop-k-preserved
loop-k-preserved c =
    let through = sym c.stretch_marked.ensures ∙ not-false _ c.if-not-stretch_marked.false-raw in
    let next : 32 * c.loop-k.k + 32 ≡ 32 * (c.loop-k.k + 1) = omega arith in (
      omega arith,
      sym (ap (λ (p : ℕ). unmarked_from c.args.marks.now (c.args.places - p) p) next)
          ∙ sym (through_goes _ 32 _ _ (omega arith) through) ∙ c.loop-k.invariant.1,
    )

pub returns : goal.returns
returns c = let all : c.loop-k.k ≡ c.args.places / 32 = omega arith in rw all at c.loop-k.invariant
