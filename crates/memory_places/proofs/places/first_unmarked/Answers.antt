-- `first_unmarked` meets its contract: what the search over all gives is what it gives from p on. Assumes nothing.
use mathlib.Core.Path.{◌≡◌, sym, ◌∙◌}
use borrow.Author.Tests.{not-true, not-false}
use native.Mathlib.Omega.{arith}
use Rattle.memory_places.proofs.PlaceLaws.{unmarked_stops, unmarked_goes, unmarked_ends}
use Rattle.memory_places.proofs.places.first_unmarked.Goals as goal

pub first_stretch-start-requires : goal.first_stretch-start-requires
first_stretch-start-requires c = c.requires

pub loop-p-init : goal.loop-p-init
loop-p-init c = c.first_stretch-start.ensures

pub returns-then-not-marks-p : goal.returns-then-not-marks-p
returns-then-not-marks-p c = sym (sym c.loop-p.invariant.1 ∙ unmarked_stops _ _ _ (omega arith) (not-true _ c.if-not-marks-p.true-raw))

pub loop-p-preserved : goal.loop-p-preserved
loop-p-preserved c = (omega arith, sym (unmarked_goes _ _ _ (omega arith) (not-false _ c.if-not-marks-p.false-raw)) ∙ c.loop-p.invariant.1)

pub returns : goal.returns
returns c =
    let all : c.loop-p.p ≡ c.args.places = omega (arith, c.loop-p.invariant.0) in
    sym all ∙ sym (sym c.loop-p.invariant.1 ∙ unmarked_ends _ _ _ (omega arith))
