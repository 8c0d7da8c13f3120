-- `free_place` meets its contract. Assumes nothing.
use mathlib.Core.Path.{subst, sym, ◌∙◌}
use Prim.Native.Nat.{ℕ, ◌<◌}
use native.Mathlib.Omega.{arith}
use borrow.Author.Tests.{eqb-true}
use Rattle.memory_layout.proofs.OffsetLaws.{places_min}
use Rattle.memory_places.proofs.PlaceLaws.{place_there}
use Rattle.memory_places.proofs.LowLaws.{low_lowest}
use Rattle.memory_places.proofs.places.free_place.Goals as goal

pub places_low-requires : goal.places_low-requires
places_low-requires c = let few = c.requires.sizes.places ∙ places_min c.args.s.pieces in
    record {
      live_bound = (omega (arith, few, c.requires.live_lt_places.0), c.requires.live_lt_places.1);
      places_below = λ k h. omega (arith, few, c.requires.places_below k h);
    }

pub returns-then-places_low : goal.returns-then-places_low
returns-then-places_low c = (low_lowest _ _ _ c.requires.live_lt_places.0 c.requires.places_apart (eqb-true _ _ (sym c.places_low.ensures ∙ c.if-places_low.true)), c.requires.live_lt_places.0)

pub first_free-requires : goal.first_free-requires
first_free-requires c = let few = c.requires.sizes.places ∙ places_min c.args.s.pieces in
    record {
      live_bound = (omega (arith, few, c.requires.live_lt_places.0), omega (arith, few), c.requires.live_lt_places.1);
      places_below = λ k h. omega (arith, few, c.requires.places_below k h);
    }

pub returns : goal.returns
returns c = (c.first_free.ensures, subst (λ (p : ℕ). p < c.args.s.places) (sym c.first_free.ensures) (place_there _ _ _ c.requires.live_lt_places.0))
