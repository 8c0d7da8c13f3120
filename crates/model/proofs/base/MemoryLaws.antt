-- The test of lent memory says of each buffer that it is long enough.
use mathlib.Core.Path.{◌≡◌}
use mathlib.Core.Bool.{false, ◌||◌}
use Prim.Native.Nat.{◌≤◌}
use lib.Dec.{ltb}
use borrow.Author.Tests.{le-ltb, ltb-false}
use Rattle.model.specs.Memory.{Memory, is_short}
use Rattle.model.proofs.base.Truths.{or_no_left, or_no_right}

-- every buffer is as long as is needed
pub record Enough (lent need : Memory) : Type 0 where
  pub words : need.words ≤ lent.words
  pub cells : need.cells ≤ lent.cells
  pub partials : need.partials ≤ lent.partials

-- then the test finds none short
pub enough_long : (lent need : Memory) → Enough lent need → is_short lent need ≡ false
unfolding is_short
enough_long lent need e = rw (
  le-ltb lent.words need.words e.words,
  le-ltb lent.cells need.cells e.cells,
  le-ltb lent.partials need.partials e.partials,
)

-- and only then
pub long_enough : (lent need : Memory) → is_short lent need ≡ false → Enough lent need
unfolding is_short
long_enough lent need h =
    let first = or_no_left _ (ltb lent.cells need.cells || ltb lent.partials need.partials) h in
    let more = or_no_right (ltb lent.words need.words) _ h in
    record {
      words = ltb-false lent.words need.words first;
      cells = ltb-false lent.cells need.cells (or_no_left _ (ltb lent.partials need.partials) more);
      partials = ltb-false lent.partials need.partials (or_no_right (ltb lent.cells need.cells) _ more);
    }
