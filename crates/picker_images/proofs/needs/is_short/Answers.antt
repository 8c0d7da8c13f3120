-- `is_short` meets its contract: the three tests of the definition. Assumes nothing.
use mathlib.Core.Bool.{◌||◌}
use lib.Dec.{ltb}
use Rattle.model.specs.Memory.{is_short}
use Rattle.memory_layout.specs.Good.{lengths}
use borrow.Author.Rules.{rules}
use Rattle.picker_images.proofs.needs.is_short.Goals as goal

pub returns : goal.returns
unfolding is_short lengths
returns c = λ i. ltb (c.usize_to_u64.ensures i) (c.memory_needed-need.ensures.words_same i)
    || (ltb (c.usize_to_u64-2.ensures i) (c.memory_needed-need.ensures.cells_same i)
    || ltb (c.usize_to_u64-3.ensures i) (c.memory_needed-need.ensures.partials_same i))
