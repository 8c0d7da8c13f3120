-- `is_short` meets its contract. Assumes nothing.
use mathlib.Core.Bool.{◌||◌}
use lib.Dec.{ltb}
use Rattle.model.specs.Memory.{is_short}
use borrow.Author.Rules.{rules}
use Rattle.image_read.proofs.lengths.is_short.Goals as goal

pub returns : goal.returns
unfolding is_short
returns c = λ t.
    ltb (c.usize_to_u64.ensures t) (c.memory_needed-need.ensures.words_same t)
    || (ltb (c.usize_to_u64-2.ensures t) (c.memory_needed-need.ensures.cells_same t) || ltb (c.usize_to_u64-3.ensures t) (c.memory_needed-need.ensures.partials_same t))
