-- `enter` meets its contract. Assumes nothing.
use borrow.Author.Rules.{rules}
use mathlib.Core.Path.{refl}
use Rattle.model.specs.Lists.{nth, set_nth}
use Rattle.memory_queues.proofs.enter.Goals as goal

pub offset_bounds-queues-n : goal.offset_bounds-queues-n
unfolding nth
offset_bounds-queues-n c = search rules

pub bounds-queues-n : goal.bounds-queues-n
unfolding nth
bounds-queues-n c = c.requires.q_bound_2.0

pub overflow_add-sizes : goal.overflow_add-sizes
unfolding nth
overflow_add-sizes c = search rules

pub returns : goal.returns
unfolding nth set_nth
returns c = record {
  queues_after = refl;
  sizes_after = refl;
}
