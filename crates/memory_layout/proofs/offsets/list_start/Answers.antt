-- `list_start` meets its contract: the sum does not wrap. Assumes nothing.
use native.Mathlib.Omega.{arith}
use Rattle.memory_layout.specs.Offsets.{cell, piece_word_at}
use Rattle.memory_layout.proofs.offsets.list_start.Goals as goal

pub overflow_add-result : goal.overflow_add-result
overflow_add-result c = omega (arith, c.requires.many)

pub returns : goal.returns
unfolding piece_word_at cell
returns c = omega arith
