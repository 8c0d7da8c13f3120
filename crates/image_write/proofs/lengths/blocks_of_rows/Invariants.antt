-- `blocks_of_rows` meets its contract: after k turns the blocks of k rows are summed up. Assumes nothing.
use Prim.Native.Nat.{◌+◌}
use mathlib.Core.Path.{◌≡◌, refl, ◌∙◌}
use Prim.Native.Nat.{◌-◌, ◌≤◌}
use lib.ListN.{get_or}
use Rattle.model.specs.Bep3.{sum_to}
use Rattle.memory_layout.specs.Decode.{blocks_of}
use Rattle.memory_layout.proofs.OffsetLaws.{head_in}
use Rattle.memory_layout.proofs.StandingLaws.{stands_shape}
use Rattle.ask_picker.proofs.AskedLaws.{asked_queues}
use Rattle.image_parts.proofs.RowLaws.{piece_there, blocks_there}
use Rattle.image_write.proofs.LengthLaws.{sum_next, sum_end, blocks_small}
use borrow.Author.Rules.{rules}
use native.Mathlib.Omega.{arith}
use Rattle.image_write.proofs.lengths.blocks_of_rows.Given as goal

abbrev pub invariant-loop-k : goal.invariant-loop-k
invariant-loop-k l = (l.k ≤ l.live) × (l.sum ≡ sum_to l.k (λ j. blocks_of l.words (get_or l.rows j 0)))
