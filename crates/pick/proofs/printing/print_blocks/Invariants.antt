-- `print_blocks`: what it wrote are the lines of the words that it passed. Assumes nothing.
use Rattle.std.proofs.Common.{ℕ, take}
use Rattle.std.specs.Io.KnownBytes.{Appends}
use Rattle.std.specs.List.{flat_map}
use Rattle.pick_state.specs.PickStates.{block_from}
use Rattle.pick.specs.Printed.{block_line}
use Rattle.pick.proofs.printing.print_blocks.Given as goal

abbrev pub invariant-loop-word : goal.invariant-loop-word
invariant-loop-word g l =
    Appends (g.W.Write.contents l.initial.to) (g.W.Write.contents l.to) (flat_map (λ (w : ℕ). block_line (block_from w)) (take l.word-index l.words))
