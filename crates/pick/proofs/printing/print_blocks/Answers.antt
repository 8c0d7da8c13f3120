-- `print_blocks` meets its contract. Assumes nothing.
use Rattle.std.proofs.Common.{subst, rules}
use Rattle.std.specs.Io.KnownBytes.{Appends}
use Rattle.std.proofs.KnownBytes.{Appends-trans}
use Rattle.model.specs.pick.Blocks.{piece_block}
use Rattle.pick_state.specs.PickStates.{block_from}
use Rattle.pick.proofs.TextLaws.{lines_more}
use Rattle.pick.proofs.printing.print_blocks.Goals as goal

pub loop-word-preserved : goal.loop-word-preserved
unfolding block_from piece_block
loop-word-preserved g c =
    subst (Appends _ _) (lines_more c.args.words.now c.loop-word.word-index (search rules))
    (Appends-trans _ _ _ _ _ c.loop-word.invariant c.in_ok-writeln.ensures.bytes)
