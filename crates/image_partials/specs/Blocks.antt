-- The blocks of a partial as they are judged: all of them stand there, or one is at fault. Assumes nothing.
use Rattle.std.specs.Prelude.{ℕ, List, Err, Ok, Result}
use Rattle.image_pass.specs.declared.tally.Tally.{Tally}
use Rattle.image_pass.specs.Blocks.{BlocksStand, BlockFails}

unfoldable pub BlocksJudged : (start many : ℕ) (bytes : List ℕ) (r : Result Tally ℕ) → Type 0
BlocksJudged start many bytes (Ok t) = BlocksStand start many bytes t
BlocksJudged start many bytes (Err k) = BlockFails start many bytes k
