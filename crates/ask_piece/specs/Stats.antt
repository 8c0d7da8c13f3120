-- What a `PieceStats` tells. Assumes nothing.
use Rattle.std.specs.Prelude.{cond, [], ◌∷◌}
use Rattle.std.proofs.Math.Option.{none, some}
use Rattle.model.specs.Lists.{bit}
use Rattle.model.specs.ask.Questions.{Reply, numbers}
use Rattle.ask_piece.specs.declared.stats.PieceStats.{PieceStats}

-- document 01's values of a `PieceStats`: `none` for its bucket −1
unfoldable pub stats_reply : (r : PieceStats) → Reply
stats_reply r =
    numbers (some r.peer_count
    ∷ cond r.listed (some r.priority) none ∷ some (bit r.flushed) ∷ some (bit r.downloading) ∷ [])
