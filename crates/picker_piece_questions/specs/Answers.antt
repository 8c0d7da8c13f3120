-- What the answers of these questions are in the definition. Assumes nothing.
-- Written by tools/publics.py, and not by hand.
use Rattle.std.specs.Prelude.{Err, Ok, Result}
use Rattle.types.specs.declared.refusal.Refusal.{Refusal}
use Rattle.ask_piece.specs.declared.stats.PieceStats.{PieceStats}
use Rattle.model.specs.Calls.{Answer, refused, replied}
use Rattle.ask_piece.specs.Stats.{stats_reply}

-- how many have a piece, and its bucket
abbrev pub stats_answer : (r : Result PieceStats Refusal) → Answer
stats_answer (Err why) = refused why
stats_answer (Ok x) = replied (stats_reply x)
