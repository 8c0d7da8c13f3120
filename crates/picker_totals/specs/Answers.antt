-- What the answers of these questions are in the definition. Assumes nothing.
-- Written by tools/publics.py, and not by hand.
use Rattle.std.specs.Prelude.{Err, Ok, Result}
use Rattle.types.specs.declared.refusal.Refusal.{Refusal}
use Rattle.ask_totals.specs.declared.count.PieceCount.{PieceCount}
use Rattle.ask_progress.specs.declared.QueueSizes.{QueueSizes}
use Rattle.model.specs.Calls.{Answer, refused, replied}
use Rattle.ask_totals.specs.Totals.{count_reply}
use Rattle.ask_progress.specs.Sizes.{sizes_reply}

-- pieces, their pad bytes, and whether the last piece is among them
abbrev pub count_answer : (r : Result PieceCount Refusal) → Answer
count_answer (Err why) = refused why
count_answer (Ok x) = replied (count_reply x)

-- how many partials each queue has
abbrev pub sizes_answer : (r : Result QueueSizes Refusal) → Answer
sizes_answer (Err why) = refused why
sizes_answer (Ok x) = replied (sizes_reply x)
