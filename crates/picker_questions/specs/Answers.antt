-- What the answers of these questions are in the definition. Assumes nothing.
-- Written by tools/publics.py, and not by hand.
use Rattle.std.specs.Prelude.{Err, Ok, Result}
use Rattle.types.specs.declared.refusal.Refusal.{Refusal}
use Rattle.ask_columns.specs.declared.copies.DistributedCopies.{DistributedCopies}
use Rattle.ask_places.specs.declared.Placed.{Placed}
use Rattle.model.specs.Calls.{Answer, refused, replied}
use Rattle.ask_columns.specs.Copies.{copies_reply}
use Rattle.ask_places.specs.Placed.{placed_reply}

-- the least copies of a piece, and how many pieces have more
abbrev pub copies_answer : (r : Result DistributedCopies Refusal) → Answer
copies_answer (Err why) = refused why
copies_answer (Ok x) = replied (copies_reply x)

-- what stands at a place: a number, nothing, or the list is stale
abbrev pub place_answer : (r : Result Placed Refusal) → Answer
place_answer (Err why) = refused why
place_answer (Ok x) = replied (placed_reply x)
