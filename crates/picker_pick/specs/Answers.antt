-- What the public pick answers, and what its core says of all records that its rows are. Assumes nothing.
use Rattle.std.specs.Prelude.{ℕ, ◌≡◌, List, length, Err, Ok, Result}
use Rattle.types.specs.declared.refusal.Refusal.{Refusal}
use Rattle.pick_pieces.specs.declared.pieces.Picked.{Picked}
use Rattle.model.specs.list.Order.{Draws}
use Rattle.model.specs.pick.Blocks.{PickRequest}
use Rattle.memory_records.specs.declared.record.DownloadingPiece.{DownloadingPiece as Record}
use Rattle.memory_records.specs.Rows.{rows_of}
use Rattle.pick_pieces.specs.Whole.{loops_of}
use Rattle.picker_calls.specs.Cores.{lending}
use Rattle.picker_output.specs.Picking.{PickAnswer, not_picked, gave, PickCalled}

-- the answer in the definition's terms
abbrev pub pick_outcome : (r : Result Picked Refusal) → PickAnswer
pick_outcome (Err why) = not_picked why
pick_outcome (Ok p) = gave p.end p.flags (loops_of p) p.used

-- with any records that the rows are, which stay
pub record PickCore (words cells rows : List ℕ) (lent : ℕ) (request : PickRequest) (draws : Draws) (start : ℕ)
    (out words' cells' out' : List ℕ)
    (r : PickAnswer) : Type 0 where
  pub done : (partials : List Record) → length partials ≡ lent → rows ≡ rows_of words partials
      → PickCalled (lending words cells partials) request draws start out (lending words' cells' partials) out' r
