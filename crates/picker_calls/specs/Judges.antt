-- What a judge says of a call whose memory is admitted: the definition's refusal of it. Assumes nothing.
use Rattle.std.specs.Prelude.{◌≡◌, List, ℕ, Result, ⊤}
use Rattle.std.proofs.Math.Option.{Option}
use Rattle.types.specs.declared.refusal.Refusal.{Refusal}
use Rattle.model.specs.State.{Picker}
use Rattle.model.specs.Calls.{Action, refusal}
use Rattle.memory_records.specs.declared.record.DownloadingPiece.{DownloadingPiece as Record}
use Rattle.memory_layout.specs.declared.shape.Shape.{Shape}
use Rattle.memory_layout.specs.Decode.{decode}
use Rattle.memory_layout.specs.Standing.{Stands}
use Rattle.picker_calls.specs.Outcomes.{judged}

-- by words and cells: whichever records make a picker stand beside them
pub record JudgedBeside (s : Shape) (words cells : List ℕ) (a : Action) (r : Result ⊤ Refusal) : Type 0 where
  pub is : (records : List Record) → Stands s records words cells → judged r ≡ refusal (decode records words cells) a

-- by the shape: whichever buffers a picker of this shape stands in
pub record JudgedShape (s : Shape) (table : Picker → Option Refusal) (r : Result ⊤ Refusal) : Type 0 where
  pub is : (records : List Record) (words cells : List ℕ) → Stands s records words cells → judged r ≡ table (decode records words cells)
