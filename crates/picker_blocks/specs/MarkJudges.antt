-- What the judges of the marks say: the definition's refusal, by the picker that the live rows are the records of. Assumes nothing.
use Rattle.std.specs.Prelude.{◌≡◌, Bool, List, ℕ, Result, ⊤}
use Rattle.types.specs.declared.refusal.Refusal.{Refusal}
use Rattle.std.proofs.Math.Option.{Option}
use Rattle.model.specs.State.{Picker}
use Rattle.model.specs.Calls.{Action, no_partial_left, refusal}
use Rattle.memory_records.specs.declared.record.DownloadingPiece.{DownloadingPiece as Record}
use Rattle.memory_layout.specs.declared.shape.Shape.{Shape}
use Rattle.memory_layout.specs.Decode.{head_word, decode}
use Rattle.memory_layout.specs.Bounds.{InBounds}
use Rattle.picker_calls.specs.Outcomes.{judged}

-- piece i would need a partial more than may stand, beside any records and words of so many partials
pub record NoneLeft (s : Shape) (live : ℕ) (cells : List ℕ) (i : ℕ) (r : Bool) : Type 0 where
  pub is : (records : List Record) (words : List ℕ) → InBounds s records words cells → live ≡ head_word words 7
      → r ≡ no_partial_left (decode records words cells) i

-- the refusal of a mark, whichever peer and options it names
pub record MarkJudged (d : Picker) (mark : (peer : Option ℕ) (options : ℕ) → Action) (r : Result ⊤ Refusal) : Type 0 where
  pub is : (peer : Option ℕ) (options : ℕ) → judged r ≡ refusal d (mark peer options)
