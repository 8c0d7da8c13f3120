-- The span around a piece, as the code's numbers mean it. Assumes nothing.
use Rattle.std.specs.Prelude.{ℕ, ◌≡◌, Bool, List}
use Rattle.model.specs.pick.Blocks.{Span, expand_piece}
use Rattle.memory_records.specs.declared.record.DownloadingPiece.{DownloadingPiece as Record}
use Rattle.memory_layout.specs.declared.shape.Shape.{Shape}
use Rattle.memory_layout.specs.Decode.{decode}
use Rattle.memory_layout.specs.Bounds.{InBounds}
use Rattle.pick_state.specs.declared.numbers.PickNumbers.{PickNumbers}
use Rattle.pick_state.specs.declared.request.PickRequest.{PickRequest}
use Rattle.pick_state.specs.Requests.{request_of}
use Rattle.pick_state.specs.PickStates.{state_of}
use Rattle.pick_free.specs.declared.spans.Span.{Span as Numbers}

-- the definition's span
unfoldable pub span_is : (r : Numbers) → Span
span_is r = record { first = r.first; end = r.end }

-- the span around piece i that holds the run, whatever stands beside the cells and the run
pub record Expanded (s : Shape) (cells : List ℕ) (q : PickRequest) (bytes : List ℕ) (t : PickNumbers) (i : ℕ) (r : Numbers) : Type 0 where
  pub is : (records : List Record) (words : List ℕ) → InBounds s records words cells
      → (start : ℕ) (out aside : List ℕ) (ignored : List Bool) (loops : List ℕ)
      → span_is r ≡ expand_piece (request_of q bytes) i (state_of start (decode records words cells) t out aside ignored loops)
