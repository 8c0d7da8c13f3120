-- What the test of the memory says, as the definition's refusal, and what stands before and after its parts. Assumes nothing.
use Rattle.std.specs.Prelude.{ℕ, ◌≡◌, Bool, true, ◌&&◌, List, length, Result, Ok, Err, ⊤}
use Rattle.std.proofs.Math.Option.{Option, none, some}
use Rattle.types.specs.declared.refusal.Refusal.{Refusal}
use Rattle.memory_records.specs.declared.record.DownloadingPiece.{DownloadingPiece as Record}
use Rattle.memory_records.specs.Rows.{live_records, records_in}
use Rattle.memory_layout.specs.declared.shape.Shape.{Shape}
use Rattle.memory_layout.specs.Decode.{head_word, decode}
use Rattle.memory_layout.specs.Bounds.{ShapeOf, Spans}
use Rattle.memory_layout.specs.Good.{good_pieces, good_places, good_partials, good_extents, good_list, memory_refusal}
use Rattle.check_pieces.specs.Parts.{HeadPassed}
use Rattle.check_partials.specs.Records.{CountsHeld}

-- the refusal that a verdict is
unfoldable pub refusal_of : (v : Result ⊤ Refusal) → Option Refusal
refusal_of (Ok _) = none
refusal_of (Err why) = some why

-- ---- behind the head
-- the parts of the test
unfoldable pub good_rows : (records : List Record) (words cells : List ℕ) → Bool
good_rows records words cells =
    good_pieces records words cells
    && (good_places records words && (good_partials records words cells && (good_extents records words cells
    && good_list records words cells)))

-- what stands before them: the head passed, both buffers are long enough, and so many records are live
pub record Begun (s : Shape) (live : ℕ) (words cells : List ℕ) : Type 0 where
  pub passed : HeadPassed s words
  pub shape : ShapeOf s words
  pub spans : Spans s words cells
  pub many : live ≡ head_word words 7

-- what they leave: the answer, and the counts where it is yes
pub record RowTest (r : Bool) (live : ℕ) (rows words cells counts : List ℕ) : Type 0 where
  pub is : r ≡ good_rows (records_in live rows) words cells
  pub counted : r ≡ true → CountsHeld (decode (records_in live rows) words cells) live counts
  pub long : length counts ≡ 1536

-- ---- the whole test
pub record Checked (v : Result ⊤ Refusal) (lent : ℕ) (rows words cells counts : List ℕ) : Type 0 where
  pub is : refusal_of v ≡ memory_refusal lent (records_in (live_records words) rows) words cells
  pub counted : v ≡ Ok tt → CountsHeld (decode (records_in (live_records words) rows) words cells) (head_word words 7) counts
  pub long : length counts ≡ 1536
