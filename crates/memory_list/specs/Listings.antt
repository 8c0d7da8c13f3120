-- What the list's functions ask of words and cells, and what they leave. The list does not depend on the records: what is said of a
-- picker is said whatever records stand beside. Assumes nothing.
use Rattle.std.specs.Prelude.{ℕ, ◌≤◌, ◌≡◌, true, List}
use Rattle.model.specs.State.{pieces_in}
use Rattle.model.specs.list.Order.{rank, Drawing, drawing}
use Rattle.model.specs.list.Listed.{ListingOf}
use Rattle.memory_records.specs.declared.record.DownloadingPiece.{DownloadingPiece as Record}
use Rattle.memory_layout.specs.declared.shape.Shape.{Shape}
use Rattle.memory_layout.specs.Decode.{head_word, pieces_on, yes?, decode}
use Rattle.memory_layout.specs.Bounds.{Spans, RanksHeld}
use Rattle.memory_layout.specs.Stores.{BothBecame}
use Rattle.memory_ranks.specs.CellRanks.{Ranges}
use Rattle.list_words.specs.Updating.{former}

-- ---- what is asked
-- the buffers have room, the shape has the pieces that the head gives, the list's length is in bounds, and peer counts and priorities are
-- in range
pub record ListBounds (s : Shape) (words cells : List ℕ) : Type 0 where
  pub spans : Spans s words cells
  pub pieces : s.pieces ≡ pieces_on words
  pub list : head_word words 6 ≤ s.pieces
  pub idle : yes? (head_word words 5) ≡ true → head_word words 6 ≡ 0
  pub ranges : Ranges s.pieces cells

-- beside each piece of the list stands its rank
abbrev pub RanksRight : (s : Shape) (words cells : List ℕ) → Type 0
RanksRight s words cells = (records : List Record) → RanksHeld s.pieces words (rank (decode records words cells))

-- the list is as it was while piece i had rank `old`: dirty, or right by the ranks of then; and it holds those
pub record ListBefore (s : Shape) (words cells : List ℕ) (old i : ℕ) : Type 0 where
  pub order : (records : List Record) → ListingOf (former (rank (decode records words cells)) old i)
      (pieces_in (decode records words cells)) (decode records words cells).listing
  pub ranks : (records : List Record) → RanksHeld s.pieces words (former (rank (decode records words cells)) old i)

-- ---- what is left
-- the picker and its draws went through `step`: the picker is what that gives, the next draw has the number that it gives, and beside each
-- piece of the list stands its rank
pub record ListBecame (s : Shape) (step : Drawing → Drawing) (words words' cells : List ℕ) (used next : ℕ) : Type 0 where
  pub became : BothBecame s (λ d. (step (drawing used d)).picker) words words' cells cells
  pub next_is : (records : List Record) → next ≡ (step (drawing used (decode records words cells))).used
  pub ranks : RanksRight s words' cells
