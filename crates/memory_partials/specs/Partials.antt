-- Partials closed and flagged: what becomes of the picker with the records as they will be, the one edit of them made. Assumes nothing.
use Rattle.std.specs.Prelude.{ℕ, ◌+◌, ◌-◌, ◌*◌, ◌/◌, ◌%◌, ◌<◌, ◌≡◌, Bool, true, List}
use Rattle.std.proofs.Math.Option.{some}
use Rattle.model.specs.Lists.{bit}
use Rattle.model.specs.State.{DownloadingPiece, Picker, with_flags}
use Rattle.model.specs.change.Partials.{partial_of, drop_partial, replace_partial}
use Rattle.model.specs.image.Sound.{partials_from}
use Rattle.memory_records.specs.declared.record.DownloadingPiece.{DownloadingPiece as Record}
use Rattle.memory_records.specs.declared.edits.Edit.{Edit}
use Rattle.memory_records.specs.declared.edits.Edit.TheVariants.{Replace, Remove}
use Rattle.memory_records.specs.Records.{edited}
use Rattle.memory_layout.specs.declared.shape.Shape.{Shape}
use Rattle.memory_layout.specs.Decode.{head_word, record_at, decode}
use Rattle.memory_layout.specs.Changes.{partial_in}
use Rattle.memory_layout.specs.Bounds.{InBounds, Plain}
use Rattle.memory_layout.specs.Stores.{WordsKept, ListKept}

-- ---- a change of the words and the cells, and one edit of the records
-- what stands in bounds is changed so, stays in bounds, and stays plain where it was, once the live records are edited so
pub record Edited (s : Shape) (change : Picker → Picker) (edit : Edit) (records : List Record) (words cells words' cells' : List ℕ)
    : Type 0 where
  pub is : decode (edited (head_word words 7) edit records) words' cells' ≡ change (decode records words cells)
  pub bounds : InBounds s (edited (head_word words 7) edit records) words' cells'
  pub plain : Plain s records words cells → Plain s (edited (head_word words 7) edit records) words' cells'

-- ---- closed
-- the partial of a piece that has one is gone once its record is taken out
pub record Closed (s : Shape) (words words' : List ℕ) : Type 0 where
  pub count : head_word words' 7 ≡ head_word words 7 - 1
  pub kept : WordsKept s words words'
  pub list : ListKept s words words'
  pub became : (records : List Record) (cells : List ℕ) → InBounds s records words cells
      → partials_from 0 (decode records words cells).partials ≡ true
      → (i : ℕ) (d : DownloadingPiece) → partial_of (decode records words cells) i ≡ some d
      → Edited s (drop_partial i) (Remove i) records words cells words' cells

-- ---- flagged
-- the flags' number, hashing as it was
unfoldable pub flagged : (passed locked : Bool) (flags : ℕ) → ℕ
flagged passed locked flags = bit passed + 2 * bit locked + 4 * (flags / 4 % 2)

-- r with other flags; with it in the place of r, its partial has them
pub record Flagged (passed locked : Bool) (r r' : Record) : Type 0 where
  pub index : r'.index ≡ r.index
  pub place : r'.info_idx ≡ r.info_idx
  pub flags : r'.flags ≡ flagged passed locked r.flags
  pub became : (s : Shape) (records : List Record) (words cells : List ℕ) → InBounds s records words cells
      → partials_from 0 (decode records words cells).partials ≡ true → (k : ℕ) → k < head_word words 7 → record_at records k ≡ r
      → Edited s (λ d. replace_partial (with_flags passed locked (partial_in d k)) d) (Replace r') records words cells words cells
