-- The rows as the live records of a picker, and what a lookup by piece answers. Assumes nothing.
use Rattle.std.specs.Prelude.{◌≡◌, ◌≢◌, List, ℕ, ◌<◌, None, Option, Some}
use Rattle.std.proofs.Math.Option.{none, some}
use Rattle.model.specs.Lists.{len}
use Rattle.model.specs.State.{Picker}
use Rattle.model.specs.change.Partials.{partial_of}
use Rattle.memory_records.specs.Rows.{row_at, records_in}
use Rattle.memory_layout.specs.declared.shape.Shape.{Shape}
use Rattle.memory_layout.specs.Decode.{head_word, decode}
use Rattle.memory_layout.specs.Changes.{partial_in}
use Rattle.memory_layout.specs.Bounds.{InBounds}

-- the first rows are the live records of what stands in words and cells
pub record LiveRows (s : Shape) (live : ℕ) (rows words cells : List ℕ) : Type 0 where
  pub bounds : InBounds s (records_in live rows) words cells
  pub many : live ≡ head_word words 7

-- the picker of these buffers
abbrev pub picker_in : (live : ℕ) (rows words cells : List ℕ) → Picker
picker_in live rows words cells = decode (records_in live rows) words cells

-- ---- the answer
-- it names the row of piece i, or there is none
abbrev pub RowFound : (live : ℕ) (rows : List ℕ) (i : ℕ) (r : Option ℕ) → Type 0
RowFound live rows i (Some k) = (k < live) × ((row_at rows k).index ≡ i)
RowFound live rows i None = (k : ℕ) → k < live → (row_at rows k).index ≢ i

-- it names the partial of piece i, or there is none
abbrev pub Looked : (d : Picker) (i : ℕ) (r : Option ℕ) → Type 0
Looked d i (Some k) = (k < len d.partials) × (partial_of d i ≡ some (partial_in d k))
Looked d i None = partial_of d i ≡ none

-- in the rows, and in the picker beside any words and cells
pub record FoundIn (live : ℕ) (rows : List ℕ) (i : ℕ) (r : Option ℕ) : Type 0 where
  pub row : RowFound live rows i r
  pub is : (s : Shape) (words cells : List ℕ) → LiveRows s live rows words cells → Looked (picker_in live rows words cells) i r
