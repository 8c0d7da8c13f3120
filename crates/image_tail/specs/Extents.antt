-- The extents of an image as they are read. Assumes nothing.
use Rattle.std.specs.Prelude.{ℕ, ◌+◌, ◌*◌, ◌≡◌, List, [], drop, Result}
use Rattle.model.specs.State.{Picker, max_extents, pieces_in, blocks_per_piece, num_extents}
use Rattle.model.specs.image.Image.{field, get_extents}
use Rattle.memory_layout.specs.Tables.{tabulate}
use Rattle.image_pieces.specs.Places.{Went}

-- extent j of those that stand from `start` on
unfoldable pub extent_at : (start : ℕ) (bytes : List ℕ) (j : ℕ) → ℕ
extent_at start bytes j = field (start + 5 * j + 1) 4 bytes

-- the first k of them
unfoldable pub extents_before : (start k : ℕ) (bytes : List ℕ) → List ℕ
extents_before start k bytes = tabulate k (extent_at start bytes)

-- for every picker that has so many extents
abbrev pub ExtentsJudged : (start limit : ℕ) (bytes : List ℕ) (r : Result ℕ ℕ) → Type 0
ExtentsJudged start limit bytes r =
    (s : Picker) → num_extents (pieces_in s) (blocks_per_piece s) ≡ limit → Went (get_extents s max_extents [] (drop start bytes)) bytes r
