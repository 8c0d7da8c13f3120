-- A stretch of 128 pieces of an image, ten bytes each, by their numbers in columns. Assumes nothing.
use Rattle.std.specs.Prelude.{ℕ, ◌+◌, ◌*◌, ◌≤◌, ◌<◌, ◌≡◌, Bool, true, List, length, get_or, drop}
use Rattle.model.specs.State.{Picker, piece_size_at}
use Rattle.model.specs.list.Order.{bucket, rank_of}
use Rattle.model.specs.image.Image.{piece_kind, got, field, judged, last_queue, piece_of, read_piece}
use Rattle.image_bytes.specs.Put.{FieldRead}
use Rattle.image_records.specs.Records.{body_at}

-- a number of each piece in each column
pub record Columns (counts states priorities flushed : List ℕ) : Type 0 where
  pub counts_long : length counts ≡ 128
  pub states_long : length states ≡ 128
  pub priorities_long : length priorities ≡ 128
  pub flushed_long : length flushed ≡ 128

-- the numbers of the piece at a place, whose pad bytes are at most `size`
pub record PieceRow (size at : ℕ) (bytes : List ℕ) (count state priority flushed : ℕ) : Type 0 where
  pub pad : ℕ
  pub kind_read : FieldRead at 1 bytes piece_kind
  pub count_read : FieldRead (at + 1) 2 bytes count
  pub state_read : FieldRead (at + 3) 1 bytes state
  pub priority_read : FieldRead (at + 4) 1 bytes priority
  pub flushed_read : FieldRead (at + 5) 1 bytes flushed
  pub pad_read : FieldRead (at + 6) 4 bytes pad
  pub pad_most : pad ≤ size

-- those of so many pieces from `start` on, where nothing was found wrong
pub record Gathered (start many size : ℕ) (bytes counts states priorities flushed : List ℕ) (r : Bool) : Type 0 where
  pub columns : Columns counts states priorities flushed
  pub each : r ≡ true → (j : ℕ) → j < many
      → PieceRow size (start + 10 * j) bytes (get_or counts j 0) (get_or states j 0) (get_or priorities j 0) (get_or flushed j 0)

-- a piece stands at a place, well by the definition's rule where it has `size` bytes, and r is its rank
pub record PieceWell (seeds size at : ℕ) (bytes : List ℕ) (r : ℕ) : Type 0 where
  pub is : (s : Picker) (i : ℕ) → s.seeds ≡ seeds → piece_size_at s i ≡ size
      → judged piece_kind (read_piece s i) (drop at bytes) ≡ got (piece_of (body_at piece_kind at bytes)) (drop (at + 10) bytes)
  pub state : field 2 1 (body_at piece_kind at bytes) ≤ last_queue
  pub rank : r ≡ rank_of (bucket seeds (piece_of (body_at piece_kind at bytes)))

-- 128 pieces from `start` on are, where the answer is yes
unfoldable pub StretchPassed : (start seeds size : ℕ) (bytes ranks : List ℕ) (r : Bool) → Type 0
StretchPassed start seeds size bytes ranks r =
    r ≡ true → (j : ℕ) → j < 128 → PieceWell seeds size (start + 10 * j) bytes (get_or ranks j 0)
