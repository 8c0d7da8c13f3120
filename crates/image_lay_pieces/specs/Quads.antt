-- Three numbers of a piece held in one. Assumes nothing.
use Rattle.std.specs.Prelude.{ℕ, ◌+◌, ◌*◌, ◌/◌, ◌%◌, ◌≡◌, List}
use Rattle.model.specs.image.Image.{field}

-- state, priority and flushed of the piece at `at`
pub record PieceQuad (at : ℕ) (bytes : List ℕ) (q : ℕ) : Type 0 where
  pub state : q / 65536 % 256 ≡ field (at + 3) 1 bytes
  pub priority : q / 256 % 256 ≡ field (at + 4) 1 bytes
  pub flushed : q / 1 % 256 ≡ field (at + 5) 1 bytes

-- those of piece j from `start` on
abbrev pub PieceQuads : (start : ℕ) (bytes : List ℕ) (j q : ℕ) → Type 0
PieceQuads start bytes j q = PieceQuad (start + 10 * j) bytes q
