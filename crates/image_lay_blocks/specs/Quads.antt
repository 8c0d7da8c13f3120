-- Three numbers of a block held in one. Assumes nothing.
use Rattle.std.specs.Prelude.{ℕ, ◌+◌, ◌*◌, ◌/◌, ◌%◌, ◌≡◌, List}
use Rattle.model.specs.image.Image.{field}

-- state, num_peers and has-peer of the block at `at`
pub record BlockQuad (at : ℕ) (bytes : List ℕ) (q : ℕ) : Type 0 where
  pub state : q / 16777216 % 256 ≡ field (at + 1) 1 bytes
  pub num_peers : q / 256 % 65536 ≡ field (at + 2) 2 bytes
  pub has : q / 1 % 256 ≡ field (at + 4) 1 bytes

-- those of block j from `start` on
abbrev pub BlockQuads : (start : ℕ) (bytes : List ℕ) (j q : ℕ) → Type 0
BlockQuads start bytes j q = BlockQuad (start + 13 * j) bytes q
