-- The lengths of the buffers: what each test of one says of all three, and what they give. Assumes nothing.
use Prim.Native.Nat.{ℕ, ◌+◌, ◌*◌, ◌≤◌, ◌<◌}
use mathlib.Core.Path.{◌≡◌}
use mathlib.Core.Bool.{true, false, not}
use mathlib.Core.List.{List}
use lib.Dec.{ltb, leb}
use lib.ListN.{length}
use native.Mathlib.Omega.{arith}
use native.Mathlib.Decide.{dec_le}
use borrow.Author.Tests.{lt-ltb, le-ltb, le-leb, lt-leb}
use Rattle.model.specs.Memory.{memory_for, is_short}
use Rattle.model.proofs.base.MemoryLaws.{long_enough}
use Rattle.memory_layout.specs.declared.shape.Shape.{Shape}
use Rattle.memory_layout.specs.Offsets.{places_for, words_for, cells_for}
use Rattle.memory_layout.specs.Decode.{pieces_on, blocks_on}
use Rattle.memory_layout.specs.Bounds.{ShapeOf, Spans}
use Rattle.memory_layout.specs.Good.{lengths, short}

-- not at most is more
not-leb : (x y : ℕ) → not (leb x y) ≡ ltb y x
not-leb x y =
    elim (dec_le x y) [ yes h ↦ rw (le-leb x y h, le-ltb y x h) | no h ↦ rw (lt-leb x y (omega arith), lt-ltb y x (omega arith)) ]

module _ (s : Shape) (lent : ℕ) (words cells : List ℕ) (g : ShapeOf s words) where
  -- what the words have to be, by the shape
  words_for_lem : 16 + 2 * s.pieces + s.places * s.blocks ≡ words_for (pieces_on words) (blocks_on words)
  unfolding words_for
  words_for_lem = rw (g.sizes.places, g.pieces, g.blocks)

  -- and the cells
  cells_for_lem : 4 * s.pieces + 3 * (s.places * s.blocks) ≡ cells_for (pieces_on words) (blocks_on words)
  unfolding cells_for
  cells_for_lem = rw (g.sizes.places, g.pieces, g.blocks)

  pub few_words : length words < 16 + 2 * s.pieces + s.places * s.blocks → true ≡ short lent words cells
  unfolding short lengths memory_for is_short
  few_words h = rw (lt-ltb (length words) (words_for (pieces_on words) (blocks_on words)) (rw words_for_lem at h))

  pub few_cells : 16 + 2 * s.pieces + s.places * s.blocks ≤ length words
      → length cells < 4 * s.pieces + 3 * (s.places * s.blocks) → true ≡ short lent words cells
  unfolding short lengths memory_for is_short
  few_cells h l = rw (
    le-ltb (length words) (words_for (pieces_on words) (blocks_on words)) (rw words_for_lem at h),
    lt-ltb (length cells) (cells_for (pieces_on words) (blocks_on words)) (rw cells_for_lem at l),
  )

  pub by_lent : 16 + 2 * s.pieces + s.places * s.blocks ≤ length words
      → 4 * s.pieces + 3 * (s.places * s.blocks) ≤ length cells → not (leb s.places lent) ≡ short lent words cells
  unfolding short lengths memory_for is_short
  by_lent h l = rw (
    le-ltb (length words) (words_for (pieces_on words) (blocks_on words)) (rw words_for_lem at h),
    le-ltb (length cells) (cells_for (pieces_on words) (blocks_on words)) (rw cells_for_lem at l),
    g.sizes.places,
    g.pieces,
  ) (not-leb (places_for (pieces_on words)) lent)

  -- buffers that are not short span the shape
  pub spanned : short lent words cells ≡ false → Spans s words cells
  unfolding short lengths memory_for
  spanned h =
      let e = long_enough (lengths lent words cells) (memory_for (pieces_on words) (blocks_on words)) h in
      record {
        in_words = record { sizes = g.sizes; long = rw (g.pieces, g.blocks) e.words };
        in_cells = record { sizes = g.sizes; long = rw (g.pieces, g.blocks) e.cells };
      }
