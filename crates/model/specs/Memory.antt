-- The memory that a picker stands in: three lent buffers, how long each has to be, and whether they are long enough. Assumes nothing.
use Rattle.std.specs.Prelude.{ℕ, ◌+◌, ◌*◌, Bool, ◌||◌, ltb}
use Rattle.model.specs.Lists.{least}
use Rattle.model.specs.State.{Picker, max_partials, pieces_in, blocks_per_piece}

-- lengths of the buffers: words of 64 bits, cells of 16 bits, records of partials
pub record Memory : Type 0 where
  pub words : ℕ
  pub cells : ℕ
  pub partials : ℕ

-- ---- needs of a picker of n pieces of b blocks; no more partials stand than there are pieces
unfoldable pub partials_needed : (n : ℕ) → ℕ
partials_needed n = least n max_partials

-- words of the head
abbrev pub head_length : ℕ
head_length = 16

-- the head, two for each piece, one for each block that a partial can have
unfoldable pub words_needed : (n b : ℕ) → ℕ
words_needed n b = head_length + 2 * n + partials_needed n * b

-- four for each piece, three for each such block
unfoldable pub cells_needed : (n b : ℕ) → ℕ
cells_needed n b = 4 * n + 3 * (partials_needed n * b)

-- all three
unfoldable pub memory_for : (n b : ℕ) → Memory
memory_for n b = record { words = words_needed n b; cells = cells_needed n b; partials = partials_needed n }

-- those of a picker
unfoldable pub memory_needed : (s : Picker) → Memory
memory_needed s = memory_for (pieces_in s) (blocks_per_piece s)

-- ---- the test of refusal 2
-- one of the buffers is shorter than is needed
unfoldable pub is_short : (lent need : Memory) → Bool
is_short lent need =
    ltb lent.words need.words || (ltb lent.cells need.cells || ltb lent.partials need.partials)
