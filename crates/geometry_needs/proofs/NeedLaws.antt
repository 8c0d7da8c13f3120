-- What a picker and an image need: bounds, and the answers for a geometry that is valid and one that is not.
use mathlib.Core.Path.{◌≡◌}
use mathlib.Core.Bool.{true, false}
use Prim.Native.Nat.{ℕ, ◌*◌, ◌≤◌}
use native.Mathlib.Nat.{mul-le-mul}
use native.Mathlib.Omega.{arith}
use Rattle.model.specs.Lists.{least}
use Rattle.model.specs.Bep3.{num_pieces, whole_piece_blocks}
use Rattle.model.specs.State.{valid_geometry}
use Rattle.model.specs.Memory.{partials_needed, words_needed, cells_needed, memory_for}
use Rattle.geometry.proofs.PartLaws.{least_le}
use Rattle.geometry.proofs.ValidLaws.{bounds}
use Rattle.geometry_needs.specs.Needs.{Small, Parts, largest_image, no_memory, memory_of, Lengths, bytes_for}

-- ---- as many partials as there can be
module _ (n b : ℕ) {m : ℕ} (small : Small n b) (is : m ≡ least n 512) where
  few : m ≤ 512
  few = omega (arith, (least_le n 512).1)

  pub blocks_most : m * b ≤ 131072
  blocks_most = mul-le-mul few small.blocks_most

  pub parts_most : Parts n m (m * b) 5 n
  parts_most = record {
    pieces_most = small.pieces_most;
    partials_most = few;
    blocks_most = blocks_most;
    extents_most = omega arith;
    places_most = small.pieces_most;
  }

-- the blocks of all partials that can stand
pub held_most : (n b : ℕ) {m : ℕ} → Small n b → m ≡ partials_needed n → m * b ≤ 131072
unfolding partials_needed
held_most n b small is = blocks_most n b small is

-- ---- of a geometry
module _ (total_size piece_size : ℕ) where
  -- a valid one is within the limits
  pub small : valid_geometry total_size piece_size ≡ true → Small (num_pieces total_size piece_size) (whole_piece_blocks piece_size)
  small valid = let b = bounds total_size piece_size valid in record { pieces_most = b.pieces_most; blocks_most = b.blocks_most }

  pub memory_valid : valid_geometry total_size piece_size ≡ true
      → memory_for (num_pieces total_size piece_size) (whole_piece_blocks piece_size) ≡ memory_of total_size piece_size
  unfolding memory_of
  memory_valid h = rw h

  -- each length by itself
  pub lengths_valid : valid_geometry total_size piece_size ≡ true → {n b words cells partials : ℕ} → n ≡ num_pieces total_size piece_size
      → b ≡ whole_piece_blocks piece_size → words ≡ words_needed n b → cells ≡ cells_needed n b → partials ≡ partials_needed n
      → Lengths (memory_of total_size piece_size) words cells partials
  unfolding memory_of memory_for
  lengths_valid h e f w c p =
      record { words_same = rw (h, w, e, f); cells_same = rw (h, c, e, f); partials_same = rw (h, p, e) }

  pub lengths_none : valid_geometry total_size piece_size ≡ false → Lengths (memory_of total_size piece_size) 0 0 0
  unfolding memory_of no_memory
  lengths_none h = record { words_same = rw h; cells_same = rw h; partials_same = rw h }

  pub bytes_valid : valid_geometry total_size piece_size ≡ true → largest_image (num_pieces total_size piece_size) (whole_piece_blocks piece_size) ≡ bytes_for total_size piece_size
  unfolding bytes_for
  bytes_valid h = rw h

  pub bytes_none : valid_geometry total_size piece_size ≡ false → 0 ≡ bytes_for total_size piece_size
  unfolding bytes_for
  bytes_none h = rw h
