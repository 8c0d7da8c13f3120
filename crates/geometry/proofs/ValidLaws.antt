-- A valid geometry: its test without a sum that could wrap, and the bounds that it gives.
use mathlib.Core.Path.{◌≡◌}
use mathlib.Core.Logic.{◌↔◌}
use mathlib.Core.Bool.{true, false}
use Prim.Native.Nat.{ℕ, ◌*◌, ◌≤◌, ◌<◌}
use native.Mathlib.Decide.{dec_le}
use native.Mathlib.Omega.{arith}
use lib.Dec.{leb}
use borrow.Author.Tests.{leb-true, le-leb, lt-leb}
use Rattle.model.specs.Bep3.{num_pieces}
use Rattle.model.specs.State.{valid_geometry}
use Rattle.model.proofs.base.Bep3Laws.{num_pieces_le, num_pieces_pos, blocks_per_piece_pos, blocks_per_piece_le}
use Rattle.model.proofs.base.Truths.{both_true}
use Rattle.geometry.specs.Numbers.{Bounds}

-- ---- the test
-- tests of two facts that go together
leb_same : (a b c d : ℕ) → (a ≤ b) ↔ (c ≤ d) → leb a b ≡ leb c d
leb_same a b c d e = elim (dec_le c d) [
  | yes h ↦ rw (le-leb a b (e.1 h), le-leb c d h)
  | no h ↦ rw (lt-leb a b (elim (dec_le a b) [ yes g ↦ absurd (h (e.0 g)) | no g ↦ omega arith ]), lt-leb c d (omega arith))
]

module _ (total_size piece_size : ℕ) where
  pub no_total : total_size < 1 → false ≡ valid_geometry total_size piece_size
  unfolding valid_geometry
  no_total h = rw (lt-leb 1 total_size h)

  pub no_size : 1 ≤ total_size → piece_size < 1 → false ≡ valid_geometry total_size piece_size
  unfolding valid_geometry
  no_size t h = rw (le-leb 1 total_size t, lt-leb 1 piece_size h)

  pub large_size : 1 ≤ total_size → 1 ≤ piece_size → 4194304 < piece_size → false ≡ valid_geometry total_size piece_size
  unfolding valid_geometry
  large_size t s h = rw (le-leb 1 total_size t, le-leb 1 piece_size s, lt-leb piece_size 4194304 h)

  -- what is left is the number of pieces, tested as a limit on the total
  pub by_total : 1 ≤ total_size → 1 ≤ piece_size → piece_size ≤ 4194304 → leb total_size (4096 * piece_size) ≡ valid_geometry total_size piece_size
  unfolding valid_geometry
  by_total t s h =
      rw (le-leb 1 total_size t, le-leb 1 piece_size s, le-leb piece_size 4194304 h, leb_same (num_pieces total_size piece_size) 4096 total_size (4096 * piece_size) (num_pieces_le total_size piece_size 4096 s))

  -- ---- what it gives
  pub bounds : valid_geometry total_size piece_size ≡ true → Bounds total_size piece_size
  unfolding valid_geometry
  bounds valid =
      let t = both_true _ _ valid in
      let s = both_true _ _ t.1 in
      let m = both_true _ _ s.1 in
      let some_total = leb-true 1 total_size t.0 in
      let some_size = leb-true 1 piece_size s.0 in
      let size_most = leb-true piece_size 4194304 m.0 in
      record {
        some_total = some_total;
        some_size = some_size;
        size_most = size_most;
        some_pieces = num_pieces_pos total_size piece_size some_total some_size;
        pieces_most = leb-true (num_pieces total_size piece_size) 4096 m.1;
        some_blocks = blocks_per_piece_pos piece_size some_size;
        blocks_most = blocks_per_piece_le piece_size some_size size_most;
      }
