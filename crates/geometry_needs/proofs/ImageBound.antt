-- A well-formed picker needs the memory of its geometry, and its image is no longer than the largest of that geometry.
use mathlib.Core.Path.{◌≡◌, sym}
use mathlib.Core.Bool.{true, true≢false}
use mathlib.Core.List.{List, [], ◌∷◌, ◌++◌}
use mathlib.Core.Logic.{⊎_elim}
use Prim.Native.Nat.{ℕ, suc, ◌+◌, ◌*◌, ◌≤◌, ◌<◌}
use native.Mathlib.Nat.{mul-le-mul_right}
use native.Mathlib.Omega.{arith}
use lib.Dec.{eqb, ltb}
use lib.ListN.{length, length-append}
use borrow.Author.Tests.{eqb-true, ltb-true}
use Rattle.model.specs.Lists.{len, from}
use Rattle.model.specs.State.{Piece, DownloadingPiece, Picker, Listing, dirty, fresh, max_partials, max_extents, is_open, valid_geometry}
use Rattle.model.specs.State.{pieces_in, blocks_per_piece, blocks_in_piece, list_of}
use Rattle.model.specs.list.Order.{with_bucket, rank}
use Rattle.model.specs.image.WellFormed.{partial_ok, partials_ok, extent_ok, extents_ok, listing_ok, well_formed, head_ok, pieces_ok}
use Rattle.model.specs.image.Image.{image}
use Rattle.model.specs.Memory.{memory_needed}
use Rattle.model.specs.Bep3.{num_pieces}
use Rattle.model.proofs.base.Bep3Laws.{blocks_in_piece_le}
use Rattle.model.proofs.base.Truths.{both_true, true_or_false}
use Rattle.model.proofs.base.Counts.{length-from}
use Rattle.model.proofs.sound.PartialLaws.{size_filter_le}
use Rattle.geometry.proofs.PartLaws.{least_most}
use Rattle.geometry.proofs.ValidLaws.{bounds}
use Rattle.geometry_needs.specs.Needs.{image_length, largest_image, blocks_of, memory_of, bytes_for}
use Rattle.geometry_needs.proofs.NeedLaws.{memory_valid, bytes_valid}
use Rattle.geometry_needs.proofs.ImageLength.{size_image}

-- ---- partials
-- so many more of them, where n stand before
pub record Few (s : Picker) (n : ℕ) (ps : List Piece) (ds : List DownloadingPiece) : Type 0 where
  pub pieces_most : len ds ≤ len ps
  pub partials_most : n + len ds ≤ max_partials
  pub blocks_most : blocks_of ds ≤ len ds * blocks_per_piece s

module _ (s : Picker) (some : 1 ≤ s.piece_size) where
  blocks_le : (i : ℕ) → blocks_in_piece s i ≤ blocks_per_piece s
  unfolding blocks_in_piece blocks_per_piece
  blocks_le i = blocks_in_piece_le s.total_size s.piece_size i some

  one : (i n : ℕ) (p : Piece) (d : DownloadingPiece) → partial_ok s i n p d ≡ true → (n < max_partials) × (len d.blocks ≤ blocks_per_piece s)
  unfolding partial_ok
  one i n p d h =
      let a = both_true (eqb d.piece i) _ h in
      let b = both_true (ltb n max_partials) _ a.1 in
      let c = both_true (eqb (len d.blocks) (blocks_in_piece s i)) _ b.1 in
      (ltb-true n max_partials b.0, omega (arith, eqb-true (len d.blocks) (blocks_in_piece s i) c.0, blocks_le i))

  few_partials : (i n : ℕ) (ps : List Piece) (ds : List DownloadingPiece) → n ≤ max_partials → partials_ok s i n ps ds ≡ true → Few s n ps ds
  unfolding partials_ok len blocks_of
  few_partials i n [] [] m h = record { pieces_most = omega arith; partials_most = omega arith; blocks_most = omega arith }
  few_partials i n [] (d ∷ ds) m h = absurd (true≢false (sym h))
  few_partials i n (p ∷ ps) [] m h = record { pieces_most = omega arith; partials_most = omega arith; blocks_most = omega arith }
  few_partials i n (p ∷ ps) (d ∷ ds) m h = ⊎_elim
      (λ e.
      let f = few_partials (suc i) n ps (d ∷ ds) m (rw e at h) in
      record { pieces_most = omega arith; partials_most = omega arith; blocks_most = f.blocks_most })
      (λ e.
      let b = both_true (partial_ok s i n p d) _ (rw e at h) in
      let o = one i n p d b.0 in
      let f = few_partials (suc i) (suc n) ps ds (omega arith) b.1 in
      record { pieces_most = omega arith; partials_most = omega arith; blocks_most = omega arith })
      (true_or_false (is_open p.state))

-- ---- extents and list places
few_extents : (s : Picker) (before es : List ℕ) → length before ≤ max_extents → extents_ok s before es ≡ true → length before + length es ≤ max_extents
unfolding extents_ok extent_ok len
few_extents s before [] m h = omega arith
few_extents s before (e ∷ es) m h =
    let b = both_true (extent_ok s before e) _ h in
    let o = ltb-true (length before) max_extents (both_true _ _ b.0).0 in
    let l = length-append before (e ∷ []) in
    omega (arith, few_extents s (before ++ (e ∷ [])) es (omega arith) b.1)

few_places : (s : Picker) (l : Listing) → listing_ok s l ≡ true → len (list_of l) ≤ pieces_in s
unfolding listing_ok list_of len with_bucket
few_places s dirty h = omega arith
few_places s (fresh l) h =
    let e = eqb-true (len l) (len (with_bucket s)) (both_true _ _ h).0 in
    omega (arith, size_filter_le (λ i. ltb 0 (rank s i)) (from 0 (pieces_in s)), length-from 0 (pieces_in s))

-- ---- the whole
-- the tests of a well-formed picker that bound the image
record Tests (s : Picker) : Type 0 where
  valid : valid_geometry s.total_size s.piece_size ≡ true
  many : pieces_in s ≡ num_pieces s.total_size s.piece_size
  partials : partials_ok s 0 0 s.pieces s.partials ≡ true
  recent_extents : extents_ok s [] s.recent_extents ≡ true
  listing : listing_ok s s.listing ≡ true

tests : (s : Picker) → well_formed s ≡ true → Tests s
unfolding well_formed head_ok
tests s well =
    let h = both_true (head_ok s) _ well in
    let n = both_true (eqb (pieces_in s) (num_pieces s.total_size s.piece_size)) _ h.1 in
    let p = both_true (pieces_ok s 0 s.pieces) _ n.1 in
    let d = both_true (partials_ok s 0 0 s.pieces s.partials) _ p.1 in
    let e = both_true (extents_ok s [] s.recent_extents) (listing_ok s s.listing) d.1 in
    record {
      valid = (both_true (valid_geometry s.total_size s.piece_size) _ h.0).0;
      many = eqb-true (pieces_in s) (num_pieces s.total_size s.piece_size) n.0;
      partials = d.0;
      recent_extents = e.0;
      listing = e.1;
    }

module _ (s : Picker) (well : well_formed s ≡ true) where
  pub image_most : len (image s) ≤ largest_image (pieces_in s) (blocks_per_piece s)
  unfolding largest_image image_length pieces_in len
  image_most =
      let t = tests s well in
      let few = few_partials s (bounds s.total_size s.piece_size t.valid).some_size 0 0 s.pieces s.partials (omega arith) t.partials in
      let m = least_most (length s.pieces) max_partials (length s.partials) few.pieces_most (omega arith) in
      omega (
        arith,
        size_image s,
        mul-le-mul_right (blocks_per_piece s) m,
        few_extents s [] s.recent_extents (omega arith) t.recent_extents,
        few_places s s.listing t.listing,
      )

  -- of its geometry
  pub image_fits : len (image s) ≤ bytes_for s.total_size s.piece_size
  unfolding blocks_per_piece
  image_fits =
      let t = tests s well in
      rw (← bytes_valid s.total_size s.piece_size t.valid, ← t.many) image_most

  pub memory_same : memory_needed s ≡ memory_of s.total_size s.piece_size
  unfolding memory_needed blocks_per_piece
  memory_same =
      let t = tests s well in
      rw (← memory_valid s.total_size s.piece_size t.valid, t.many)
