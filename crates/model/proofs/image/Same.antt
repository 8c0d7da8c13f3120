-- The rules of an image's records read few fields of the picker: pickers with the same ones obey the same rules.
use mathlib.Core.Path.{◌≡◌, refl, ap, ap₂}
use mathlib.Core.Bool.{Bool, cond, ◌&&◌}
use mathlib.Core.List.{List, [], ◌∷◌, ◌++◌}
use Prim.Native.Nat.{ℕ, suc}
use Rattle.model.specs.State.{Piece, DownloadingPiece, Picker, Listing, dirty, fresh, is_open, piece_at, pieces_in, piece_size_at}
use Rattle.model.specs.State.{blocks_per_piece, blocks_in_piece}
use Rattle.model.specs.list.Order.{rank, with_bucket}
use Rattle.model.specs.image.WellFormed.{piece_ok, pieces_ok, partial_ok, partials_ok, extent_ok, extents_ok, place_ok, order_ok, listing_ok}

-- the fields that the rules of pieces and partials read
pub record SameHead (s t : Picker) : Type 0 where
  pub total_same : s.total_size ≡ t.total_size
  pub size_same : s.piece_size ≡ t.piece_size
  pub seeds_same : s.seeds ≡ t.seeds

module _ (s t : Picker) (h : SameHead s t) where
  piece_same : (i : ℕ) (p : Piece) → piece_ok s i p ≡ piece_ok t i p
  unfolding piece_ok piece_size_at
  piece_same i p = let a = h.total_same in let b = h.size_same in let c = h.seeds_same in rw (a, b, c)

  -- the rule of the pieces
  pub pieces_same : (i : ℕ) (ps : List Piece) → pieces_ok s i ps ≡ pieces_ok t i ps
  unfolding pieces_ok
  pieces_same i [] = refl
  pieces_same i (p ∷ ps) = ap₂ ◌&&◌ (piece_same i p) (pieces_same (suc i) ps)

  partial_same : (i n : ℕ) (p : Piece) (d : DownloadingPiece) → partial_ok s i n p d ≡ partial_ok t i n p d
  unfolding partial_ok blocks_in_piece
  partial_same i n p d = let a = h.total_same in let b = h.size_same in rw (a, b)

  -- the rule of the partials
  pub partials_same : (i n : ℕ) (ps : List Piece) (ds : List DownloadingPiece) → partials_ok s i n ps ds ≡ partials_ok t i n ps ds
  unfolding partials_ok
  partials_same i n [] [] = refl
  partials_same i n [] (d ∷ ds) = refl
  partials_same i n (p ∷ ps) [] = ap (λ (t : Bool). is_open p.state && t) (partials_same (suc i) n ps [])
  partials_same i n (p ∷ ps) (d ∷ ds) =
      ap₂ (cond (is_open p.state)) (partials_same (suc i) n ps (d ∷ ds)) (ap₂ ◌&&◌ (partial_same i n p d) (partials_same (suc i) (suc n) ps ds))

-- the fields that the rules of extents and the list read
pub record SamePieces (s t : Picker) : Type 0 where
  pub size_same : s.piece_size ≡ t.piece_size
  pub seeds_same : s.seeds ≡ t.seeds
  pub pieces_same : s.pieces ≡ t.pieces

module _ (s t : Picker) (h : SamePieces s t) where
  extent_same : (before : List ℕ) (e : ℕ) → extent_ok s before e ≡ extent_ok t before e
  unfolding extent_ok pieces_in blocks_per_piece
  extent_same before e = let a = h.size_same in let c = h.pieces_same in rw (a, c)

  -- the rule of the extents
  pub extents_same : (before es : List ℕ) → extents_ok s before es ≡ extents_ok t before es
  unfolding extents_ok
  extents_same before [] = refl
  extents_same before (e ∷ es) = ap₂ ◌&&◌ (extent_same before e) (extents_same (before ++ (e ∷ [])) es)

  place_same : (before : List ℕ) (i : ℕ) → place_ok s before i ≡ place_ok t before i
  unfolding place_ok pieces_in rank piece_at
  place_same before i = let a = h.seeds_same in let b = h.pieces_same in rw (a, b)

  order_same : (before is : List ℕ) → order_ok s before is ≡ order_ok t before is
  unfolding order_ok
  order_same before [] = refl
  order_same before (i ∷ is) = ap₂ ◌&&◌ (place_same before i) (order_same (before ++ (i ∷ [])) is)

  bucket_same : with_bucket s ≡ with_bucket t
  unfolding with_bucket pieces_in rank piece_at
  bucket_same = let a = h.seeds_same in let b = h.pieces_same in rw (a, b)

  -- the rule of the list
  pub listing_same : (l : Listing) → listing_ok s l ≡ listing_ok t l
  unfolding listing_ok
  listing_same dirty = refl
  listing_same (fresh l) = let a = bucket_same in let b = order_same [] l in rw (a, b)
