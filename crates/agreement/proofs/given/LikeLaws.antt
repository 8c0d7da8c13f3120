-- Pickers that differ in list and extents alone: all that a pick asks of a piece is the same. Assumes nothing.
use mathlib.Core.Path.{◌≡◌, refl, ap, ◌∙◌}
use Prim.Native.Nat.{ℕ, ◌≤◌}
use native.Mathlib.Omega.{arith}
use mathlib.Core.List.{List}
use Rattle.model.specs.Lists.{nth}
use Rattle.model.specs.State.{Picker, Piece, no_piece, with_recent_extents, piece_at, blocks_in_piece, payload_blocks_in_piece}
use Rattle.model.specs.list.Order.{drawing, update_pieces}
use Rattle.model.specs.change.Partials.{partial_of, find_dl_piece}
use Rattle.model.specs.pick.Blocks.{PickRequest, is_piece_free, can_pick}
use Rattle.model.proofs.list.ListingLaws.{update_pieces_only}

-- q is s but for list, extents, seeds and cursors
pub record Like (s q : Picker) : Type 0 where
  pub total_size : q.total_size ≡ s.total_size
  pub piece_size : q.piece_size ≡ s.piece_size
  pub pieces : q.pieces ≡ s.pieces
  pub partials : q.partials ≡ s.partials

pub like_self : (s : Picker) → Like s s
like_self s = record { total_size = refl; piece_size = refl; pieces = refl; partials = refl }

-- the list rebuilt
pub like_updated : (ds : List ℕ) (t : ℕ) (s q : Picker) → Like s q → Like s (update_pieces ds (drawing t q)).picker
unfolding drawing
like_updated ds t s q h =
    let o = update_pieces_only ds (drawing t q) in
    record {
      total_size = o.total_size ∙ h.total_size;
      piece_size = o.piece_size ∙ h.piece_size;
      pieces = o.pieces ∙ h.pieces;
      partials = o.partials ∙ h.partials;
    }

-- other extents
pub like_extents : (es : List ℕ) (s q : Picker) → Like s q → Like s (with_recent_extents es q)
unfolding with_recent_extents
like_extents es s q h = record { total_size = h.total_size; piece_size = h.piece_size; pieces = h.pieces; partials = h.partials }

module _ (s q : Picker) (h : Like s q) where
  pub like_piece : (i : ℕ) → piece_at q i ≡ piece_at s i
  unfolding piece_at
  like_piece i = ap (λ (ps : List Piece). nth no_piece ps i) h.pieces

  pub like_blocks : (i : ℕ) → blocks_in_piece q i ≡ blocks_in_piece s i
  unfolding blocks_in_piece
  like_blocks i = rw (h.total_size, h.piece_size)

  -- no more of them hold more than pad bytes
  pub like_payload : (i : ℕ) → payload_blocks_in_piece q i ≤ blocks_in_piece s i
  unfolding payload_blocks_in_piece
  like_payload i = omega (arith, like_blocks i)

  pub like_partial : (i : ℕ) → partial_of q i ≡ partial_of s i
  unfolding partial_of
  like_partial i = ap (find_dl_piece i) h.partials

  pub like_free : (a : PickRequest) (i : ℕ) → is_piece_free a q i ≡ is_piece_free a s i
  unfolding is_piece_free
  like_free a i = rw (like_piece i)

  pub like_can : (a : PickRequest) (i : ℕ) → can_pick a q i ≡ can_pick a s i
  unfolding can_pick
  like_can a i = rw (like_piece i, like_free a i)
