-- A new picker is well-formed.
use mathlib.Core.Path.{◌≡◌, refl, sym, ap, ◌∙◌}
use Prim.Native.Nat.{ℕ, suc, ◌<◌}
use native.Mathlib.Omega.{arith}
use native.Mathlib.Decide.{dec_le}
use mathlib.Core.Bool.{true}
use mathlib.Core.Option.{none, none-ne-some}
use lib.ListN.{length-replicate, get_or-replicate}
use borrow.Author.Tests.{le-leb}
use Rattle.model.specs.Lists.{nth, len}
use Rattle.model.specs.Bep3.{num_pieces}
use Rattle.model.specs.State.{Piece, no_piece, fresh_piece, new, valid_geometry, is_open, same_queue, piece_at, pieces_in}
use Rattle.model.specs.State.{piece_size_at}
use Rattle.model.specs.change.Partials.{partial_of, find_dl_piece}
use Rattle.model.specs.image.WellFormed.{head_ok, piece_ok, extents_ok}
use Rattle.model.specs.list.Listed.{ListingOk}
use Rattle.model.specs.image.Sound.{Sound, partials_from}
use Rattle.model.proofs.sound.PieceLaws.{piece_at_beyond}

module _ (total_size bytes : ℕ) where
  many : pieces_in (new total_size bytes) ≡ num_pieces total_size bytes
  unfolding pieces_in len new
  many = length-replicate (num_pieces total_size bytes) fresh_piece

  piece_is : (i : ℕ) → i < pieces_in (new total_size bytes) → piece_at (new total_size bytes) i ≡ fresh_piece
  unfolding piece_at nth new
  piece_is i h = get_or-replicate (num_pieces total_size bytes) i fresh_piece no_piece (omega (arith, many))

  head : valid_geometry total_size bytes ≡ true → head_ok (new total_size bytes) ≡ true
  unfolding head_ok new
  head v = rw (v, le-leb (num_pieces total_size bytes) (num_pieces total_size bytes) (omega arith), le-leb 0 (num_pieces total_size bytes) (omega arith))

  piece_ok_lem : (i : ℕ) → i < pieces_in (new total_size bytes) → piece_ok (new total_size bytes) i (piece_at (new total_size bytes) i) ≡ true
  unfolding piece_ok new fresh_piece is_open same_queue
  piece_ok_lem i h = rw (piece_is i h, le-leb 0 (piece_size_at (new total_size bytes) i) (omega arith))

  all_open : (i : ℕ) → is_open (piece_at (new total_size bytes) i).state ≡ true
  unfolding is_open same_queue fresh_piece no_piece
  all_open i = elim (dec_le (suc i) (pieces_in (new total_size bytes))) [
    | yes h ↦ ap (λ (p : Piece). is_open p.state) (piece_is i h)
    | no h ↦ ap (λ (p : Piece). is_open p.state) (piece_at_beyond (new total_size bytes) i (omega (arith, h)))
  ]

  no_partial_lem : (i : ℕ) → partial_of (new total_size bytes) i ≡ none
  unfolding partial_of find_dl_piece new
  no_partial_lem i = refl

  pub new_sound : valid_geometry total_size bytes ≡ true → Sound (new total_size bytes)
  unfolding partials_from extents_ok ListingOk new len
  new_sound v = record {
    head = head v;
    many = many;
    piece = piece_ok_lem;
    rising = refl;
    few = omega arith;
    vacant = λ i e. no_partial_lem i;
    standing = λ i e. all_open i;
    partial = λ i d e. absurd (none-ne-some d (sym (no_partial_lem i) ∙ e));
    recent_extents = refl;
    list = tt;
  }
