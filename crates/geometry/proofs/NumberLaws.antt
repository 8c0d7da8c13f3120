-- The definitions on plain numbers are the picker's.
use mathlib.Core.Path.{◌≡◌, refl}
use Prim.Native.Nat.{ℕ}
use Rattle.model.specs.Bep3.{whole_piece_blocks}
use Rattle.model.specs.State.{Picker, piece_at, pieces_in, blocks_per_piece, blocks_in_piece, payload_blocks_in_piece, extent_for, extent_start}
use Rattle.model.specs.State.{extent_end as end_of}
use Rattle.geometry.specs.Numbers.{payload_blocks, extent_of, extent_begin, extent_end}

module _ (s : Picker) where
  pub payload_same : (i : ℕ) → payload_blocks_in_piece s i ≡ payload_blocks s.total_size s.piece_size i (piece_at s i).pad_bytes
  unfolding payload_blocks_in_piece payload_blocks blocks_in_piece
  payload_same i = refl

  pub extent_for_same : (i : ℕ) → extent_for s i ≡ extent_of (whole_piece_blocks s.piece_size) i
  unfolding extent_for extent_of blocks_per_piece
  extent_for_same i = refl

  pub extent_start_same : (e : ℕ) → extent_start s e ≡ extent_begin (whole_piece_blocks s.piece_size) e
  unfolding extent_start extent_begin blocks_per_piece
  extent_start_same e = refl

  pub extent_end_same : (e : ℕ) → end_of s e ≡ extent_end (pieces_in s) (whole_piece_blocks s.piece_size) e
  unfolding end_of extent_start extent_end extent_begin blocks_per_piece
  extent_end_same e = refl
