-- A well-formed picker, field by field: what the rules of the image come to, in the form in which the laws use them. Assumes nothing.
use Rattle.std.specs.Prelude.{◌≡◌, ℕ, suc, ◌≤◌, ◌<◌, Bool, true, ◌&&◌, List, [], ◌∷◌, ltb}
use Rattle.std.proofs.Math.Option.{none, some}
use Rattle.model.specs.Lists.{every, len}
use Rattle.model.specs.Bep3.{num_pieces}
use Rattle.model.specs.State.{DownloadingPiece, Picker, max_partials, is_open, piece_at, pieces_in, blocks_in_piece}
use Rattle.model.specs.change.Partials.{partial_of}
use Rattle.model.specs.image.WellFormed.{head_ok, piece_ok, block_ok, state_ok, extents_ok}
use Rattle.model.specs.list.Listed.{ListingOk}

-- the pieces of the partials rise, and none is below lo
unfoldable pub partials_from : (lo : ℕ) (ds : List DownloadingPiece) → Bool
partials_from lo [] = true
partials_from lo (d ∷ ds) = ltb lo (suc d.piece) && partials_from (suc d.piece) ds

-- the partial of piece i
pub record PartialSound (s : Picker) (i : ℕ) (d : DownloadingPiece) : Type 0 where
  pub piece : d.piece ≡ i
  pub blocks : len d.blocks ≡ blocks_in_piece s i
  pub each : every block_ok d.blocks ≡ true
  pub state : state_ok (piece_at s i) d ≡ true

-- the whole picker
pub record Sound (s : Picker) : Type 0 where
  pub head : head_ok s ≡ true
  pub many : pieces_in s ≡ num_pieces s.total_size s.piece_size
  pub piece : (i : ℕ) → i < pieces_in s → piece_ok s i (piece_at s i) ≡ true
  pub rising : partials_from 0 s.partials ≡ true
  pub few : len s.partials ≤ max_partials
  -- a piece is Open exactly where no partial stands; past the last piece none does
  pub vacant : (i : ℕ) → is_open (piece_at s i).state ≡ true → partial_of s i ≡ none
  pub standing : (i : ℕ) → partial_of s i ≡ none → is_open (piece_at s i).state ≡ true
  pub partial : (i : ℕ) (d : DownloadingPiece) → partial_of s i ≡ some d → PartialSound s i d
  pub recent_extents : extents_ok s [] s.recent_extents ≡ true
  pub list : ListingOk s
