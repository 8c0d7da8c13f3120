-- The definition's reader of an image in three steps: head and pieces, partials, extents and list. Assumes nothing.
use Rattle.std.specs.Prelude.{ℕ, List, [], drop, Result}
use Rattle.model.specs.State.{Piece, DownloadingPiece, Picker, Listing, max_extents, with_pieces, with_partials, with_recent_extents}
use Rattle.model.specs.State.{with_listing}
use Rattle.model.specs.image.Image.{Reader, ret, ◌>>=◌, get_partials, get_extents, get_listing}
use Rattle.image_pieces.specs.declared.head.Head.{Head}
use Rattle.image_pieces.specs.Places.{Went}
use Rattle.image_pieces.specs.Heads.{head_picker}
use Rattle.image_pieces.specs.Pieces.{piece_place, first_pieces}

-- extents and list of a picker that has all else
unfoldable pub get_tail : (s : Picker) (listing : Listing) → Reader Picker
get_tail s listing = do
  es ← get_extents s max_extents []
  l ← get_listing s listing
  ret (with_listing l (with_recent_extents es s))

-- all behind the pieces
unfoldable pub get_body : (h : Picker) (ps : List Piece) → Reader Picker
get_body h ps = do
  ds ← get_partials h 0 0 ps
  get_tail (with_partials ds (with_pieces ps h)) h.listing

-- head and pieces of the bytes, with these partials
unfoldable pub body_picker : (head : Head) (n : ℕ) (bytes : List ℕ) (ds : List DownloadingPiece) → Picker
body_picker head n bytes ds = with_partials ds (with_pieces (first_pieces bytes n) (head_picker head))

-- where extents and list come to, whatever the partials were
abbrev pub TailRead : (at : ℕ) (head : Head) (n : ℕ) (bytes : List ℕ) (r : Result ℕ ℕ) → Type 0
TailRead at head n bytes r =
    (ds : List DownloadingPiece) → Went (get_tail (body_picker head n bytes ds) (head_picker head).listing (drop at bytes)) bytes r

-- where all behind the pieces comes to
abbrev pub BodyRead : (head : Head) (n : ℕ) (bytes : List ℕ) (r : Result ℕ ℕ) → Type 0
BodyRead head n bytes r = Went (get_body (head_picker head) (first_pieces bytes n) (drop (piece_place n) bytes)) bytes r
