-- The partials of an image as they are read, one after another. Assumes nothing.
use Rattle.std.specs.Prelude.{ℕ, suc, ◌≤◌, ◌<◌, ◌≡◌, List, ◌∷◌, ◌++◌, length, drop, Err, Ok, Result}
use Rattle.model.specs.State.{Piece, DownloadingPiece, Picker, blocks_in_piece}
use Rattle.model.specs.image.Image.{Got, ret, next, field, last_queue, get_partial, get_partials}
use Rattle.memory_layout.specs.Decode.{queue_from}
use Rattle.image_pieces.specs.declared.head.Head.{Head}
use Rattle.image_pieces.specs.Places.{Failed, Went}
use Rattle.image_pieces.specs.Heads.{head_picker}
use Rattle.image_pieces.specs.Pieces.{piece_place, piece_body, piece_in, first_pieces}
use Rattle.image_partials.specs.declared.partials.Walk.{Walk}

-- ---- one partial
-- for every picker and piece of these numbers
abbrev pub PartialJudged : (at i n many state priority : ℕ) (bytes : List ℕ) (r : Result ℕ ℕ) → Type 0
PartialJudged at i n many state priority bytes r =
    (s : Picker) (p : Piece) → blocks_in_piece s i ≡ many → p.state ≡ queue_from state → p.priority ≡ priority
    → Went (get_partial s i n p (drop at bytes)) bytes r

-- ---- a piece of the walk
-- n pieces stand, each in a state
pub record StatesStand (n : ℕ) (bytes : List ℕ) : Type 0 where
  pub room : piece_place n ≤ length bytes
  pub state : (k : ℕ) → k < n → field 2 1 (piece_body bytes k) ≤ last_queue

-- what is left of the partials at piece i, before these pieces
abbrev pub partials_from : (head : Head) (i : ℕ) (w : Walk) (bytes : List ℕ) (ps : List Piece) → Got (List DownloadingPiece)
partials_from head i w bytes ps = get_partials (head_picker head) i w.many ps (drop w.at bytes)

-- piece i is passed, with its partial if it has one
pub record Passed (head : Head) (i : ℕ) (w : Walk) (bytes : List ℕ) (to : Walk) : Type 0 where
  pub found : List DownloadingPiece
  pub is : (ps : List Piece)
      → partials_from head i w bytes (piece_in bytes i ∷ ps) ≡ next (partials_from head (suc i) to bytes ps) (λ ds. ret (found ++ ds))
  pub within : to.at ≤ length bytes
  pub few : to.many ≤ suc i

-- or at fault
abbrev pub StepFails : (head : Head) (i : ℕ) (w : Walk) (bytes : List ℕ) (k : ℕ) → Type 0
StepFails head i w bytes k = (ps : List Piece) → Failed (partials_from head i w bytes (piece_in bytes i ∷ ps)) bytes k

unfoldable pub Stepped : (head : Head) (i : ℕ) (w : Walk) (bytes : List ℕ) (r : Result Walk ℕ) → Type 0
Stepped head i w bytes (Ok to) = Passed head i w bytes to
Stepped head i w bytes (Err k) = StepFails head i w bytes k

-- ---- all of them
abbrev pub PartialsRead : (head : Head) (n : ℕ) (bytes : List ℕ) (r : Result ℕ ℕ) → Type 0
PartialsRead head n bytes r = Went (get_partials (head_picker head) 0 0 (first_pieces bytes n) (drop (piece_place n) bytes)) bytes r
