-- Each case of what a pick gives occurs, computed: on the pickers below, which are well-formed, the unchanged Rust gives the same blocks.
-- A statement without the case, or with more asked of it, would be false.
use mathlib.Core.Path.{◌≡◌, refl}
use Prim.Native.Nat.{ℕ}
use mathlib.Core.Bool.{Bool, true, false}
use mathlib.Core.List.{List, [], ◌∷◌}
use mathlib.Core.Option.{none, some}
use Rattle.types.specs.declared.queue.DownloadQueue.{DownloadQueue}
use Rattle.types.specs.declared.queue.DownloadQueue.TheVariants.{Downloading, Full, Open}
use Rattle.types.specs.declared.block.BlockState.TheVariants.{None, Requested}
use Rattle.model.specs.State.{Block, DownloadingPiece, Picker, with_pieces, with_partials, with_recent_extents, new}
use Rattle.model.specs.pick.Blocks.{PickRequest, PieceBlock, piece_block}
use Rattle.model.specs.pick.Pick.{pick_pieces}
use Rattle.model.specs.image.WellFormed.{well_formed}
use Rattle.model.specs.Calls.{request_fits}
use Rattle.model.proofs.cases.Everything.{everything}

-- one piece of this length, in this state, with so many pad bytes; its partials and recent extents
abbrev one : (length : ℕ) (state : DownloadQueue) (pad_bytes : ℕ) (ds : List DownloadingPiece) (es : List ℕ) → Picker
one length state pad_bytes ds es =
    with_recent_extents es
    (with_partials ds
    (with_pieces (record { peer_count = 1; state = state; priority = 4; flushed = false; pad_bytes = pad_bytes } ∷ []) (new length length)))

abbrev partial : (locked : Bool) (bs : List Block) → DownloadingPiece
partial locked bs = record { piece = 0; passed_hash_check = false; locked = locked; hashing = false; blocks = bs }

abbrev free : Block
free = record { state = None; num_peers = 0; peer = none }

-- peer 1 has it
abbrev requested : Block
requested = record { state = Requested; num_peers = 1; peer = some 1 }

-- peer 2 has the piece, and is asked for so many blocks
abbrev asking : (options wanted contiguous : ℕ) → PickRequest
asking options wanted contiguous =
    record {
      options = options;
      wanted = wanted;
      contiguous = contiguous;
      peers = 10;
      peer = some 2;
      bits = 1;
      bytes = 128 ∷ [];
      suggestions = [];
    }

-- the pick is on a well-formed picker, not refused for its arguments, and gives these blocks where every draw is 0
record Gives (s : Picker) (a : PickRequest) (blocks : List PieceBlock) : Type 0 where
  well : well_formed s ≡ true
  fits : request_fits s a ≡ true
  gives : (pick_pieces [] s a).out ≡ blocks

-- a block of an Open piece; with a run in the random walk its pad block too, else not
open_piece : Gives (one 32768 Open 16384 [] []) (asking 0 3 0) (piece_block 0 0 ∷ [])
unfolding everything
open_piece = record { well = refl; fits = refl; gives = refl }

pad_block : Gives (one 32768 Open 16384 [] []) (asking 0 3 2) (piece_block 0 0 ∷ piece_block 0 1 ∷ [])
unfolding everything
pad_block = record { well = refl; fits = refl; gives = refl }

-- a block twice: by its extent, then by the list
twice : Gives (one 16384 Open 0 [] (0 ∷ [])) (asking 129 3 0) (piece_block 0 0 ∷ piece_block 0 0 ∷ [])
unfolding everything
twice = record { well = refl; fits = refl; gives = refl }

-- the free block of a partial, though another peer works on the piece
partial_block : Gives (one 32768 Downloading 0 (partial false (requested ∷ free ∷ []) ∷ []) []) (asking 0 1 0) (piece_block 0 1 ∷ [])
unfolding everything
partial_block = record { well = refl; fits = refl; gives = refl }

-- the end game, of a locked piece
locked_full : Gives (one 1 Full 0 (partial true (requested ∷ []) ∷ []) []) (asking 0 1 0) (piece_block 0 0 ∷ [])
unfolding everything
locked_full = record { well = refl; fits = refl; gives = refl }

-- none to a peer on parole
on_parole : Gives (one 1 Full 0 (partial true (requested ∷ []) ∷ []) []) (asking 4 1 0) []
unfolding everything
on_parole = record { well = refl; fits = refl; gives = refl }
